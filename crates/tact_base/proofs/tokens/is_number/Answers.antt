use Rattle.std.proofs.Common.{rules, tests, ◌≡◌, ◌<◌, length}
use Rattle.std.specs.List.{list_all}
use Rattle.std.specs.Char.{is_ascii_digit}
use Rattle.std.proofs.lemmas.Bool.{lt-ltb}
use Rattle.std.proofs.lemmas.Iterator.{YieldsList-from_slice}
use Rattle.std.proofs.lemmas.Iterator.Search.{all_from_yields_List}
use Rattle.tact_base.proofs.tokens.is_number.Goals as goal

pub returns-then-not-is_empty : goal.returns-then-not-is_empty
returns-then-not-is_empty c =
    let token = c.args.token.now in
    let some : 0 < length token = search rules in
    let digits : c.all.result ≡ list_all is_ascii_digit token =
    all_from_yields_List is_ascii_digit _ _ c.all.result c.all.ensures.ran (YieldsList-from_slice token cc) (λ x b q k. search (rules, tests)) in
    rw (lt-ltb 0 (length token) some) digits
