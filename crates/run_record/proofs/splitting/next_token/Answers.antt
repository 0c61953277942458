use Rattle.std.proofs.Common.{◌<◌, ◌≡◌, length, arith, sym, ◌∙◌}
use Rattle.std.proofs.lemmas.Bool.Decides.{nat_tests}
use Rattle.run_record.proofs.SplitLemmas.{tokens_empty, tokens_some, tokens_none}
use Rattle.run_record.proofs.splitting.next_token.Goals as goal

pub returns-then-not-is_empty : goal.returns-then-not-is_empty
returns-then-not-is_empty c =
    let some : 0 < length c.loop-rest.rest.now = grind (arith, nat_tests) in
    let token : 0 < length c.split_first.result.0.now = grind (arith, nat_tests) in
    sym c.loop-rest.invariant ∙ tokens_some _ _ _ (c.split_first.ensures.pieces some) token

pub loop-rest-preserved : goal.loop-rest-preserved
loop-rest-preserved c =
    let some : 0 < length c.loop-rest.rest.now = grind (arith, nat_tests) in
    let token : length c.split_first.result.0.now ≡ 0 = grind (arith, nat_tests) in
    sym (tokens_empty _ _ _ (c.split_first.ensures.pieces some) token) ∙ c.loop-rest.invariant

pub returns : goal.returns
returns c =
    let none : length c.loop-rest.rest.now ≡ 0 = grind (arith, nat_tests) in
    sym c.loop-rest.invariant ∙ tokens_none _ none
