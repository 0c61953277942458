use Rattle.std.proofs.Common.{rules, tests, ◌≡◌, ap, ◌∙◌, nat_le, suc}
use Rattle.std.specs.Option.{option_map}
use Rattle.std.proofs.lemmas.Iterator.{YieldsList-from_slice, YieldsList-from_zip}
use Rattle.std.proofs.lemmas.Iterator.Adapters.{YieldsList-from_skip}
use Rattle.std.proofs.lemmas.Iterator.Search.{position_from_yields_List}
use Rattle.tact_base.proofs.conit_list.first_unordered.Goals as goal

pub returns : goal.returns
returns g c =
    let items = c.args.items.now in
    let pairs = c.zip.result in
    let at = position_from_yields_List (λ pair. nat_le (g.T.OnConit.conit_of pair.1) (g.T.OnConit.conit_of pair.0)) c.position.new.self _ c.position.result c.position.ensures.ran
    (YieldsList-from_zip {s = pairs} (YieldsList-from_slice {s = pairs.a} items cc) (YieldsList-from_skip {s = pairs.b} 1 (YieldsList-from_slice {s = pairs.b.iter} items cc) cc))
    (λ x b q k. search (rules, tests)) in
    let mapped : c.map.result ≡ option_map suc c.position.result = search rules in
    mapped ∙ ap (option_map suc) at
