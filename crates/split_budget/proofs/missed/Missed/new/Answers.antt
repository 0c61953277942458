use Rattle.std.proofs.Common.{refl}
use Rattle.std.proofs.lemmas.List.{length-replicate}
use Rattle.split_budget.proofs.Places.{get_or-replicate_same}
use Rattle.split_budget.proofs.missed.Missed.new.Goals as goal

pub invariant_of-result : goal.invariant_of-result
invariant_of-result c =
    let plus = c.in_ok-vec.ensures.items_if_clones_equal (λ y same. same) in
    let minus = c.in_ok-vec-2.ensures.items_if_clones_equal (λ y same. same) in
    rw (plus, minus) refl

pub returns : goal.returns
returns c =
    let plus = c.in_ok-vec.ensures.items_if_clones_equal (λ y same. same) in
    let minus = c.in_ok-vec-2.ensures.items_if_clones_equal (λ y same. same) in
    rw (plus, minus) (record {
      on = length-replicate c.args.conits 0;
      plus = λ conit. get_or-replicate_same c.args.conits conit 0;
      minus = λ conit. get_or-replicate_same c.args.conits conit 0;
    })
