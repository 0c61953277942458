use Rattle.std.proofs.Common.{ℕ, List, ◌++◌, ap, sym, ◌∙◌, append_assoc}
use Rattle.script_text.specs.Setups.{opening_row}
use Rattle.tact_base.proofs.RangeLists.{flat_map_range_more}
use Rattle.script_text.proofs.setups.push_rows.Goals as goal

pub loop-preserved : goal.loop-preserved
loop-preserved c =
    let row = opening_row c.args.replicas c.args.loan c.args.owner in
    c.in_ok-push_row.ensures
    ∙ ap (λ (xs : List ℕ). xs ++ row) c.loop.invariant
    ∙ append_assoc c.args.list.now _ _
    ∙ ap (λ (xs : List ℕ). c.args.list.now ++ xs) (sym (flat_map_range_more (λ conit. row) c.loop.counter))
