use Rattle.std.proofs.Common.{◌≡◌, ◌/◌, ◌%◌, ◌∙◌, sym, arith}
use Rattle.tact_base.specs.Setup.{setup}
use Rattle.tact_base.proofs.SetupLemmas.{HasCounts-from_good, row_in, owner_in_row, row_of, row_of-at_place, none_from_is_some, first_of-drop_none, first_of-drop_at, first_of-drop_all}
use Rattle.run_model.proofs.config.first_row_fault.Goals as goal

pub row-loans-requires : goal.row-loans-requires
row-loans-requires c =
    let s = setup c.args.replicas c.args.conits c.args.alphas.now c.args.loans.now in
    row_in s (HasCounts-from_good s c.requires) c.loop-place.place (omega arith)

pub row_fault-fault-requires : goal.row_fault-fault-requires
row_fault-fault-requires c =
    let s = setup c.args.replicas c.args.conits c.args.alphas.now c.args.loans.now in
    rw c.row-loans.ensures (owner_in_row s (HasCounts-from_good s c.requires) c.loop-place.place (omega arith))

pub returns-then-is_some-clause-first : goal.returns-then-is_some-clause-first
returns-then-is_some-clause-first c =
    let s = setup c.args.replicas c.args.conits c.args.alphas.now c.args.loans.now in
    let p = c.loop-place.place in
    let at : c.row_fault-fault.result ≡ row_of s (p / s.conits, p % s.conits) = c.row_fault-fault.ensures.fault ∙ rw c.row-loans.ensures (sym (row_of-at_place s p)) in
    sym (first_of-drop_at s p _ (omega arith) (sym at) (sym c.is_some.ensures ∙ c.if-is_some.true)) ∙ c.loop-place.invariant

pub loop-place-preserved : goal.loop-place-preserved
loop-place-preserved c =
    let s = setup c.args.replicas c.args.conits c.args.alphas.now c.args.loans.now in
    let p = c.loop-place.place in
    let at : c.row_fault-fault.result ≡ row_of s (p / s.conits, p % s.conits) = c.row_fault-fault.ensures.fault ∙ rw c.row-loans.ensures (sym (row_of-at_place s p)) in
    first_of-drop_none s p (omega arith) (sym at ∙ none_from_is_some _ (sym c.is_some.ensures ∙ c.if-is_some.false)) ∙ c.loop-place.invariant

pub returns-clause-first : goal.returns-clause-first
returns-clause-first c =
    let s = setup c.args.replicas c.args.conits c.args.alphas.now c.args.loans.now in
    sym (first_of-drop_all s c.loop-place.place (omega arith)) ∙ c.loop-place.invariant
