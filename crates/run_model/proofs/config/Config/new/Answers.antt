use Rattle.std.proofs.Common.{◌∙◌, sym, refl}
use Rattle.std.proofs.lemmas.Result.{err_from_is_err_and}
use Rattle.tact_base.specs.Setup.{setup}
use Rattle.tact_base.proofs.SetupLemmas.{config_fault-at_counts, config_fault-at_rows}
use Rattle.run_model.proofs.config.Config.new.Goals as goal

pub returns-then-not-are_counts_good : goal.returns-then-not-are_counts_good
returns-then-not-are_counts_good c =
    config_fault-at_counts (setup c.args.replicas c.args.conits c.args.alphas.now c.args.loans.now) (sym c.are_counts_good.ensures ∙ c.if-not-are_counts_good.true)

pub returns-in-Some : goal.returns-in-Some
returns-in-Some c =
    let s = setup c.args.replicas c.args.conits c.args.alphas.now c.args.loans.now in
    let at_rows = config_fault-at_rows s (sym c.are_counts_good.ensures ∙ c.if-not-are_counts_good.false) in
    rw (at_rows ∙ sym c.first_row_fault.ensures.first ∙ c.in-Some.is) c.in-Some.ensures.own

pub returns-in_err-from_slice : goal.returns-in_err-from_slice
returns-in_err-from_slice c =
    let s = setup c.args.replicas c.args.conits c.args.alphas.now c.args.loans.now in
    let at_rows = config_fault-at_rows s (sym c.are_counts_good.ensures ∙ c.if-not-are_counts_good.false) in
    let p = err_from_is_err_and c.from_residual.result c.from_residual.ensures.1 in
    rw (p.1, p.2) (at_rows ∙ sym c.first_row_fault.ensures.first ∙ c.in_default.is)

pub returns-in_err-from_slice-2 : goal.returns-in_err-from_slice-2
returns-in_err-from_slice-2 c =
    let s = setup c.args.replicas c.args.conits c.args.alphas.now c.args.loans.now in
    let at_rows = config_fault-at_rows s (sym c.are_counts_good.ensures ∙ c.if-not-are_counts_good.false) in
    let p = err_from_is_err_and c.from_residual-in_err-from_slice-2.result c.from_residual-in_err-from_slice-2.ensures.1 in
    rw (p.1, p.2) (at_rows ∙ sym c.first_row_fault.ensures.first ∙ c.in_default.is)

pub invariant_of-result : goal.invariant_of-result
invariant_of-result c =
    let s = setup c.args.replicas c.args.conits c.args.alphas.now c.args.loans.now in
    let at_rows = config_fault-at_rows s (sym c.are_counts_good.ensures ∙ c.if-not-are_counts_good.false) in
    rw (c.in_ok-from_slice.ensures, c.in_ok-from_slice-2.ensures) (at_rows ∙ sym c.first_row_fault.ensures.first ∙ c.in_default.is)

pub returns : goal.returns
returns c =
    let s = setup c.args.replicas c.args.conits c.args.alphas.now c.args.loans.now in
    let at_rows = config_fault-at_rows s (sym c.are_counts_good.ensures ∙ c.if-not-are_counts_good.false) in
    (at_rows ∙ sym c.first_row_fault.ensures.first ∙ c.in_default.is, rw (c.in_ok-from_slice.ensures, c.in_ok-from_slice-2.ensures) refl)
