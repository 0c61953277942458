use Rattle.std.proofs.Common.{◌≡◌, drop}
use Rattle.std.specs.List.{slice_get, filter_map}
use Rattle.tact_base.specs.Setup.{setup, owners_and_conits, row_fault, alpha_of, loans_of, first_row_fault}
use Rattle.run_model.proofs.config.first_row_fault.Given as goal

-- the rows that are left have the same first fault as all
abbrev pub invariant-loop-place : goal.invariant-loop-place
invariant-loop-place l =
    let s = setup l.replicas l.conits l.alphas l.loans in
    slice_get (filter_map (λ (owner, conit). row_fault owner conit (alpha_of s owner conit) (loans_of s owner conit)) (drop l.place (owners_and_conits s))) 0
    ≡ first_row_fault s
