use Rattle.std.proofs.Common.{arith}
use Rattle.std.proofs.lemmas.List.{length-take}
use Rattle.tact_base.specs.declared.conit_list.Need.{Need}
use Rattle.run_model.proofs.WeightBytes.{need_in_limits, need_reader}
use Rattle.run_model.specs.Bytes.{need_bytes, need_at}
use Rattle.run_model.proofs.ListBytes.{never_refused}
use Rattle.run_model.proofs.get_bytes.needs_at.Goals as goal

pub returns-in-Err-clause-exact : goal.returns-in-Err-clause-exact
returns-in-Err-clause-exact c =
    absurd (never_refused (λ (x : Need). x.conit) need_in_limits need_bytes c.args.conits (record { conit = 0; num = 0; order = 0; stale = 0 }) (need_at c.args.conits) (need_reader c.args.conits)
    c.in-Err.field-0 _ c.args.bytes.now _ _ _ (λ i. omega (arith, c.type_inv.bytes i))
    (omega (arith, c.in_ok-count.ensures.within, length-take {A = Need})) c.in_ok-place.ensures.ok c.in-Err.ensures)
