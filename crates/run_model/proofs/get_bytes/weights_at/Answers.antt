use Rattle.std.proofs.Common.{pos, arith}
use Rattle.std.proofs.lemmas.List.{length-take}
use Rattle.tact_base.specs.declared.conit_list.Weight.{Weight}
use Rattle.tact_base.proofs.ConitListLemmas.{weight_in_limits}
use Rattle.run_model.proofs.WeightBytes.{weight_reader}
use Rattle.run_model.specs.Bytes.{weight_bytes, weight_at}
use Rattle.run_model.proofs.ListBytes.{never_refused}
use Rattle.run_model.proofs.get_bytes.weights_at.Goals as goal

pub returns-in-Err-clause-exact : goal.returns-in-Err-clause-exact
returns-in-Err-clause-exact c =
    absurd (never_refused (λ (x : Weight). x.conit) weight_in_limits weight_bytes c.args.conits (record { conit = 0; nweight = pos 0; oweight = 0 })
    (weight_at c.args.conits) (weight_reader c.args.conits)
    c.in-Err.field-0 _ c.args.bytes.now _ _ _ (λ i. omega (arith, c.type_inv.bytes i))
    (omega (arith, c.in_ok-count.ensures.within, length-take {A = Weight})) c.in_ok-place.ensures.ok c.in-Err.ensures)
