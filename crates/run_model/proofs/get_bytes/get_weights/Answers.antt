use Rattle.std.proofs.Common.{arith}
use Rattle.run_model.proofs.WeightBytes.{weights_reader}
use Rattle.run_model.proofs.Readers.{found, only, no_fault}
use Rattle.run_model.proofs.get_bytes.get_weights.Goals as goal

pub returns-in_err-weights-clause-only : goal.returns-in_err-weights-clause-only
returns-in_err-weights-clause-only c = λ weights fits stands.
    absurd (no_fault (weights_reader c.args.conits) c.args.bytes.now c.args.place.now (λ i. omega (arith, c.type_inv.bytes i)) c.in_err-weights.field-0.0 c.requires
    c.in_err-weights.ensures.exact weights fits stands)

pub returns-clause-found : goal.returns-clause-found
returns-clause-found c =
    let t = found (weights_reader c.args.conits) c.args.bytes.now c.args.place.now (λ i. omega (arith, c.type_inv.bytes i)) c.in_ok-weights.weights c.in_ok-weights.next
    c.in_ok-weights.ensures.exact in
    (t.0, t.1, t.2)

pub returns-clause-only : goal.returns-clause-only
returns-clause-only c = λ weights fits stands.
    only (weights_reader c.args.conits) c.args.bytes.now c.args.place.now (λ i. omega (arith, c.type_inv.bytes i)) c.in_ok-weights.weights c.in_ok-weights.next
    c.requires c.in_ok-weights.ensures.exact weights fits stands
