use Rattle.std.proofs.Common.{arith}
use Rattle.run_model.proofs.OpBytes.{op_reader}
use Rattle.run_model.proofs.Readers.{found, only, no_fault}
use Rattle.run_model.proofs.get_bytes.get_op.Goals as goal

pub returns-in_err-op-clause-only : goal.returns-in_err-op-clause-only
returns-in_err-op-clause-only c = λ op fits stands.
    absurd (no_fault op_reader c.args.bytes.now c.args.place.now (λ i. omega (arith, c.type_inv.bytes i)) c.in_err-op.field-0.0 c.requires c.in_err-op.ensures.exact op fits stands)

pub returns-clause-found : goal.returns-clause-found
returns-clause-found c =
    let t = found op_reader c.args.bytes.now c.args.place.now (λ i. omega (arith, c.type_inv.bytes i)) c.in_ok-op.op c.in_ok-op.next c.in_ok-op.ensures.exact in
    (t.0, t.1, t.2)

pub returns-clause-only : goal.returns-clause-only
returns-clause-only c = λ op fits stands.
    only op_reader c.args.bytes.now c.args.place.now (λ i. omega (arith, c.type_inv.bytes i)) c.in_ok-op.op c.in_ok-op.next c.requires c.in_ok-op.ensures.exact op fits stands
