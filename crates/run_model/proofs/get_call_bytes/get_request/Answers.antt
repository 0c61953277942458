use Rattle.std.proofs.Common.{arith}
use Rattle.run_model.proofs.RequestBytes.{request_reader}
use Rattle.run_model.proofs.Readers.{found, only, no_fault}
use Rattle.run_model.proofs.get_call_bytes.get_request.Goals as goal

pub returns-in_err-request-clause-only : goal.returns-in_err-request-clause-only
returns-in_err-request-clause-only c = λ request fits stands.
    absurd (no_fault (request_reader c.args.conits) c.args.bytes.now c.args.place.now (λ i. omega (arith, c.type_inv.bytes i)) c.in_err-request.field-0.0 c.requires
    c.in_err-request.ensures.exact request fits stands)

pub returns-clause-found : goal.returns-clause-found
returns-clause-found c =
    let t = found (request_reader c.args.conits) c.args.bytes.now c.args.place.now (λ i. omega (arith, c.type_inv.bytes i)) c.in_ok-request.request c.in_ok-request.next
    c.in_ok-request.ensures.exact in
    (t.0, t.1, t.2)

pub returns-clause-only : goal.returns-clause-only
returns-clause-only c = λ request fits stands.
    only (request_reader c.args.conits) c.args.bytes.now c.args.place.now (λ i. omega (arith, c.type_inv.bytes i)) c.in_ok-request.request c.in_ok-request.next
    c.requires c.in_ok-request.ensures.exact request fits stands
