use Rattle.std.proofs.Common.{arith}
use Rattle.run_model.proofs.ReplyBytes.{reply_reader}
use Rattle.run_model.proofs.Readers.{found, only, no_fault}
use Rattle.run_model.proofs.get_call_bytes.get_reply.Goals as goal

pub returns-in_err-reply-clause-only : goal.returns-in_err-reply-clause-only
returns-in_err-reply-clause-only c = λ reply small wide stands.
    absurd (no_fault reply_reader c.args.bytes.now c.args.place.now (λ i. omega (arith, c.type_inv.bytes i)) c.in_err-reply.field-0.0 c.requires
    c.in_err-reply.ensures.exact reply (small, wide) stands)

pub returns-clause-found : goal.returns-clause-found
returns-clause-found c =
    let t = found reply_reader c.args.bytes.now c.args.place.now (λ i. omega (arith, c.type_inv.bytes i)) c.in_ok-reply.reply c.in_ok-reply.next c.in_ok-reply.ensures.exact in
    (t.0.0, t.0.1, t.1, t.2)

pub returns-clause-only : goal.returns-clause-only
returns-clause-only c = λ reply small wide stands.
    only reply_reader c.args.bytes.now c.args.place.now (λ i. omega (arith, c.type_inv.bytes i)) c.in_ok-reply.reply c.in_ok-reply.next c.requires
    c.in_ok-reply.ensures.exact reply (small, wide) stands
