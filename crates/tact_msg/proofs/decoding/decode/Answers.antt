use Rattle.std.proofs.Common.{arith}
use Rattle.tact_msg.proofs.MessageReader.{decoded, only_decoded}
use Rattle.tact_msg.proofs.decoding.decode.Goals as goal

pub returns-clause-found : goal.returns-clause-found
returns-clause-found c = decoded c.args.bytes.now c.message_at.result (λ i. omega (arith, c.type_inv.bytes i)) c.message_at.ensures

pub returns-clause-only : goal.returns-clause-only
returns-clause-only c = λ message good stands enough.
    only_decoded c.args.bytes.now c.message_at.result (λ i. omega (arith, c.type_inv.bytes i)) c.message_at.ensures message good stands enough
