use Rattle.std.proofs.Common.{arith}
use Rattle.tact_msg.proofs.MessageReader.{one_message}
use Rattle.tact_msg.proofs.laws.one_message_at_front.Goals as goal

pub returns : goal.returns
returns c = one_message c.args.bytes.now (λ i. omega (arith, c.type_inv.bytes i))
