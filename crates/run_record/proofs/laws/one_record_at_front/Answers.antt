use Rattle.std.proofs.Common.{arith}
use Rattle.run_record.proofs.RecordReader.{one_record}
use Rattle.run_record.proofs.laws.one_record_at_front.Goals as goal

pub returns : goal.returns
returns c = one_record c.args.bytes.now (λ i. omega (arith, c.type_inv.bytes i)) (omega arith)
