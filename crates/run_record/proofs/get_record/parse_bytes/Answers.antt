use Rattle.std.proofs.Common.{arith}
use Rattle.run_record.proofs.RecordReader.{read_is_spelled, spelled_is_read}
use Rattle.run_record.proofs.get_record.parse_bytes.Goals as goal

pub returns-clause-found : goal.returns-clause-found
returns-clause-found c = read_is_spelled c.args.bytes.now c.record_at.result (λ i. omega (arith, c.type_inv.bytes i)) c.record_at.ensures

pub returns-clause-only : goal.returns-clause-only
returns-clause-only c = λ held good spells enough.
    spelled_is_read c.args.bytes.now c.record_at.result (λ i. omega (arith, c.type_inv.bytes i)) (omega arith) c.record_at.ensures held good spells enough
