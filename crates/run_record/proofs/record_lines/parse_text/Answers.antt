use Rattle.std.proofs.Common.{arith}
use Rattle.run_record.proofs.PrintedRecord.{printed_is_told}
use Rattle.run_record.proofs.record_lines.parse_text.Goals as goal

pub returns-clause-again : goal.returns-clause-again
returns-clause-again c = λ held good spells enough.
    printed_is_told c.args.bytes.now c.record_of.result (omega arith) c.record_of.ensures.exact held good spells enough
