use Rattle.run_record.proofs.PrintedRecord.{printed_again}
use Rattle.run_record.proofs.laws.printed_is_read.Goals as goal

pub returns : goal.returns
returns c = λ held is fits. printed_again held is fits
