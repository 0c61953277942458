use Rattle.restart_journal.proofs.PieceLaws.{is_read}
use Rattle.restart_journal.proofs.laws.put_is_read.Goals as goal

pub returns : goal.returns
returns c = is_read
