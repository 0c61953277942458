use Rattle.restart_journal.proofs.DueReplies.{due_can_be_put}
use Rattle.restart_journal.proofs.laws.due_can_be_put.Goals as goal

pub returns : goal.returns
returns c = due_can_be_put
