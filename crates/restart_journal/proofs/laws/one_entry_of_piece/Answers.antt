use Rattle.restart_journal.proofs.PieceLaws.{one_of_piece}
use Rattle.restart_journal.proofs.laws.one_entry_of_piece.Goals as goal

pub returns : goal.returns
returns c = one_of_piece
