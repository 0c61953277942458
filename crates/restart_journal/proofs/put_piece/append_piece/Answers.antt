use Rattle.restart_journal.proofs.Putting.{a_replica, no_call}
use Rattle.restart_journal.proofs.put_piece.append_piece.Goals as goal

pub append_front-requires-clause-replica : goal.append_front-requires-clause-replica
append_front-requires-clause-replica c = a_replica c.requires.setup c.requires.good c.args.entry.now.replica c.requires.in_range.replica

pub append_fields-requires-clause-no_call : goal.append_fields-requires-clause-no_call
append_fields-requires-clause-no_call c = no_call c.args.entry.now.act c.in_default.not-Call
