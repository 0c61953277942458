use Rattle.std.proofs.Common.{subst}
use Rattle.run_model.specs.Ranges.{IsActInRange}
use Rattle.restart_journal.proofs.Putting.{a_replica, conits_below}
use Rattle.restart_journal.proofs.put_piece.call_piece.Goals as goal

pub fill_front-requires-clause-replica : goal.fill_front-requires-clause-replica
fill_front-requires-clause-replica c =
    a_replica c.requires.can_be_put.setup c.requires.can_be_put.good c.args.entry.now.replica c.requires.can_be_put.in_range.replica

pub fill_call-requires-clause-conits : goal.fill_call-requires-clause-conits
fill_call-requires-clause-conits c =
    let setup = c.requires.can_be_put.setup in
    let within = subst (IsActInRange setup c.args.entry.now.replica) c.in-Call.is c.requires.can_be_put.in_range.act in
    conits_below setup c.requires.can_be_put.good c.in-Call.request within.1
