use Rattle.std.proofs.Common.{subst}
use Rattle.run_model.specs.Ranges.{IsActInRange}
use Rattle.restart_journal.proofs.EntryPieces.{message_of_some}
use Rattle.restart_journal.proofs.Putting.{a_conit, a_replica}
use Rattle.restart_journal.proofs.put_piece.append_fields.Goals as goal

pub append_send-requires : goal.append_send-requires
append_send-requires c =
    let within = subst (IsActInRange c.requires.can_be_put.setup c.args.entry.now.replica) c.in-Send.is c.requires.can_be_put.in_range.act in
    a_replica c.requires.can_be_put.setup c.requires.can_be_put.good c.in-Send.message.to within.0.to

pub encode-requires : goal.encode-requires
encode-requires c =
    let within = subst (IsActInRange c.requires.can_be_put.setup c.args.entry.now.replica) c.in-Take.is c.requires.can_be_put.in_range.act in
    message_of_some c.requires.can_be_put.setup c.in-Take.message within.0 c.requires.can_be_put.good

pub append_loan-requires-clause-replica : goal.append_loan-requires-clause-replica
append_loan-requires-clause-replica c =
    let within = subst (IsActInRange c.requires.can_be_put.setup c.args.entry.now.replica) c.in-Lend.is c.requires.can_be_put.in_range.act in
    a_replica c.requires.can_be_put.setup c.requires.can_be_put.good c.in-Lend.to within.0

pub append_loan-requires-clause-conit : goal.append_loan-requires-clause-conit
append_loan-requires-clause-conit c =
    let within = subst (IsActInRange c.requires.can_be_put.setup c.args.entry.now.replica) c.in-Lend.is c.requires.can_be_put.in_range.act in
    a_conit c.requires.can_be_put.setup c.requires.can_be_put.good c.in-Lend.conit within.2

pub append_loan-requires-in-Back-clause-replica : goal.append_loan-requires-in-Back-clause-replica
append_loan-requires-in-Back-clause-replica c =
    let within = subst (IsActInRange c.requires.can_be_put.setup c.args.entry.now.replica) c.in-Back.is c.requires.can_be_put.in_range.act in
    a_replica c.requires.can_be_put.setup c.requires.can_be_put.good c.in-Back.owner within.0

pub append_loan-requires-in-Back-clause-conit : goal.append_loan-requires-in-Back-clause-conit
append_loan-requires-in-Back-clause-conit c =
    let within = subst (IsActInRange c.requires.can_be_put.setup c.args.entry.now.replica) c.in-Back.is c.requires.can_be_put.in_range.act in
    a_conit c.requires.can_be_put.setup c.requires.can_be_put.good c.in-Back.conit within.2
