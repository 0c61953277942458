use Rattle.std.proofs.Common.{ap, ◌∙◌, subst}
use Rattle.tact_base.specs.Setup.{Setup}
use Rattle.run_history.specs.Seats.{DeskView}
use Rattle.run_history.specs.Ticks.{entries_of}
use Rattle.locked_replica.specs.Journals.{LeavesJournal}
use Rattle.replica_lock.specs.Sessions.{NodeView}
use Rattle.replica_lock.specs.declared.label.Label.{Label}
use Rattle.replica_lock.proofs.node.Node.end.Goals as goal

pub returns-clause-next : goal.returns-clause-next
returns-clause-next g c =
    let setup =
    ap (λ (l : Label). l.desk.setup) c.end.ensures.label ∙ ap (λ (d : DeskView). d.setup) c.self.invariant.desk_is
    ∙ ap (λ (n : NodeView). n.desk.setup) c.self.view_is in
    subst (λ (s : Setup). LeavesJournal s c.ended.result.clerk g.J.Journal.tells (g.J.Journal.pieces c.ended.result.journal) (g.J.Journal.faults c.ended.result.journal) (entries_of c.ended.result.stored))
    setup c.ended.ensures.next
