use Rattle.std.proofs.Common.{◌≡◌, ◌<◌, ℕ, All, Contains, sym, ap, ◌∙◌, subst}
use Rattle.tact_base.specs.declared.limits.TheConstants.{CLIENTS}
use Rattle.tact_base.specs.Setup.{Setup}
use Rattle.run_history.specs.Seats.{DeskView}
use Rattle.run_history.specs.Ticks.{entries_of}
use Rattle.locked_replica.specs.Journals.{LeavesJournal}
use Rattle.replica_lock.specs.Rosters.{AreAllSessions, no_numbers}
use Rattle.replica_lock.specs.Sessions.{HasPlacesOf, NodeView, SessionView, numbers_of}
use Rattle.replica_lock.specs.declared.label.Label.{Label}
use Rattle.replica_lock.proofs.Ending.{all-sessions}
use Rattle.replica_lock.proofs.node.Node.finish.Goals as goal

pub returns-clause-sessions : goal.returns-clause-sessions
returns-clause-sessions g c =
    let kept = c.end.result in
    let locked = kept.state in
    let tally = c.gathered-tally.result in
    let roster = c.args.roster in
    let sessions = c.args.sessions.items in
    let width : roster.conits ≡ locked.core.setup.conits =
    c.requires.roster.conits ∙ ap (λ (n : NodeView). n.desk.setup.conits) (sym c.self.view_is)
    ∙ ap (λ (d : DeskView). d.setup.conits) (sym (ap (λ (l : Label). l.desk) c.end.ensures.label ∙ c.self.invariant.desk_is)) in
    subst (λ stored. AreAllSessions roster.clients sessions (entries_of stored) g.J.Journal.tells (g.J.Journal.faults c.ended.result.journal)) (sym c.ended.ensures.stored)
    (subst (λ count. AreAllSessions roster.clients sessions (entries_of locked.stored) g.J.Journal.tells count) (sym c.ended.ensures.faults.0)
    (subst (λ tells. AreAllSessions roster.clients sessions (entries_of locked.stored) tells kept.journal.faults) c.ended.ensures.faults.1
    (all-sessions locked kept.journal kept.book kept.owes roster.clients sessions tally c.ended.ensures.kept c.ended.ensures.accounted c.end.ensures.owned
    (subst (λ n. All (λ (s : SessionView). HasPlacesOf n s.client (numbers_of s) tally) sessions) width c.gathered-tally.ensures.sessions)
    c.gathered-tally.ensures.counted c.requires.whole c.gathered-tally.ensures.among c.gathered-tally.ensures.apart
    (subst (λ n. (client : ℕ) → client < CLIENTS → (Contains roster.clients client → ⊥) → HasPlacesOf n client no_numbers tally) width c.gathered-tally.ensures.others))))

pub returns-clause-next : goal.returns-clause-next
returns-clause-next g c =
    let setup =
    ap (λ (l : Label). l.desk.setup) c.end.ensures.label ∙ ap (λ (d : DeskView). d.setup) c.self.invariant.desk_is
    ∙ ap (λ (n : NodeView). n.desk.setup) c.self.view_is in
    subst (λ (s : Setup). LeavesJournal s c.ended.result.clerk g.J.Journal.tells (g.J.Journal.pieces c.ended.result.journal) (g.J.Journal.faults c.ended.result.journal) (entries_of c.ended.result.stored))
    setup c.ended.ensures.next
