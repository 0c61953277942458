use Rattle.std.proofs.Common.{List, ℕ, sym, ap, ◌∙◌, subst}
use Rattle.tact_base.specs.Setup.{Setup}
use Rattle.run_model.specs.Runs.{IsRun}
use Rattle.run_model.specs.declared.entry.Entry.{Entry}
use Rattle.replica_core.specs.Stands.{Stands}
use Rattle.journal_reread.specs.Rereading.{MayBeNext, entries_in, with_kept}
use Rattle.locked_replica.specs.Journals.{DoubtMayCome}
use Rattle.locked_replica.specs.Locks.{LockedView, part_in}
use Rattle.locked_replica.proofs.Rereading.{MayBeNext-doubt}
use Rattle.locked_replica.proofs.locked.Locked.read_again.Goals as goal

pub reread-requires-clause-next : goal.reread-requires-clause-next
reread-requires-clause-next g c =
    let before : LockedView = Rattle.locked_replica.specs.declared.locked.Locked.TheView.view c.self.inside in
    let doubt = c.args.journal.now.doubt in
    let run = subst (λ (v : LockedView). IsRun v.core.setup v.clerk.seen) (sym c.self.view_is) c.requires.run in
    let next = subst (λ (v : LockedView). DoubtMayCome v doubt) (sym c.self.view_is) c.requires.journaled.next in
    let number = c.replica_number-number.ensures ∙ sym (ap (λ (v : LockedView). v.core.replica) c.self.view_is) in
    subst (λ (items : List (ℕ × Entry)). MayBeNext c.self.inside.config c.replica_number-number.result (entries_in items) doubt) (sym c.items.ensures)
    (subst (λ (r : ℕ). MayBeNext c.self.inside.config r (part_in before) doubt) (sym number)
    (subst (λ (s : Setup). MayBeNext s before.core.replica (part_in before) doubt) (sym c.self.invariant.3) (MayBeNext-doubt before c.self.invariant.0 run doubt next)))

pub returns-clause-stands : goal.returns-clause-stands
returns-clause-stands g c =
    let read = c.in_ok-reread.field-0 in
    subst (λ (items : List (ℕ × Entry)). Stands (with_kept (entries_in items) read.kept) read.replica.core) (c.items.ensures ∙ ap (λ (v : LockedView). v.stored) c.self.view_is)
    c.in_ok-reread.ensures.stands
