use Rattle.std.proofs.Common.{◌≡◌, ◌++◌, ◌∷◌, [], Some, map, sym, ap, ◌∙◌, subst}
use Rattle.run_model.specs.Runs.{IsRun}
use Rattle.run_model.proofs.PrefixLemmas.{IsPrefix-same}
use Rattle.restart_journal.specs.Pieces.{piece_bytes}
use Rattle.journal_reread.specs.Rereading.{with_kept}
use Rattle.entry_journal.specs.EntryJournals.{IsKeptOf}
use Rattle.locked_replica.specs.Locks.{LockedView, part_in}
use Rattle.locked_replica.specs.Restarting.{HasTotalsWith}
use Rattle.locked_replica.proofs.Allowing.{part-entered}
use Rattle.locked_replica.proofs.Entering.{HasEntered-before}
use Rattle.locked_replica.proofs.Rereading.{IsJournaled-reread}
use Rattle.locked_replica.proofs.locked.Locked.make_again.Goals as goal

pub redraw-requires-clause-run : goal.redraw-requires-clause-run
redraw-requires-clause-run g c = subst (λ (v : LockedView). IsRun c.args.desk.now.setup v.clerk.seen) (sym c.store_room.ensures.value) c.requires.run

pub returns-in-Some-clause-found : goal.returns-in-Some-clause-found
returns-in-Some-clause-found g c =
    let entry = c.in-Some.entry in
    let value = c.store_room.ensures.value in
    let is : c.in_ok-replica.field-0.kept ≡ Some entry = cc in
    let seen = IsPrefix-same _ _ (ap (λ (v : LockedView). v.clerk.seen) (sym value)) in
    record {
      entry = entry;
      was = subst (IsKeptOf c.args.journal.now.doubt) is c.in_ok-replica.ensures.kept;
      entered = HasEntered-before c.args.self.now c.store_room.new.self c.redraw.new.self c.args.self.now.clerk.seen entry
          (ap (λ (v : LockedView). v.core) value) (ap (λ (v : LockedView). v.stored) value) seen seen c.redraw.ensures.entered;
      totals = subst (λ (v : LockedView). HasTotalsWith v c.redraw.new.self entry.act) value c.redraw.ensures.totals;
      counts = c.redraw.ensures.found;
    }

pub returns-in-Some-clause-journaled : goal.returns-in-Some-clause-journaled
returns-in-Some-clause-journaled g c =
    let entry = c.in-Some.entry in
    let before = c.args.self.now in
    let middle = c.store_room.new.self in
    let value = c.store_room.ensures.value in
    let read = c.in_ok-replica.ensures in
    let is : c.in_ok-replica.field-0.kept ≡ Some entry = cc in
    let part : part_in c.redraw.new.self ≡ part_in before ++ entry ∷ [] =
    part-entered middle c.redraw.new.self _ entry c.redraw.ensures.entered ∙ ap (λ (v : LockedView). part_in v ++ entry ∷ []) value in
    IsJournaled-reread before c.redraw.new.self c.args.journal.now c.read_again.new.journal (Some entry) c.requires.journaled c.read_again.ensures.tells
    (λ told. read.told told ∙ ap (λ kept. map piece_bytes (with_kept (part_in middle) kept)) is ∙ ap (λ (v : LockedView). map piece_bytes (part_in v ++ entry ∷ [])) value)
    part read.sure.0 read.sure.1 c.read_again.ensures.never_falls

pub returns-in-Some-clause-told : goal.returns-in-Some-clause-told
returns-in-Some-clause-told g c = λ told.
    let entry = c.in-Some.entry in
    let middle = c.store_room.new.self in
    let is : c.in_ok-replica.field-0.kept ≡ Some entry = cc in
    let part : part_in c.redraw.new.self ≡ part_in middle ++ entry ∷ [] = part-entered middle c.redraw.new.self _ entry c.redraw.ensures.entered in
    sym (c.read_again.ensures.stays told) ∙ c.in_ok-replica.ensures.told told ∙ ap (λ kept. map piece_bytes (with_kept (part_in middle) kept)) is
    ∙ ap (map piece_bytes) (sym part)
