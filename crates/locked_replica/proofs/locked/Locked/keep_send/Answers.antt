use Rattle.std.proofs.Common.{Some, sym, ap}
use Rattle.std.proofs.lemmas.Result.{err_from_is_err_and}
use Rattle.run_model.proofs.PrefixLemmas.{IsPrefix-same}
use Rattle.locked_replica.specs.Journals.{MayComeNext}
use Rattle.locked_replica.specs.Locks.{LockedView}
use Rattle.locked_replica.proofs.Journaling.{DoubtMayCome-later, IsJournaled-doubt, IsJournaled-same, IsUntouched-refl}
use Rattle.locked_replica.proofs.locked.Locked.keep_send.Goals as goal

pub returns-in_err-store_room-clause-journaled : goal.returns-in_err-store_room-clause-journaled
returns-in_err-store_room-clause-journaled g c =
    let old = c.args.self.now in
    let value = c.store_room.ensures.value in
    let given = err_from_is_err_and c.from_residual-in_err-store_room.result c.from_residual-in_err-store_room.ensures.1 in
    rw given.1
    (IsJournaled-same old c.store_room.new.self c.args.journal.now c.args.journal.now c.requires.journaled (IsUntouched-refl c.args.journal.now)
    (ap (λ (v : LockedView). v.stored) value) (ap (λ (v : LockedView). v.core) value) (IsPrefix-same _ _ (ap (λ (v : LockedView). v.clerk.seen) (sym value))))

pub returns-in_err-piece-clause-journaled : goal.returns-in_err-piece-clause-journaled
returns-in_err-piece-clause-journaled g c =
    let old = c.args.self.now in
    let value = c.store_room.ensures.value in
    let given = err_from_is_err_and c.from_residual-in_err-piece.result c.from_residual-in_err-piece.ensures.1 in
    rw given.1
    (IsJournaled-same old c.store_room.new.self c.args.journal.now c.prepare.new.self c.requires.journaled c.prepare.ensures.untouched
    (ap (λ (v : LockedView). v.stored) value) (ap (λ (v : LockedView). v.core) value) (IsPrefix-same _ _ (ap (λ (v : LockedView). v.clerk.seen) (sym value))))

pub returns-in_err-entry-2-clause-journaled : goal.returns-in_err-entry-2-clause-journaled
returns-in_err-entry-2-clause-journaled g c =
    let old = c.args.self.now in
    let mid = c.store_room.new.self in
    let had = c.prepare.new.self in
    let value = c.store_room.ensures.value in
    let stored = ap (λ (v : LockedView). v.stored) value in
    let core = ap (λ (v : LockedView). v.core) value in
    let seen = IsPrefix-same old.clerk.seen mid.clerk.seen (ap (λ (v : LockedView). v.clerk.seen) (sym value)) in
    let journaled = IsJournaled-same old mid c.args.journal.now had c.requires.journaled c.prepare.ensures.untouched stored core seen in
    let next : MayComeNext mid c.in_ok-entry.entry = DoubtMayCome-later old mid (Some c.in_ok-entry.entry) stored core seen c.in_ok-entry.ensures.next in
    let given = err_from_is_err_and c.from_residual-in_err-entry-2.result c.from_residual-in_err-entry-2.ensures.1 in
    rw given.1 (IsJournaled-doubt mid c.in_ok-entry.entry had c.keep.new.journal journaled c.in_err-entry-2.ensures.doubt next c.in_err-entry-2.ensures.counts.1)
