use Rattle.std.proofs.Common.{◌≡◌, ℕ, List, None, Some, map, take, refl, sym, ap, subst, ◌∙◌, arith}
use Rattle.std.specs.List.{slice_get}
use Rattle.std.proofs.lemmas.Result.{err_from_is_err_and}
use Rattle.tact_base.specs.declared.limits.TheConstants.{HISTORY_MAX}
use Rattle.restart_journal.specs.declared.fault.RecoverFault.TheVariants as fault
use Rattle.restart_journal.specs.Pieces.{piece_bytes}
use Rattle.restart_journal.specs.Recovery.{IsBadAfter}
use Rattle.restart_journal.specs.StepFaults.{read_fault}
use Rattle.restart_journal.specs.Steps.{HasRead}
use Rattle.restart_journal.proofs.Ending.{tells_nothing, names_no_place, is_its_fault, fault_rose}
use Rattle.restart_journal.proofs.Reading.{can_be_put, its_part, whole_journal, foreign_there, full_there, spellable_then, spelled_then}
use Rattle.restart_journal.proofs.recovering.read_all.Goals as goal

pub returns-in_err-piece-clause-told : goal.returns-in_err-piece-clause-told
returns-in_err-piece-clause-told g c =
    let given = err_from_is_err_and c.from_residual-in_err-piece.result c.from_residual-in_err-piece.ensures.1 in
    λ tells. rw (given.1, given.2) (tells_nothing c.args.config.now c.args.replica (g.J.Journal.pieces c.args.journal.now) c.in_err-piece.field-0.0)

pub returns-in_err-piece-clause-placed : goal.returns-in_err-piece-clause-placed
returns-in_err-piece-clause-placed g c =
    let given = err_from_is_err_and c.from_residual-in_err-piece.result c.from_residual-in_err-piece.ensures.1 in
    rw (given.1, given.2) (names_no_place c.in_err-piece.field-0.0)

pub returns-in_err-piece-clause-failed : goal.returns-in_err-piece-clause-failed
returns-in_err-piece-clause-failed g c =
    let given = err_from_is_err_and c.from_residual-in_err-piece.result c.from_residual-in_err-piece.ensures.1 in
    λ is.
    let same : read_fault c.in_err-piece.field-0.0 ≡ fault.JournalReadFault = sym given.2 ∙ is_its_fault _ _ _ given.1 is in
    fault_rose c.in_err-piece.field-0.0 (g.J.Journal.faults c.args.journal.now) (g.J.Journal.faults c.loop-place.journal) (g.J.Journal.faults c.read.new.self)
    c.loop-place.invariant.risen c.in_err-piece.ensures.never_falls (λ e. c.in_err-piece.ensures.failed (rw e refl)) same

pub returns-in_default-clause-stored : goal.returns-in_default-clause-stored
returns-in_default-clause-stored g c =
    let inv = c.loop-place.invariant in
    can_be_put c.args.config.now c.args.replica c.loop-place.made.stored c.requires.sound
    (its_part c.args.config.now c.args.replica c.loop-place.made inv.setup inv.replica inv.in_step inv.spellable (g.J.Journal.pieces c.args.journal.now)) inv.spellable

pub returns-in_default-clause-told : goal.returns-in_default-clause-told
returns-in_default-clause-told g c =
    let inv = c.loop-place.invariant in
    λ tells.
    let there : None ≡ slice_get (g.J.Journal.pieces c.args.journal.now) c.loop-place.place =
    sym c.in_default.is ∙ c.in_ok-piece.ensures.found tells ∙ ap (λ ps. slice_get ps c.loop-place.place) (inv.stays tells) in
    whole_journal c.args.config.now c.args.replica c.loop-place.made inv.setup inv.replica inv.in_step inv.spellable (g.J.Journal.pieces c.args.journal.now) c.loop-place.place (inv.spelled tells) there

pub returns-in-Err-Foreign-clause-told : goal.returns-in-Err-Foreign-clause-told
returns-in-Err-Foreign-clause-told g c =
    let inv = c.loop-place.invariant in
    λ tells.
    let there : Some c.in-Some.piece ≡ slice_get (g.J.Journal.pieces c.args.journal.now) c.loop-place.place =
    sym c.in-Some.is ∙ c.in_ok-piece.ensures.found tells ∙ ap (λ ps. slice_get ps c.loop-place.place) (inv.stays tells) in
    let none = rw c.in-Err-Foreign.field-0-is at c.in-Err-Foreign.ensures.err in
    let bad = subst (IsBadAfter c.loop-place.made.replica.core.setup c.loop-place.made.replica.core.replica c.loop-place.made.stored) c.items.ensures none in
    foreign_there c.args.config.now c.args.replica c.loop-place.made inv.setup inv.replica inv.in_step inv.spellable (g.J.Journal.pieces c.args.journal.now) c.loop-place.place c.in-Some.piece
    c.loop-place-test.true (inv.spelled tells) there bad

pub loop-place-preserved : goal.loop-place-preserved
loop-place-preserved g c =
    let inv = c.loop-place.invariant in
    let read = subst (HasRead c.loop-place.made c.read-in-loop-place.new.self) c.items.ensures c.in-Ok.ensures.ok in
    record {
      setup = read.stored.same.0 ∙ inv.setup;
      replica = read.stored.same.1 ∙ inv.replica;
      in_step = read.stored.stands;
      spellable = spellable_then c.loop-place.made c.read-in-loop-place.new.self c.in-Some.piece read inv.spellable;
      spelled = λ tells.
          spelled_then c.loop-place.made c.read-in-loop-place.new.self c.in-Some.piece read (g.J.Journal.pieces c.args.journal.now) c.loop-place.place
          (sym (sym c.in-Some.is ∙ c.in_ok-piece.ensures.found tells ∙ ap (λ ps. slice_get ps c.loop-place.place) (inv.stays tells))) (inv.spelled tells);
      stays = λ tells. c.in_ok-piece.ensures.stays tells ∙ inv.stays tells;
      room_pieces = c.in_ok-piece.ensures.pieces ∙ inv.room_pieces;
      room_bytes = c.in_ok-piece.ensures.bytes ∙ inv.room_bytes;
      risen = omega (arith, inv.risen, c.in_ok-piece.ensures.never_falls);
    }

pub returns-in_err-read-clause-told : goal.returns-in_err-read-clause-told
returns-in_err-read-clause-told g c =
    let given = err_from_is_err_and c.from_residual-in_err-read.result c.from_residual-in_err-read.ensures.1 in
    λ tells. rw (given.1, given.2) (tells_nothing c.args.config.now c.args.replica (g.J.Journal.pieces c.args.journal.now) c.in_err-read.field-0.0)

pub returns-in_err-read-clause-placed : goal.returns-in_err-read-clause-placed
returns-in_err-read-clause-placed g c =
    let given = err_from_is_err_and c.from_residual-in_err-read.result c.from_residual-in_err-read.ensures.1 in
    rw (given.1, given.2) (names_no_place c.in_err-read.field-0.0)

pub returns-in_err-read-clause-failed : goal.returns-in_err-read-clause-failed
returns-in_err-read-clause-failed g c =
    let given = err_from_is_err_and c.from_residual-in_err-read.result c.from_residual-in_err-read.ensures.1 in
    λ is.
    let same : read_fault c.in_err-read.field-0.0 ≡ fault.JournalReadFault = sym given.2 ∙ is_its_fault _ _ _ given.1 is in
    fault_rose c.in_err-read.field-0.0 (g.J.Journal.faults c.args.journal.now) (g.J.Journal.faults c.loop-place.journal) (g.J.Journal.faults c.read-2.new.self)
    c.loop-place.invariant.risen c.in_err-read.ensures.never_falls (λ e. c.in_err-read.ensures.failed (rw e refl)) same

pub returns-in-None-clause-stored : goal.returns-in-None-clause-stored
returns-in-None-clause-stored g c =
    let inv = c.loop-place.invariant in
    can_be_put c.args.config.now c.args.replica c.loop-place.made.stored c.requires.sound
    (its_part c.args.config.now c.args.replica c.loop-place.made inv.setup inv.replica inv.in_step inv.spellable (g.J.Journal.pieces c.args.journal.now)) inv.spellable

pub returns-in-None-clause-told : goal.returns-in-None-clause-told
returns-in-None-clause-told g c =
    let inv = c.loop-place.invariant in
    let end : c.loop-place.place ≡ HISTORY_MAX = omega arith in
    λ tells.
    let so_far = subst (λ (n : ℕ). take n (g.J.Journal.pieces c.args.journal.now) ≡ map piece_bytes c.loop-place.made.stored) end (inv.spelled tells) in
    let there : None ≡ slice_get (g.J.Journal.pieces c.args.journal.now) HISTORY_MAX =
    sym c.in-None.is ∙ c.in_ok-read.ensures.found tells ∙ ap (λ ps. slice_get ps HISTORY_MAX) (inv.stays tells) in
    whole_journal c.args.config.now c.args.replica c.loop-place.made inv.setup inv.replica inv.in_step inv.spellable (g.J.Journal.pieces c.args.journal.now) HISTORY_MAX so_far there

pub returns-in-Some-2-clause-told : goal.returns-in-Some-2-clause-told
returns-in-Some-2-clause-told g c =
    let inv = c.loop-place.invariant in
    let end : c.loop-place.place ≡ HISTORY_MAX = omega arith in
    λ tells.
    let so_far = subst (λ (n : ℕ). take n (g.J.Journal.pieces c.args.journal.now) ≡ map piece_bytes c.loop-place.made.stored) end (inv.spelled tells) in
    let there : Some c.in-Some-2.field-0 ≡ slice_get (g.J.Journal.pieces c.args.journal.now) HISTORY_MAX =
    sym c.in-Some-2.is ∙ c.in_ok-read.ensures.found tells ∙ ap (λ ps. slice_get ps HISTORY_MAX) (inv.stays tells) in
    full_there c.args.config.now c.args.replica c.loop-place.made inv.setup inv.replica inv.in_step inv.spellable (g.J.Journal.pieces c.args.journal.now) c.in-Some-2.field-0 so_far there
