-- What a replica makes of what a piece tells, and why it makes nothing.
use Rattle.std.proofs.Common.{◌≡◌, ℕ, ◌<◌, ◌≤◌, ◌||◌, true, false, List, [], ◌∷◌, ◌++◌, length, None, Some, Option, Result, Ok, Err, refl, sym, ap, ap₂, subst, ◌∙◌, arith}
use Rattle.std.specs.Result.{IfErr, OnOk}
use Rattle.std.proofs.lemmas.Result.{on_ok_weaker}
use Rattle.std.proofs.lemmas.Bool.{lt-leb, false≢true}
use Rattle.std.proofs.lemmas.Option.{same_Some}
use Rattle.tact_base.specs.declared.limits.TheConstants.{HISTORY_MAX, STAMP_MAX}
use Rattle.tact_base.specs.Setup.{Setup, IsSetup}
use Rattle.run_model.specs.Histories.{last_moment, moment_at}
use Rattle.run_model.specs.Ranges.{IsEntryInRange}
use Rattle.run_model.specs.declared.entry.Act.{Act}
use Rattle.run_model.specs.declared.entry.Act.TheVariants as act
use Rattle.run_model.specs.declared.entry.Entry.{Entry}
use Rattle.run_model.specs.declared.entry.Message.{Message}
use Rattle.run_model.proofs.ByteLemmas.{AreBytes}
use Rattle.replica_core.specs.States.{Core, ReplicaState, is_full}
use Rattle.replica_core.specs.Stands.{Stands, GoesOn, IsSameReplica, IsFaultOf}
use Rattle.replica_core.specs.declared.fault.CoreFault.{CoreFault}
use Rattle.replica_core.specs.declared.fault.CoreFault.TheVariants as core
use Rattle.restart_journal.specs.declared.fault.StepFault.{StepFault}
use Rattle.restart_journal.specs.declared.fault.StepFault.TheVariants as step
use Rattle.restart_journal.specs.declared.parts.Piece.{Piece}
use Rattle.restart_journal.specs.declared.parts.Told.{Told}
use Rattle.restart_journal.specs.declared.parts.Told.TheVariants as told
use Rattle.run_record.specs.declared.short.ShortAct.TheVariants as short
use Rattle.restart_journal.specs.declared.recovered.Recovered.{Recovered}
use Rattle.restart_journal.specs.Pieces.{IsPieceOf}
use Rattle.restart_journal.specs.PieceAt.{IsPiece, a_piece, entry_with, entry_told, told_of, piece_of, piece_in, spelling}
use Rattle.restart_journal.specs.StepFaults.{step_of}
use Rattle.restart_journal.specs.Steps.{IsInStep, HasStored, HasFollowed, HasRead, MayBeNext, IsNoneTold, IsNoneRead}
use Rattle.restart_journal.proofs.EntryPieces.{due_entry, piece_tells, spelling-piece_of, told_is_spellable}
use Rattle.restart_journal.proofs.PieceReader.{told_is_spelled}

-- ---- none is made

module _ (made : Recovered) (piece : Piece) where
  -- the entry that is told, which may not follow
  pub none_told : (one : Entry)
      → entry_told made.replica.core.setup made.stored piece ≡ Some one
      → (piece_of one ≡ piece → MayBeNext made one → ⊥)
      → IsNoneTold made piece step.Foreign
  none_told one is bad entry told may =
      let same : entry ≡ one = same_Some entry one (sym (due_entry made.replica.core.setup made.stored entry may.1) ∙ ap (entry_told made.replica.core.setup made.stored) told ∙ is) in
      bad (subst (λ (e : Entry). piece_of e ≡ piece) same told) (subst (MayBeNext made) same may)

  module _ (stands : IsInStep made) where
    -- a full replica makes no entry
    pub full_is_none : is_full made.replica.core ≡ true → IsNoneTold made piece step.Foreign
    full_is_none full entry told may =
        let not_full : is_full made.replica.core ≡ false =
        ap₂ (λ x y. x || y)
        (lt-leb HISTORY_MAX made.replica.core.counts.count (omega (arith, may.1.room, stands.counts.count)))
        (lt-leb STAMP_MAX made.replica.core.writes.clock (omega (arith, stands.writes.clock, may.1.clock_below))) in
        false≢true (sym not_full ∙ full)

    pub fault_is_none : (fault : CoreFault) → IsFaultOf made.replica.core fault → IsNoneTold made piece (step_of fault)
    fault_is_none (core.Full count clock) is = full_is_none is.0
    fault_is_none core.NoMemory is = tt

    -- an entry of another replica, and one of an earlier moment
    pub other_is_none : (replica : ℕ)
        → made.replica.core.replica ≡ replica
        → (piece.replica ≡ replica → ⊥)
        → IsNoneTold made piece step.Foreign
    other_is_none replica is other entry told may = other (sym (ap (λ (p : Piece). p.replica) told) ∙ may.0 ∙ is)

    pub early_is_none : (last : ℕ)
        → last ≡ made.replica.core.counts.last
        → piece.moment < last
        → IsNoneTold made piece step.Foreign
    early_is_none last is early entry told may =
        let moment : entry.moment ≡ piece.moment = ap (λ (p : Piece). p.moment) told in
        absurd (omega (arith, is, early, moment, may.1.moment, stands.counts.last))

-- ---- one is made

module _ (old new : Recovered) (stands : IsInStep old) (replica moment : ℕ) (is : old.replica.core.replica ≡ replica) (in_time : last_moment old.stored ≤ moment)
    (done : Act) (acts : List Entry → Act) (acted : acts old.stored ≡ done)
    (goes_on : GoesOn old.replica.core new.replica.core moment acts) (same : IsSameReplica old.replica.core new.replica.core)
    (stored : new.stored ≡ old.stored ++ entry_with replica moment done ∷ []) where
  has_stored : HasStored old new (entry_with replica moment done)
  has_stored =
      let at : moment_at old.stored moment ≡ moment = omega (arith, in_time) in
      let entry : entry_with old.replica.core.replica (moment_at old.stored moment) (acts old.stored) ≡ entry_with replica moment done = cc in
      let grown : old.stored ++ entry_with old.replica.core.replica (moment_at old.stored moment) (acts old.stored) ∷ [] ≡ new.stored =
      ap (λ e. old.stored ++ e ∷ []) entry ∙ sym stored in
      record {
        stored = stored;
        stands = subst (λ part. Stands part new.replica.core) grown (goes_on old.stored stands);
        same = same;
      }

  pub has_followed : (told : Told) → told_of done ≡ told → HasFollowed old new (a_piece replica moment told)
  has_followed told so = record { entry = entry_with replica moment done; told = ap (a_piece replica moment) so; stored = has_stored }

-- a sent message is told by its receiver, its number and its firsts
pub send_is_told : (message : Message) (to number : ℕ) (firsts : List ℕ)
    → message.to ≡ to
    → message.number ≡ number
    → message.firsts ≡ firsts
    → told_of (act.Send message) ≡ told.Step (short.Send to number firsts)
send_is_told message to number firsts one two three = cc

-- it is put behind the others, after the replica made it
module _ (old mid new : Recovered) (stands : IsInStep old) (replica moment : ℕ) (is : old.replica.core.replica ≡ replica) (in_time : last_moment old.stored ≤ moment)
    (done : Act) (acts : List Entry → Act) (acted : acts old.stored ≡ done)
    (goes_on : GoesOn old.replica.core mid.replica.core moment acts) (same : IsSameReplica old.replica.core mid.replica.core)
    (kept : mid.stored ≡ old.stored) (there : new.replica ≡ mid.replica) (told : Told) (so : told_of done ≡ told)
    (result : Result (Unit {0}) StepFault) where
  pub made_and_put : OnOk result (new.stored ≡ mid.stored ++ entry_with replica moment done ∷ []) → OnOk result (HasFollowed old new (a_piece replica moment told))
  made_and_put stored =
      on_ok_weaker result
      (λ put. has_followed old new stands replica moment is in_time done acts acted
      (subst (λ (r : ReplicaState). GoesOn old.replica.core r.core moment acts) (sym there) goes_on)
      (subst (λ (r : ReplicaState). IsSameReplica old.replica.core r.core) (sym there) same)
      (put ∙ ap (λ front. front ++ entry_with replica moment done ∷ []) kept) told so)
      stored

-- ---- a piece is read

module _ (setup : Setup) (good : IsSetup setup) (bytes : List ℕ) (fits : AreBytes bytes) (old : Recovered) (same : old.replica.core.setup ≡ setup) where
  -- bytes that tell nothing are no piece
  pub unread_is_none : piece_in setup.replicas setup.conits bytes ≡ None → IsNoneRead old bytes step.Foreign
  unread_is_none none entry is may =
      let within = subst (λ s. IsEntryInRange s entry) same may.1.in_range in
      some_or_none (piece_of entry) (sym (piece_tells setup bytes entry fits good within is) ∙ none)
    where
      some_or_none : (p : Piece) → Some p ≡ None → ⊥
      some_or_none p e = cc

  module _ (piece : Piece) (read : piece_in setup.replicas setup.conits bytes ≡ Some piece) where
    pub can_follow : IsPiece old.replica.core.setup piece
    can_follow = subst (λ s. IsPiece s piece) (sym same) (told_is_spelled setup bytes piece fits read).0

    -- what is told so is of the piece
    pub none_is_read : (fault : StepFault) → IsNoneTold old piece fault → IsNoneRead old bytes fault
    none_is_read step.NoMemory none = tt
    none_is_read step.Foreign none = λ entry is may.
        let within = subst (λ s. IsEntryInRange s entry) same may.1.in_range in
        none entry (same_Some (piece_of entry) piece (sym (piece_tells setup bytes entry fits good within is) ∙ read)) may

    pub has_read : (new : Recovered) → HasFollowed old new piece → HasRead old new bytes
    has_read new followed =
        let spelled = told_is_spelled setup bytes piece fits read in
        let told = subst (λ p. IsPiece setup p) (sym followed.told) spelled.0 in
        record {
          entry = followed.entry;
          piece = record {
            spelled = spelled.1 ∙ ap spelling (sym followed.told) ∙ spelling-piece_of followed.entry;
            spellable = told_is_spellable setup followed.entry.replica followed.entry.act told.told;
          };
          stored = followed.stored;
        }

-- ---- what is answered after an entry was put behind the others

-- the entry is stored, or memory is wanting
pub stored_or_none : (made : Recovered) (piece : Piece) (result : Result (Unit {0}) StepFault)
    → IfErr result (λ fault. fault ≡ step.NoMemory)
    → IfErr result (IsNoneTold made piece)
stored_or_none made piece (Ok done) is = tt
stored_or_none made piece (Err fault) is = subst (IsNoneTold made piece) (sym is) tt
