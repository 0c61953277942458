-- Journals that are put back one by one.
use Rattle.std.proofs.Common.{◌≡◌, ◌≢◌, ◌⊎◌, ℕ, ◌+◌, ◌-◌, ◌^◌, ◌<◌, ◌≤◌, Bool, List, [], ◌∷◌, ◌++◌, All, Option, None, Some, get_or, length, map, refl, sym, ap, ◌∙◌, subst, inl, inr, ⊎_elim, arith}
use Rattle.std.specs.Prelude.{IsTrue}
use Rattle.std.proofs.lemmas.Bool.{cases_eq, cases_lt}
use Rattle.std.proofs.lemmas.List.{get_or_append_left, get_or_push, length_push}
use Rattle.tact_io.specs.Faults.{HasRisen}
use Rattle.run_model.specs.declared.entry.Entry.{Entry}
use Rattle.run_history.specs.Seats.{ClerkView}
use Rattle.run_history.specs.Ticks.{entries_of}
use Rattle.entry_journal.specs.EntryJournals.{HasPiecesOf}
use Rattle.locked_replica.specs.Journals.{LeavesPieces}
use Rattle.replica_lock.specs.Rosters.{AreAllSessions}
use Rattle.replica_lock.specs.Sessions.{SessionView}
use Rattle.steady_node.specs.Going.{IsUnmarked}
use Rattle.run_work.specs.Ends.{AreFaultless, AreUnmarked, IsFaultlessEnd, IsUnmarkedEnd}
use Rattle.run_work.specs.Shelves.{HaveHeld, IsOpenFault, IsStored}
use Rattle.run_work.specs.declared.run.RunFault.{RunFault}
use Rattle.run_work.specs.declared.run.RunFault.TheVariants as fault
use Rattle.run_work.specs.declared.seat.End.{End}
use Rattle.run_work.proofs.Ended.{faultless_of, unmarked_of}

-- a count that rose on the way has risen
pub HasRisen-on : (first before after last : ℕ)
    → first ≤ before
    → before ≤ after
    → after ≤ last
    → HasRisen before after
    → HasRisen first last
HasRisen-on first before after last one two three (inl less) = inl (omega (arith, one, less, three))
HasRisen-on first before after last one two three (inr end) =
    ⊎_elim
    (λ (less : first < last). inl less)
    (λ (most : last ≤ first). inr (omega (arith, one, two, three, end, most)))
    (cases_lt first last)

-- and what is told of it stays told
pub IsOpenFault-on : (first before after last : ℕ) (told : RunFault)
    → first ≤ before
    → before ≤ after
    → after ≤ last
    → IsOpenFault before after told
    → IsOpenFault first last told
IsOpenFault-on first before after last (fault.JournalFault replica) one two three risen = HasRisen-on first before after last one two three risen
IsOpenFault-on first before after last fault.NoMemory one two three is = tt
IsOpenFault-on first before after last (fault.Full replica count clock run) one two three is = is
IsOpenFault-on first before after last (fault.JournalForeign replica place) one two three is = is

-- the pieces that a journal has which counted no fault are those of what its clerk drew
pub pieces_of : (tells : Bool) (pieces : List (List ℕ)) (stored : ℕ → Option (List (List ℕ))) (replica : ℕ) (part : List Entry)
    → LeavesPieces tells pieces 0 part
    → IsTrue tells
    → stored replica ≡ Some pieces
    → IsStored stored replica part
pieces_of tells pieces stored replica part leaves told put = go leaves.doubt refl (leaves.has told)
  where
    go : (doubt : Option Entry) → leaves.doubt ≡ doubt → HasPiecesOf pieces part doubt → IsStored stored replica part
    go None is has = put ∙ ap Some has
    go (Some entry) is has = absurd (leaves.failed entry is told refl)

-- a journal that was put back held: its sessions marked no fault, and its pieces are stored
pub record HasHeld (tells : Bool) (stored : ℕ → Option (List (List ℕ))) (end : End) (clerk : ClerkView) : Type 0 where
  pub faultless : IsFaultlessEnd end
  pub unmarked : IsTrue tells → IsUnmarkedEnd end
  pub pieces : IsTrue tells → IsStored stored clerk.replica (entries_of clerk.pairs)

pub HasHeld-of : (tells : Bool) (stored : ℕ → Option (List (List ℕ))) (end : End) (clerk : ClerkView) (part : List Entry) (pieces : List (List ℕ)) (faults : ℕ)
    → faults ≡ 0
    → entries_of clerk.pairs ≡ part
    → AreAllSessions end.roster.clients end.sessions.items part tells faults
    → LeavesPieces tells pieces faults part
    → (IsTrue tells → stored clerk.replica ≡ Some pieces)
    → HasHeld tells stored end clerk
HasHeld-of tells stored end clerk part pieces faults none same are leaves put =
    let sessions : AreAllSessions end.roster.clients end.sessions.items part tells 0 = subst (AreAllSessions end.roster.clients end.sessions.items part tells) none are in
    record {
      faultless = faultless_of end.roster.clients end.sessions.items part tells sessions;
      unmarked = unmarked_of end.roster.clients end.sessions.items part tells sessions;
      pieces = λ told.
          subst (IsStored stored clerk.replica) (sym same)
          (pieces_of tells pieces stored clerk.replica part (subst (λ (count : ℕ). LeavesPieces tells pieces count part) none leaves) told (put told));
    }

-- so did those of the first nodes
abbrev pub AreHeld : Bool → (ℕ → Option (List (List ℕ))) → List End → List ClerkView → Type 0
AreHeld tells stored ends clerks = (replica : ℕ) (no_end : End) (none : ClerkView) → replica < length clerks
    → HasHeld tells stored (get_or ends replica no_end) (get_or clerks replica none)

-- the first nodes' journals are back: the count rose, or all held
abbrev pub AreBack : Bool → ℕ → ℕ → (ℕ → Option (List (List ℕ))) → List End → List ClerkView → Type 0
AreBack tells first now stored ends clerks = HasRisen first now ⊎ ((now ≡ first) × AreHeld tells stored ends clerks)

-- one more is put back
module _ (tells : Bool) (first before after : ℕ) (stored now : ℕ → Option (List (List ℕ))) (ends : List End) (clerks : List ClerkView) (end : End) (clerk : ClerkView)
    (numbered : (replica : ℕ) (none : ClerkView) → replica < length clerks → (get_or clerks replica none).replica ≡ replica)
    (number : clerk.replica ≡ length clerks)
    (stands : (none : End) → get_or ends (length clerks) none ≡ end)
    (others : (of : ℕ) → IsTrue tells → of ≢ clerk.replica → now of ≡ stored of) where
  AreHeld-more : HasHeld tells now end clerk → AreHeld tells stored ends clerks → AreHeld tells now ends (clerks ++ clerk ∷ [])
  AreHeld-more one held = λ replica no_end none within.
      ⊎_elim
      (λ (below : replica < length clerks).
      let was = held replica no_end none below in
      let is : replica ≡ (get_or clerks replica none).replica = sym (numbered replica none below) in
      subst (HasHeld tells now (get_or ends replica no_end)) (sym (get_or_append_left clerks (clerk ∷ []) none replica below))
      (record {
        faultless = was.faultless;
        unmarked = was.unmarked;
        pieces = λ told. others (get_or clerks replica none).replica told (λ same. omega (arith, below, is, same, number)) ∙ was.pieces told;
      }))
      (λ above.
      let here : replica ≡ length clerks = omega (arith, length_push clerks clerk, within, above) in
      subst (HasHeld tells now (get_or ends replica no_end)) (sym (get_or_push clerks clerk none replica (sym here)))
      (subst (λ (e : End). HasHeld tells now e clerk) (sym (ap (λ (k : ℕ). get_or ends k no_end) here ∙ stands no_end)) one))
      (cases_lt replica (length clerks))

  pub AreBack-more : (faults : ℕ)
      → first ≤ before
      → before ≤ after
      → (faults ≡ 0 → after ≡ before)
      → (faults ≢ 0 → HasRisen before after)
      → (faults ≡ 0 → HasHeld tells now end clerk)
      → AreBack tells first before stored ends clerks
      → AreBack tells first after now ends (clerks ++ clerk ∷ [])
  AreBack-more faults low rise sound failed one back =
      ⊎_elim
      (λ (none : faults ≡ 0).
      ⊎_elim
      (λ (risen : HasRisen first before). inl (HasRisen-on first first before after (omega arith) low rise risen))
      (λ (held : (before ≡ first) × AreHeld tells stored ends clerks). inr (sound none ∙ held.0, AreHeld-more (one none) held.1))
      back)
      (λ (some : faults ≡ 0 → ⊥). inl (HasRisen-on first before after after low rise (omega arith) (failed some)))
      (cases_eq faults 0)

-- when all are back
pub HaveHeld-of : (tells : Bool) (first last : ℕ) (stored : ℕ → Option (List (List ℕ))) (ends : List End) (clerks : List ClerkView)
    → length ends ≡ length clerks
    → ((replica : ℕ) (none : ClerkView) → replica < length clerks → (get_or clerks replica none).replica ≡ replica)
    → AreBack tells first last stored ends clerks
    → HasRisen first last ⊎ HaveHeld tells stored ends clerks
HaveHeld-of tells first last stored ends clerks size numbered (inl risen) = inl risen
HaveHeld-of tells first last stored ends clerks size numbered (inr held) = inr (record {
  faultless = λ at d within. (held.1 at d (clerk_at at within) (inside at within)).faultless;
  unmarked = λ told at d within. (held.1 at d (clerk_at at within) (inside at within)).unmarked told;
  pieces = λ told replica none within.
      subst (λ (r : ℕ). IsStored stored r (entries_of (get_or clerks replica none).pairs)) (numbered replica none within)
      ((held.1 replica (end_at replica within) none within).pieces told);
})
  where
    inside : (at : ℕ) → at < length ends → at < length clerks
    inside at within = omega (arith, within, size)

    some : {A : Type 0} (xs : List A) (at : ℕ) → at < length xs → A
    some [] at within = absurd (omega (arith, within))
    some (x ∷ xs) at within = x

    clerk_at : (at : ℕ) → at < length ends → ClerkView
    clerk_at at within = some clerks at (inside at within)

    end_at : (at : ℕ) → at < length clerks → End
    end_at at within = some ends at (omega (arith, within, size))
