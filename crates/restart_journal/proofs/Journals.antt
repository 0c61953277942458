-- What a journal tells, it tells in one way: its entries, or its first bad piece, or that it is too long.
use Rattle.std.proofs.Common.{◌≡◌, ◌≢◌, ℕ, suc, ◌<◌, ◌≤◌, List, [], ◌∷◌, ◌++◌, length, map, take, drop, All, Option, None, Some, Result, Ok, Err, inl, inr, refl, sym, ap, subst, ◌∙◌, append_assoc, arith}
use Rattle.std.specs.List.{slice_get}
use Rattle.std.specs.Prelude.{IsOkUnless}
use Rattle.std.proofs.lemmas.Bool.{cases_lt}
use Rattle.std.proofs.lemmas.List.{take-map, take-take, take_all, length-take, length-map, map-append}
use Rattle.std.proofs.lemmas.List.Elements.{All-head, All-tail, All-take, All-append}
use Rattle.std.proofs.lemmas.Option.{slice_get_within}
use Rattle.tact_base.proofs.ListLemmas.{All-append_right}
use Rattle.tact_base.specs.declared.limits.TheConstants.{HISTORY_MAX}
use Rattle.tact_base.specs.Setup.{Setup, IsSetup}
use Rattle.run_model.specs.Runs.{IsPart, MayFollow}
use Rattle.run_model.specs.declared.entry.Entry.{Entry}
use Rattle.run_model.proofs.PrefixLemmas.{EachAfter-prefix, IsPrefix-take}
use Rattle.restart_journal.specs.declared.fault.RecoverFault.{RecoverFault}
use Rattle.restart_journal.specs.declared.fault.RecoverFault.TheVariants as fault
use Rattle.restart_journal.specs.declared.recovered.Recovered.{Recovered}
use Rattle.restart_journal.specs.Pieces.{IsPieceOf, IsSpellable, piece_bytes}
use Rattle.restart_journal.specs.Recovery.{IsJournalOf, IsForeignAt, IsFullAt, TellsOf}
use Rattle.restart_journal.proofs.EntryPieces.{one_entry}
use Rattle.restart_journal.proofs.PieceLists.{mapped_at, something_at, slice_get-take}
use Rattle.restart_journal.proofs.SpelledBytes.{piece_is_bytes}

abbrev CanBeSpelled : Entry → Type 0
CanBeSpelled entry = IsSpellable entry.act

module _ (setup : Setup) (good : IsSetup setup) (replica : ℕ) where
  -- ---- entries by their pieces

  same_head : {A : Type 0} (x y : A) (xs ys : List A) → x ∷ xs ≡ y ∷ ys → (x ≡ y) × (xs ≡ ys)
  same_head x y xs ys e = (cc, cc)

  same_rest : (front a b : List Entry)
      → IsPart setup replica (front ++ a)
      → IsPart setup replica (front ++ b)
      → All CanBeSpelled a
      → All CanBeSpelled b
      → map piece_bytes a ≡ map piece_bytes b
      → a ≡ b
  same_rest front [] [] part_a part_b can_a can_b e = refl
  same_rest front [] (y ∷ ys) part_a part_b can_a can_b e = absurd cc
  same_rest front (x ∷ xs) [] part_a part_b can_a can_b e = absurd cc
  same_rest front (x ∷ xs) (y ∷ ys) part_a part_b can_a can_b e =
      let heads = same_head (piece_bytes x) (piece_bytes y) (map piece_bytes xs) (map piece_bytes ys) e in
      let may_x : MayFollow setup replica front x = part_a front xs x refl in
      let may_y : MayFollow setup replica front y = part_b front ys y refl in
      let can_x = All-head CanBeSpelled x xs can_a in
      let can_y = All-head CanBeSpelled y ys can_b in
      let one : x ≡ y =
      one_entry setup front (piece_bytes x) x y (piece_is_bytes setup good x may_x.1.in_range can_x) good
      (record { spelled = refl; spellable = can_x }) (record { spelled = heads.0; spellable = can_y }) may_x.1 may_y.1 in
      let next_x = subst (IsPart setup replica) (sym (append_assoc front (x ∷ []) xs)) part_a in
      let next_y = subst (λ z. IsPart setup replica ((front ++ z ∷ []) ++ ys)) (sym one) (subst (IsPart setup replica) (sym (append_assoc front (y ∷ []) ys)) part_b) in
      let others : xs ≡ ys = same_rest (front ++ x ∷ []) xs ys next_x next_y (All-tail CanBeSpelled x xs can_a) (All-tail CanBeSpelled y ys can_b) heads.1 in
      cc

  -- pieces are the journal of one list of entries
  pub one_journal : (pieces : List (List ℕ)) (a b : List Entry)
      → IsJournalOf setup replica pieces a
      → IsJournalOf setup replica pieces b
      → a ≡ b
  one_journal pieces a b is_a is_b = same_rest [] a b is_a.part is_b.part is_a.spellable is_b.spellable (sym is_a.spelled ∙ is_b.spelled)

  -- the front of a journal is that of the first entries
  pub front_of_journal : (pieces : List (List ℕ)) (entries : List Entry) (n : ℕ)
      → IsJournalOf setup replica pieces entries
      → IsJournalOf setup replica (take n pieces) (take n entries)
  front_of_journal pieces entries n is = record {
    part = EachAfter-prefix (MayFollow setup replica) (take n entries) entries (IsPrefix-take n entries) is.part;
    spelled = ap (take n) is.spelled ∙ take-map piece_bytes n entries;
    spellable = All-take CanBeSpelled n entries is.spellable;
  }

  -- each of its entries may follow those before it, and has its piece
  next_of_journal : (pieces : List (List ℕ)) (entries : List Entry) (place : ℕ) (piece : List ℕ)
      → IsJournalOf setup replica pieces entries
      → slice_get pieces place ≡ Some piece
      → (entry : Entry) × IsPieceOf piece entry × MayFollow setup replica (take place entries) entry
  next_of_journal pieces entries place piece is there =
      let at = mapped_at piece_bytes entries place piece (ap (λ ps. slice_get ps place) (sym is.spelled) ∙ there) in
      let can = subst (All CanBeSpelled) at.1 is.spellable in (
        at.0,
        record { spelled = sym at.2; spellable = All-head CanBeSpelled at.0 (drop (suc place) entries) (All-append_right CanBeSpelled (take place entries) (at.0 ∷ drop (suc place) entries) can) },
        is.part (take place entries) (drop (suc place) entries) at.0 at.1,
      )

  -- ---- what is told of a journal is all that is true of it

  -- no piece of it is bad
  no_foreign : (pieces : List (List ℕ)) (entries : List Entry) (place : ℕ)
      → IsJournalOf setup replica pieces entries
      → IsForeignAt setup replica pieces place
      → ⊥
  no_foreign pieces entries place is foreign =
      let next = next_of_journal pieces entries place foreign.piece is foreign.there in
      let before = one_journal (take place pieces) (take place entries) foreign.before (front_of_journal pieces entries place is) foreign.good in
      foreign.bad next.0 next.1 (subst (λ es. MayFollow setup replica es next.0) before next.2)

  -- and it isn't too long
  no_full : (pieces : List (List ℕ)) (entries : List Entry) (place : ℕ)
      → IsJournalOf setup replica pieces entries
      → IsFullAt setup replica pieces place
      → ⊥
  no_full pieces entries place is full =
      let piece = something_at pieces place full.more in
      let next = next_of_journal pieces entries place piece.0 is piece.1 in
      let long : length pieces ≡ length entries = ap length is.spelled ∙ length-map entries piece_bytes in
      absurd (omega (arith, next.2.1.room, length-take place entries, long, full.last, full.more))

  -- the first bad piece of a journal is that of its front
  foreign_in_front : (pieces : List (List ℕ)) (place n : ℕ)
      → place < n
      → IsForeignAt setup replica pieces place
      → IsForeignAt setup replica (take n pieces) place
  foreign_in_front pieces place n lt foreign = record {
    few = foreign.few;
    before = foreign.before;
    good = subst (λ ps. IsJournalOf setup replica ps foreign.before) (sym (take-take place n pieces (omega arith))) foreign.good;
    piece = foreign.piece;
    there = slice_get-take pieces n place lt ∙ foreign.there;
    bad = foreign.bad;
  }

  one_foreign : (pieces : List (List ℕ)) (p q : ℕ)
      → IsForeignAt setup replica pieces p
      → IsForeignAt setup replica pieces q
      → q ≡ p
  one_foreign pieces p q at_p at_q =
      elim (cases_lt p q) [
        | inl lt ↦ absurd (no_foreign (take q pieces) at_q.before p at_q.good (foreign_in_front pieces p q lt at_p))
        | inr le ↦ elim (cases_lt q p) [
          | inl less ↦ absurd (no_foreign (take p pieces) at_p.before q at_p.good (foreign_in_front pieces q p less at_q))
          | inr same ↦ omega arith
        ]
      ]

  not_both : (pieces : List (List ℕ)) (p q : ℕ)
      → IsForeignAt setup replica pieces p
      → IsFullAt setup replica pieces q
      → ⊥
  not_both pieces p q foreign full =
      no_foreign (take q pieces) full.before p full.good (foreign_in_front pieces p q (omega (arith, foreign.few, full.last)) foreign)

  -- ---- so an answer that is none of want is the one that holds

  module _ (pieces : List (List ℕ)) (result : Result Recovered RecoverFault) where
    pub good_is_told : (entries : List Entry)
        → TellsOf setup replica pieces result
        → result ≢ Err fault.JournalReadFault
        → IsJournalOf setup replica pieces entries
        → IsOkUnless result fault.NoMemory
    good_is_told entries told read is = go result told read
      where
        go : (r : Result Recovered RecoverFault)
            → TellsOf setup replica pieces r
            → r ≢ Err fault.JournalReadFault
            → IsOkUnless r fault.NoMemory
        go (Ok made) told read = tt
        go (Err (fault.Foreign other)) told read = absurd (no_foreign pieces entries other is told)
        go (Err (fault.Full other)) told read = absurd (no_full pieces entries other is told)
        go (Err fault.JournalReadFault) told read = absurd (read refl)
        go (Err fault.NoMemory) told read = refl

    pub foreign_is_told : (place : ℕ)
        → TellsOf setup replica pieces result
        → result ≢ Err fault.JournalReadFault
        → IsForeignAt setup replica pieces place
        → result ≢ Err fault.NoMemory
        → result ≡ Err (fault.Foreign place)
    foreign_is_told place told read is enough = go result told read enough
      where
        go : (r : Result Recovered RecoverFault)
            → TellsOf setup replica pieces r
            → r ≢ Err fault.JournalReadFault
            → r ≢ Err fault.NoMemory
            → r ≡ Err (fault.Foreign place)
        go (Ok made) told read enough = absurd (no_foreign pieces made.stored place told is)
        go (Err (fault.Foreign other)) told read enough = ap (λ q. Err (fault.Foreign q)) (one_foreign pieces place other is told)
        go (Err (fault.Full other)) told read enough = absurd (not_both pieces place other is told)
        go (Err fault.JournalReadFault) told read enough = absurd (read refl)
        go (Err fault.NoMemory) told read enough = absurd (enough refl)

    pub full_is_told : (place : ℕ)
        → TellsOf setup replica pieces result
        → result ≢ Err fault.JournalReadFault
        → IsFullAt setup replica pieces place
        → result ≢ Err fault.NoMemory
        → result ≡ Err (fault.Full place)
    full_is_told place told read is enough = go result told read enough
      where
        go : (r : Result Recovered RecoverFault)
            → TellsOf setup replica pieces r
            → r ≢ Err fault.JournalReadFault
            → r ≢ Err fault.NoMemory
            → r ≡ Err (fault.Full place)
        go (Ok made) told read enough = absurd (no_full pieces made.stored place told is)
        go (Err (fault.Foreign other)) told read enough = absurd (not_both pieces other place told is)
        go (Err (fault.Full other)) told read enough = ap (λ q. Err (fault.Full q)) (told.last ∙ sym is.last)
        go (Err fault.JournalReadFault) told read enough = absurd (read refl)
        go (Err fault.NoMemory) told read enough = absurd (enough refl)
