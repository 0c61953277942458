-- What is due in a journal: the entries of a replica that were stored, and the one in doubt.
use Rattle.std.proofs.Common.{◌≡◌, ◌≢◌, ℕ, suc, ◌+◌, ◌≤◌, ◌<◌, Bool, true, false, List, [], ◌∷◌, ◌++◌, length, get_or, map, take, drop, All, Option, None, Some, Err, inl, inr, sym, refl, ap, subst, ◌∙◌, arith}
use Rattle.std.specs.List.{slice_get}
use Rattle.std.specs.Option.{option_map}
use Rattle.std.proofs.lemmas.Option.{same_Some, slice_get_within, slice_get-get_or, slice_get-map}
use Rattle.std.proofs.lemmas.List.{take-append-drop, drop_more, map-append, take_all}
use Rattle.std.proofs.lemmas.List.Elements.{All-append, All-head}
use Rattle.tact_base.proofs.ListLemmas.{All-one, All-append_left, All-append_right}
use Rattle.tact_base.specs.Setup.{Setup, IsSetup}
use Rattle.run_model.specs.Runs.{IsPart, MayFollow}
use Rattle.run_model.specs.declared.entry.Entry.{Entry}
use Rattle.run_model.proofs.PrefixLemmas.{EachAfter-push}
use Rattle.restart_journal.specs.declared.fault.RecoverFault.{RecoverFault}
use Rattle.restart_journal.specs.declared.fault.RecoverFault.TheVariants as recover
use Rattle.restart_journal.specs.Pieces.{CanBePut, piece_bytes}
use Rattle.restart_journal.specs.Recovery.{IsJournalOf, TellsOf}
use Rattle.restart_journal.proofs.DueReplies.{due_can_be_put}
use Rattle.restart_journal.proofs.Journals.{good_is_told, one_journal}
use Rattle.restart_journal.proofs.PieceLists.{take_one_more}
use Rattle.journal_reread.specs.Rereading.{CanBeSpelled, HasPiecesOf, MayBeNext, entries_in, kept_where, with_kept}

-- ---- what holds of all that is due

module _ (Holds : Entry → Type 0) where
  -- holds of what is stored
  pub of_stored : (entries : List Entry) (doubt : Option Entry) → All Holds (with_kept entries doubt) → All Holds entries
  of_stored entries None all = all
  of_stored entries (Some kept) all = All-append_left Holds entries (kept ∷ []) all

  -- of the one in doubt
  pub of_doubt : (entries : List Entry) (kept : Entry) → All Holds (with_kept entries (Some kept)) → Holds kept
  of_doubt entries kept all = All-head Holds kept [] (All-append_right Holds entries (kept ∷ []) all)

  -- and of what is kept
  pub of_kept : (entries : List Entry) (doubt : Option Entry) (kept : Bool)
      → All Holds (with_kept entries doubt)
      → All Holds (with_kept entries (kept_where kept doubt))
  of_kept entries doubt true all = all
  of_kept entries doubt false all = of_stored entries doubt all

  -- it holds of an item
  pub holds_at : (entries : List Entry) (k : ℕ) (entry : Entry) → All Holds entries → slice_get entries k ≡ Some entry → Holds entry
  holds_at entries k entry all there =
      let within = slice_get_within entries k entry there in
      subst Holds (same_Some (get_or entries k entry) entry (sym (slice_get-get_or entries k entry within) ∙ there)) (all k entry within)

  -- and of one item more
  pub one_holds_more : (entries : List Entry) (k : ℕ) (entry : Entry)
      → slice_get entries k ≡ Some entry
      → Holds entry
      → All Holds (take k entries)
      → All Holds (take (k + 1) entries)
  one_holds_more entries k entry there holds so_far =
      let next : suc k ≡ k + 1 = omega arith in
      subst (λ (n : ℕ). All Holds (take n entries)) next
      (subst (All Holds) (sym (take_one_more entries k entry there)) (All-append Holds (take k entries) (entry ∷ []) so_far (All-one Holds entry holds)))

  pub all_hold : (entries : List Entry) (k : ℕ) → length entries ≤ k → All Holds (take k entries) → All Holds entries
  all_hold entries k end so_far = subst (All Holds) (take_all k entries end) so_far

  pub of_both : (entries : List Entry) (kept : Entry) → All Holds entries → Holds kept → All Holds (with_kept entries (Some kept))
  of_both entries kept all one = All-append Holds entries (kept ∷ []) all (All-one Holds kept one)

-- the stored entry at a place
pub stored_item : (stored : List (ℕ × Entry)) (k : ℕ) (pair : ℕ × Entry)
    → k < length stored
    → pair ≡ get_or stored k pair
    → slice_get (entries_in stored) k ≡ Some pair.1
stored_item stored k pair within is =
    slice_get-map (λ (pair : ℕ × Entry). pair.1) stored k ∙ ap (option_map (λ (pair : ℕ × Entry). pair.1)) (slice_get-get_or stored k pair within ∙ ap Some (sym is))

-- ---- of a replica

module _ (setup : Setup) (good : IsSetup setup) (replica : ℕ) where
  can_be_put : (entries : List Entry) → IsPart setup replica entries → All CanBePut entries
  can_be_put entries part k d within =
      let may = part (take k entries) (drop (k + 1) entries) (get_or entries k d) (sym (take-append-drop k entries) ∙ ap (λ rest. take k entries ++ rest) (drop_more entries k d within)) in
      due_can_be_put setup (take k entries) (get_or entries k d) good may.1

  due_part : (entries : List Entry) (doubt : Option Entry)
      → IsPart setup replica entries
      → MayBeNext setup replica entries doubt
      → IsPart setup replica (with_kept entries doubt)
  due_part entries None part next = part
  due_part entries (Some kept) part next = EachAfter-push (MayFollow setup replica) entries kept part next

  -- what is due can be put
  pub due_have_pieces : (entries : List Entry) (doubt : Option Entry)
      → IsPart setup replica entries
      → MayBeNext setup replica entries doubt
      → All CanBePut (with_kept entries doubt)
  due_have_pieces entries doubt part next = can_be_put (with_kept entries doubt) (due_part entries doubt part next)

  kept_part : (entries : List Entry) (doubt : Option Entry) (kept : Bool)
      → IsPart setup replica entries
      → MayBeNext setup replica entries doubt
      → IsPart setup replica (with_kept entries (kept_where kept doubt))
  kept_part entries doubt true part next = due_part entries doubt part next
  kept_part entries doubt false part next = part

  module _ (entries : List Entry) (doubt : Option Entry) (part : IsPart setup replica entries) (next : MayBeNext setup replica entries doubt)
      (spelled : All CanBeSpelled (with_kept entries doubt)) where
    -- entries that were found and have the pieces that are due are those that are due
    pub same_entries : (found : List Entry) (kept : Bool)
        → IsPart setup replica found
        → All CanBeSpelled found
        → map piece_bytes found ≡ map piece_bytes (with_kept entries (kept_where kept doubt))
        → found ≡ with_kept entries (kept_where kept doubt)
    same_entries found kept part_found can same =
        one_journal setup good replica (map piece_bytes found) found (with_kept entries (kept_where kept doubt))
        (record { part = part_found; spelled = refl; spellable = can })
        (record { part = kept_part entries doubt kept part next; spelled = same; spellable = of_kept CanBeSpelled entries doubt kept spelled })

    -- the pieces that a journal may have are those of a replica
    due_journal : (pieces : List (List ℕ)) (kept : Bool)
        → pieces ≡ map piece_bytes (with_kept entries (kept_where kept doubt))
        → IsJournalOf setup replica pieces (with_kept entries (kept_where kept doubt))
    due_journal pieces kept is = record { part = kept_part entries doubt kept part next; spelled = is; spellable = of_kept CanBeSpelled entries doubt kept spelled }

  which : (pieces : List (List ℕ)) (entries : List Entry) (doubt : Option Entry)
      → HasPiecesOf pieces entries doubt
      → (kept : Bool) × (pieces ≡ map piece_bytes (with_kept entries (kept_where kept doubt)))
  which pieces entries None has = (false, has)
  which pieces entries (Some kept) (inl has) = (false, has)
  which pieces entries (Some kept) (inr has) = (true, has ∙ sym (map-append piece_bytes entries (kept ∷ [])))

  -- so recovery tells neither a bad one nor one too many
  pub none_is_bad : (pieces : List (List ℕ)) (entries : List Entry) (doubt : Option Entry) (fault : RecoverFault)
      → IsPart setup replica entries
      → MayBeNext setup replica entries doubt
      → All CanBeSpelled (with_kept entries doubt)
      → HasPiecesOf pieces entries doubt
      → TellsOf setup replica pieces (Err fault)
      → fault ≢ recover.JournalReadFault
      → fault ≢ recover.NoMemory
      → ⊥
  none_is_bad pieces entries doubt fault part next spelled has told read enough =
      let it = which pieces entries doubt has in
      enough (good_is_told setup good replica pieces (Err fault) (with_kept entries (kept_where it.0 doubt)) told (λ e. read cc)
      (due_journal entries doubt part next spelled pieces it.0 it.1))
