-- The entries that are due in a journal, and their pieces.
use Rattle.std.proofs.Common.{◌≡◌, ℕ, zero, suc, ◌+◌, ◌<◌, ◌≤◌, List, [], ◌∷◌, ◌++◌, length, get_or, map, take, Option, None, Some, inl, inr, ap, sym, ◌∙◌, arith}
use Rattle.std.specs.List.{slice_get}
use Rattle.std.specs.Option.{option_map}
use Rattle.std.proofs.lemmas.List.{length-take, length-map, map-append}
use Rattle.std.proofs.lemmas.Option.{slice_get_past, slice_get-map, slice_get-get_or}
use Rattle.run_model.specs.declared.entry.Entry.{Entry}
use Rattle.restart_journal.specs.Pieces.{piece_bytes}
use Rattle.restart_journal.proofs.PieceLists.{something_at, take_one_more}
use Rattle.journal_reread.specs.Rereading.{HasPiecesOf, IsDueAt, IsOtherAt, with_kept}

-- ---- lists

-- one place more is the same
pub one_more : {A : Type 0} (xs ys : List A) (k : ℕ) (x : A)
    → slice_get xs k ≡ Some x
    → slice_get ys k ≡ Some x
    → take k xs ≡ take k ys
    → take (k + 1) xs ≡ take (k + 1) ys
one_more xs ys k x there here so_far =
    let next : k + 1 ≡ suc k = omega arith in
    ap (λ n. take n xs) next ∙ take_one_more xs k x there ∙ ap (λ front. front ++ x ∷ []) so_far ∙ sym (take_one_more ys k x here) ∙ sym (ap (λ n. take n ys) next)

-- a longer list has what its front has
longer_at : {A : Type 0} (xs ys : List A) (k : ℕ) (x : A) → slice_get xs k ≡ Some x → slice_get (xs ++ ys) k ≡ Some x
longer_at [] ys k x e = absurd cc
longer_at (y ∷ xs) ys zero x e = e
longer_at (y ∷ xs) ys (suc k) x e = longer_at xs ys k x e

-- a list that is the same up to a place of another reaches that place
reaches : {A : Type 0} (xs ys : List A) (k : ℕ) → k ≤ length xs → take k xs ≡ take k ys → k ≤ length ys
reaches xs ys k within e = omega (arith, length-take k xs, length-take k ys, ap length e)

no_item : {A : Type 0} (x : A) → None ≡ Some x → ⊥
no_item x e = cc

-- ---- what is due

-- the pieces of the stored entries stand in front
stored_at : (entries : List Entry) (doubt : Option Entry) (k : ℕ) (piece : List ℕ)
    → slice_get (map piece_bytes entries) k ≡ Some piece
    → slice_get (map piece_bytes (with_kept entries doubt)) k ≡ Some piece
stored_at entries None k piece e = e
stored_at entries (Some kept) k piece e =
    ap (λ ps. slice_get ps k) (map-append piece_bytes entries (kept ∷ [])) ∙ longer_at (map piece_bytes entries) (piece_bytes kept ∷ []) k piece e

-- ---- what was found

-- the piece of an entry at a place
pub found_at : (found : List Entry) (place : ℕ) (entry : Entry) (piece : List ℕ)
    → place < length found
    → entry ≡ get_or found place entry
    → piece ≡ piece_bytes entry
    → slice_get (map piece_bytes found) place ≡ Some piece
found_at found place entry piece within is spelled =
    slice_get-map piece_bytes found place ∙ ap (option_map piece_bytes) (slice_get-get_or found place entry within)
    ∙ ap (λ (e : Entry). Some (piece_bytes e)) (sym is) ∙ ap Some (sym spelled)

module _ (found entries : List Entry) (doubt : Option Entry) (place : ℕ)
    (front : take place (map piece_bytes found) ≡ take place (map piece_bytes (with_kept entries doubt))) where
  -- a piece that isn't due there
  pub other_there : (piece : List ℕ)
      → slice_get (map piece_bytes found) place ≡ Some piece
      → ¬ (slice_get (map piece_bytes (with_kept entries doubt)) place ≡ Some piece)
      → IsOtherAt (map piece_bytes found) entries doubt place
  other_there piece there not = record {
    front = front;
    kept = λ e. not (sym e ∙ there);
    alone = λ e. not (stored_at entries doubt place piece (sym e ∙ there));
  }

  -- nothing
  pub missing_there : length found ≡ place
      → place < length entries
      → IsOtherAt (map piece_bytes found) entries doubt place
  missing_there end few =
      let none : slice_get (map piece_bytes found) place ≡ None = slice_get_past (map piece_bytes found) place (omega (arith, length-map found piece_bytes)) in
      let some = something_at (map piece_bytes entries) place (omega (arith, length-map entries piece_bytes)) in
      record {
        front = front;
        kept = λ e. no_item some.0 (sym none ∙ e ∙ stored_at entries doubt place some.0 some.1);
        alone = λ e. no_item some.0 (sym none ∙ e ∙ some.1);
      }

  pub reached : place ≤ length found → place ≤ length (with_kept entries doubt)
  reached within =
      omega (
        arith,
        reaches (map piece_bytes found) (map piece_bytes (with_kept entries doubt)) place (omega (arith, length-map found piece_bytes)) front,
        length-map (with_kept entries doubt) piece_bytes,
      )

-- such pieces are none that a journal of them may have
pub no_other : (pieces : List (List ℕ)) (entries : List Entry) (doubt : Option Entry) (place : ℕ)
    → IsOtherAt pieces entries doubt place
    → HasPiecesOf pieces entries doubt
    → ⊥
no_other pieces entries None place other has = other.alone (ap (λ ps. slice_get ps place) has)
no_other pieces entries (Some kept) place other (inl has) = other.alone (ap (λ ps. slice_get ps place) has)
no_other pieces entries (Some kept) place other (inr has) =
    other.kept (ap (λ ps. slice_get ps place) (has ∙ sym (map-append piece_bytes entries (kept ∷ []))))

-- one place more of a journal's pieces is as it is due
pub one_due_more : (pieces due : List (List ℕ)) (place : ℕ)
    → IsDueAt pieces due place
    → take place pieces ≡ take place due
    → take (place + 1) pieces ≡ take (place + 1) due
one_due_more pieces due place is so_far = one_more pieces due place is.piece is.there is.same so_far
