-- A history with one more entry.
use Rattle.std.proofs.Common.{◌≡◌, ℕ, ◌<◌, List, [], ◌∷◌, ◌++◌, length, Some, refl, sym, ap, ◌∙◌, arith}
use Rattle.std.specs.List.{slice_get}
use Rattle.std.proofs.lemmas.List.{get_or_append_left, get_or_push, length_push}
use Rattle.std.proofs.lemmas.Option.{slice_get-get_or}
use Rattle.run_model.specs.declared.entry.Entry.{Entry}

module _ (history : List Entry) (entry : Entry) where
  abbrev pub longer : List Entry
  longer = history ++ entry ∷ []

  -- what stands before it stays, and at its end it has the entry
  pub same_entry : (position : ℕ) → position < length history → slice_get longer position ≡ slice_get history position
  same_entry position within =
      slice_get-get_or longer position entry (omega (arith, within, length_push history entry))
      ∙ ap Some (get_or_append_left history (entry ∷ []) entry position within)
      ∙ sym (slice_get-get_or history position entry within)

  pub last_entry : slice_get longer (length history) ≡ Some entry
  last_entry =
      slice_get-get_or longer (length history) entry (omega (arith, length_push history entry)) ∙ ap Some (get_or_push history entry entry (length history) refl)
