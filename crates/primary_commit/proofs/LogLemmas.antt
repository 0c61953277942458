-- The items of origins as they are kept, read and written place by place.
use Rattle.std.proofs.Common.{◌≡◌, ℕ, ◌<◌, ◌≤◌, List, [], ◌∷◌, ◌++◌, All, length, get_or, map, set, sym, ap, ◌∙◌, subst, arith}
use Rattle.std.proofs.lemmas.List.{get_or-map, map-set, length-map}
use Rattle.std.proofs.Math.Seq.{map-set_same}
use Rattle.tact_base.specs.Roomy.{Roomy}
use Rattle.primary_commit.specs.Kept.{LogsState}
use Rattle.primary_commit.specs.declared.items.Item.{Item}

abbrev pub items_of_all : List (Roomy Item) → List (List Item)
items_of_all logs = map (λ log. log.items) logs

-- A list at a place, where another stands there afterwards.
module _ (logs : List (Roomy Item)) (i : ℕ) (old new : Roomy Item) (read : old ≡ get_or logs i old) where
  -- with the same items
  pub items_same : new.items ≡ old.items → items_of_all (set logs i new) ≡ items_of_all logs
  items_same same = map-set_same (λ log. log.items) logs i new old (same ∙ ap (λ (log : Roomy Item). log.items) read)

  -- with one more
  pub items_more : (state : LogsState) (item : Item) (room : ℕ)
      → record { logs = items_of_all logs; room = room } ≡ state
      → i < length state.logs
      → new.items ≡ old.items ++ item ∷ []
      → items_of_all (set logs i new) ≡ set state.logs i (get_or state.logs i [] ++ item ∷ [])
  items_more state item room view inside grew =
      let same : items_of_all logs ≡ state.logs = ap (λ (s : LogsState). s.logs) view in
      let within : i < length logs = omega (arith, inside, ap length same, length-map logs (λ (log : Roomy Item). log.items)) in
      let is : get_or (items_of_all logs) i [] ≡ old.items = get_or-map (λ log. log.items) logs i old [] within ∙ ap (λ (log : Roomy Item). log.items) (sym read) in
      map-set (λ log. log.items) logs i new
      ∙ ap (set (items_of_all logs) i) (grew ∙ ap (λ (items : List Item). items ++ item ∷ []) (sym is))
      ∙ ap (λ (all : List (List Item)). set all i (get_or all i [] ++ item ∷ [])) same

-- lists with the same items are as many
pub same_count : (logs others : List (Roomy Item)) → items_of_all logs ≡ items_of_all others → length logs ≡ length others
same_count logs others same = omega (arith, ap length same, length-map logs (λ (log : Roomy Item). log.items), length-map others (λ (log : Roomy Item). log.items))

-- the room of a list that was read
pub all_at : (room : ℕ) (logs : List (Roomy Item)) (i : ℕ) (log : Roomy Item)
    → All (λ (l : Roomy Item). room ≤ l.room) logs
    → i < length logs
    → log ≡ get_or logs i log
    → room ≤ log.room
all_at room logs i log all within read = subst (λ (l : Roomy Item). room ≤ l.room) (sym read) (all i log within)
