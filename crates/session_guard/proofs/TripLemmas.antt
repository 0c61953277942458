-- A trip, when its history grows: it gains the position of a stop.
use Rattle.std.proofs.Common.{◌≡◌, ℕ, Bool, true, false, cond, List, [], ◌∷◌, ◌++◌, length, All, Option, refl, ap, ap₂, ◌∙◌, zero-add, arith}
use Rattle.std.specs.List.{filter, range_with_len, slice_get}
use Rattle.std.specs.Option.{option_map_or}
use Rattle.std.proofs.lemmas.List.{append-nil, length_push}
use Rattle.std.proofs.lemmas.List.Elements.{All-head, All-tail, filter-append}
use Rattle.tact_base.proofs.ListLemmas.{All-range}
use Rattle.tact_base.proofs.RangeLists.{range_more}
use Rattle.run_model.specs.declared.entry.Entry.{Entry}
use Rattle.replica_network.proofs.Longer.{last_entry, longer, same_entry}
use Rattle.session_guard.specs.Trips.{is_stop, trip_of}

-- two tests that agree at each element keep the same of them
filter_alike : {A : Type 0} (p q : A → Bool) (xs : List A)
    → All (λ x. p x ≡ q x) xs
    → filter p xs ≡ filter q xs
filter_alike p q [] all = refl
filter_alike {A} p q (x ∷ xs) all =
    ap₂ (λ (yes : Bool) (rest : List A). cond yes (x ∷ rest) rest) (All-head (λ x. p x ≡ q x) x xs all) (filter_alike p q xs (All-tail (λ x. p x ≡ q x) x xs all))

module _ (history : List Entry) (entry : Entry) (client : ℕ) where
  abbrev stops_in : List Entry → ℕ → Bool
  stops_in entries position = option_map_or (λ (e : Entry). is_stop client e.act) (slice_get entries position) false

  pub trip_of-push : trip_of (longer history entry) client ≡ trip_of history client ++ cond (is_stop client entry.act) (length history ∷ []) []
  trip_of-push =
      let n = length history in
      let test = stops_in (longer history entry) in
      let range : range_with_len 0 (length (longer history entry)) ≡ range_with_len 0 n ++ n ∷ [] =
      ap (range_with_len 0) (length_push history entry) ∙ range_more 0 n ∙ ap (λ (m : ℕ). range_with_len 0 n ++ m ∷ []) (zero-add n) in
      let before : filter test (range_with_len 0 n) ≡ trip_of history client =
      filter_alike test (stops_in history) (range_with_len 0 n)
      (All-range (λ i. test i ≡ stops_in history i) 0 n
      (λ i low high. ap (λ (o : Option Entry). option_map_or (λ (e : Entry). is_stop client e.act) o false) (same_entry history entry i (omega (arith, high))))) in
      let last : test n ≡ is_stop client entry.act =
      ap (λ (o : Option Entry). option_map_or (λ (e : Entry). is_stop client e.act) o false) (last_entry history entry) in
      ap (filter test) range
      ∙ filter-append test (range_with_len 0 n) (n ∷ [])
      ∙ ap₂ (λ (front : List ℕ) (yes : Bool). front ++ cond yes (n ∷ []) []) before last

  pub trip_of-stop : is_stop client entry.act ≡ true → trip_of (longer history entry) client ≡ trip_of history client ++ length history ∷ []
  trip_of-stop stops = trip_of-push ∙ ap (λ (is : Bool). trip_of history client ++ cond is (length history ∷ []) []) stops

  pub trip_of-same : is_stop client entry.act ≡ false → trip_of (longer history entry) client ≡ trip_of history client
  trip_of-same goes_by = trip_of-push ∙ ap (λ (is : Bool). trip_of history client ++ cond is (length history ∷ []) []) goes_by ∙ append-nil (trip_of history client)
