-- The places of the entries that send, when the history grows.
use Rattle.std.proofs.Common.{◌≡◌, ℕ, List, [], ◌∷◌, ◌++◌, length, map, Option, None, Some, refl, sym, ap, ap₂, ◌∙◌}
use Rattle.std.specs.List.{slice_get}
use Rattle.std.specs.Option.{option_and_then}
use Rattle.std.proofs.lemmas.List.{map_push}
use Rattle.std.proofs.lemmas.Option.{slice_get_within}
use Rattle.run_model.specs.Histories.{sent_by_act, sent_in}
use Rattle.run_model.specs.declared.entry.Entry.{Entry}
use Rattle.run_model.specs.declared.entry.Message.{Message}
use Rattle.run_model.proofs.PartLemmas.{sent_in-push_none, sent_in-push_some}
use Rattle.replica_network.specs.Keeping.{message_at}
use Rattle.replica_network.proofs.Longer.{last_entry, longer, same_entry}

module _ (history : List Entry) (entry : Entry) where
  kept_there : (place : ℕ) (message : Message)
      → message_at history place ≡ Some message
      → message_at (longer history entry) place ≡ Some message
  kept_there place message found = go (slice_get history place) refl found
    where
      go : (there : Option Entry)
          → slice_get history place ≡ there
          → option_and_then (λ (e : Entry). sent_by_act e.act) there ≡ Some message
          → message_at (longer history entry) place ≡ Some message
      go None none found = cc
      go (Some e) some found =
          ap (option_and_then (λ (e : Entry). sent_by_act e.act)) (same_entry history entry place (slice_get_within history place e some) ∙ some) ∙ found

  all_kept : (places : List ℕ) (messages : List Message)
      → map (message_at history) places ≡ map Some messages
      → map (message_at (longer history entry)) places ≡ map Some messages
  all_kept [] [] same = refl
  all_kept [] (m ∷ ms) same = cc
  all_kept (p ∷ ps) [] same = cc
  all_kept (p ∷ ps) (m ∷ ms) same =
      let head : message_at history p ≡ Some m = cc in
      let tail : map (message_at history) ps ≡ map Some ms = cc in
      ap₂ (λ (x : Option Message) (xs : List (Option Message)). x ∷ xs) (kept_there p m head) (all_kept ps ms tail)

  -- with an entry that sends nothing, and with one that sends
  pub sends_same : (places : List ℕ)
      → sent_by_act entry.act ≡ None
      → map (message_at history) places ≡ map Some (sent_in history)
      → map (message_at (longer history entry)) places ≡ map Some (sent_in (longer history entry))
  sends_same places none are = all_kept places (sent_in history) are ∙ ap (map Some) (sym (sent_in-push_none history entry none))

  pub sends_more : (places : List ℕ) (message : Message)
      → sent_by_act entry.act ≡ Some message
      → map (message_at history) places ≡ map Some (sent_in history)
      → map (message_at (longer history entry)) (places ++ length history ∷ []) ≡ map Some (sent_in (longer history entry))
  sends_more places message some are =
      let last : message_at (longer history entry) (length history) ≡ Some message =
      ap (option_and_then (λ (e : Entry). sent_by_act e.act)) (last_entry history entry) ∙ some in
      map_push (message_at (longer history entry)) places (length history)
      ∙ ap₂ (λ (front : List (Option Message)) (x : Option Message). front ++ x ∷ []) (all_kept places (sent_in history) are) last
      ∙ sym (map_push Some (sent_in history) message)
      ∙ ap (map Some) (sym (sent_in-push_some history entry message some))
