-- What is so at a position of a history stays so when the history grows.
use Rattle.std.proofs.Common.{◌≡◌, ℕ, ◌<◌, List, [], ◌∷◌, length, Option, None, Some, refl, sym, ap, ap₂, ◌∙◌, subst, arith}
use Rattle.std.specs.List.{Contains, slice_get}
use Rattle.std.specs.Option.{IsSomeAnd, option_and_then, option_map_or}
use Rattle.std.proofs.Math.ListN.{take}
use Rattle.std.proofs.Math.Seq.{take-append_seam}
use Rattle.std.proofs.lemmas.List.{take-append-le}
use Rattle.std.proofs.lemmas.Option.{get_or_from_slice_get, slice_get_within}
use Rattle.tact_base.specs.Setup.{Setup}
use Rattle.tact_base.specs.declared.write.Write.{Write}
use Rattle.run_model.specs.Histories.{part_of}
use Rattle.run_model.specs.Order.{seen}
use Rattle.run_model.specs.OwnWrites.{accepted_by}
use Rattle.run_model.specs.Taking.{have}
use Rattle.run_model.specs.declared.entry.Entry.{Entry}
use Rattle.replica_network.proofs.Longer.{last_entry, longer, same_entry}
use Rattle.session_guard.specs.Guards.{IsRead, ReadsAt, WritesAt, seen_before}
use Rattle.session_guard.specs.Positions.{have_before}

-- One more entry of a history.
module _ (history : List Entry) (entry : Entry) where
  -- at a position before it
  module _ (position : ℕ) (within : position < length history) where
    same_front : take position (longer history entry) ≡ take position history
    same_front = take-append-le position history (entry ∷ []) (omega arith)

    pub WritesAt-same : (write : Write) → WritesAt (longer history entry) position write → WritesAt history position write
    WritesAt-same write is = sym (ap (option_and_then (λ (e : Entry). accepted_by e.replica e.moment e.act)) (same_entry history entry position within)) ∙ is

    pub ReadsAt-same : ReadsAt (longer history entry) position → ReadsAt history position
    ReadsAt-same is = subst (λ (o : Option Entry). IsSomeAnd o (λ (e : Entry). IsRead e.act)) (same_entry history entry position within) is

    pub seen_before-same : (setup : Setup) → seen_before setup (longer history entry) position ≡ seen_before setup history position
    seen_before-same setup =
        ap₂ (λ (o : Option Entry) (front : List Entry). option_map_or (λ (e : Entry). seen setup e.replica (part_of front e.replica)) o []) (same_entry history entry position within) same_front

    pub have_before-same : (origin : ℕ) → have_before (longer history entry) position origin ≡ have_before history position origin
    have_before-same origin =
        ap₂ (λ (o : Option Entry) (front : List Entry). option_map_or (λ (e : Entry). have e.replica (part_of front e.replica) origin) o 0) (same_entry history entry position within) same_front

  -- and at its own
  pub last_front : take (length history) (longer history entry) ≡ history
  last_front = take-append_seam history (entry ∷ [])

  pub seen_before-last : (setup : Setup) → seen_before setup (longer history entry) (length history) ≡ seen setup entry.replica (part_of history entry.replica)
  seen_before-last setup =
      ap₂ (λ (o : Option Entry) (front : List Entry). option_map_or (λ (e : Entry). seen setup e.replica (part_of front e.replica)) o []) (last_entry history entry) last_front

  pub have_before-last : (origin : ℕ) → have_before (longer history entry) (length history) origin ≡ have entry.replica (part_of history entry.replica) origin
  have_before-last origin =
      ap₂ (λ (o : Option Entry) (front : List Entry). option_map_or (λ (e : Entry). have e.replica (part_of front e.replica) origin) o 0) (last_entry history entry) last_front

  pub WritesAt-last : (write : Write) → WritesAt (longer history entry) (length history) write → accepted_by entry.replica entry.moment entry.act ≡ Some write
  WritesAt-last write is = sym (ap (option_and_then (λ (e : Entry). accepted_by e.replica e.moment e.act)) (last_entry history entry)) ∙ is

  pub ReadsAt-last : ReadsAt (longer history entry) (length history) → IsRead entry.act
  ReadsAt-last is = subst (λ (o : Option Entry). IsSomeAnd o (λ (e : Entry). IsRead e.act)) (last_entry history entry) is

-- the entry at a position
pub entry_written : (history : List Entry) (position : ℕ) (write : Write)
    → WritesAt history position write
    → (entry : Entry) × Contains history entry × (accepted_by entry.replica entry.moment entry.act ≡ Some write)
entry_written history position write is = go (slice_get history position) refl is
  where
    go : (there : Option Entry)
        → slice_get history position ≡ there
        → option_and_then (λ (e : Entry). accepted_by e.replica e.moment e.act) there ≡ Some write
        → (entry : Entry) × Contains history entry × (accepted_by entry.replica entry.moment entry.act ≡ Some write)
    go None none is = cc
    go (Some entry) some is =
        (entry, (position, slice_get_within history position entry some, get_or_from_slice_get history position entry entry some), is)
