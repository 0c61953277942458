-- Messages that are kept by the spans of their writes, in a table that grows.
use Rattle.std.proofs.Common.{◌≡◌, ℕ, zero, suc, ◌<◌, List, [], ◌∷◌, ◌++◌, map, length, get_or, set, refl, sym, ap, ap₂, ◌∙◌, subst}
use Rattle.std.specs.Prelude.{replicate}
use Rattle.std.specs.List.{All}
use Rattle.std.proofs.lemmas.List.{length-map, map_push, map-set, get_or-map}
use Rattle.std.proofs.lemmas.List.Elements.{All-head, All-tail, All-weaker, All-get_or, All-set, All-push}
use Rattle.tact_base.specs.declared.write.Write.{Write}
use Rattle.run_model.specs.declared.entry.Message.{Message}
use Rattle.run_check.specs.declared.kept.Kept.{Kept}
use Rattle.run_check.specs.Keeping.{whole_of, IsPlaced, HasGrown}
use Rattle.run_check.proofs.Spans.{spans_stay, writes_stay}

-- A table grew.
module _ (before after : List (List Write)) (grown : HasGrown before after) where
  placed_still : (kept : Kept) → IsPlaced before kept → IsPlaced after kept
  placed_still kept placed = spans_stay before after grown kept.spans placed

  whole_still : (kept : Kept) → IsPlaced before kept → whole_of after kept ≡ whole_of before kept
  whole_still kept placed =
      ap (λ (writes : List Write). record kept.message { writes = writes ++ kept.message.writes }) (writes_stay before after grown kept.spans placed)

  -- of one replica
  all_placed_still : (kepts : List Kept) → All (IsPlaced before) kepts → All (IsPlaced after) kepts
  all_placed_still kepts all = All-weaker (IsPlaced before) (IsPlaced after) placed_still kepts all

  all_whole_still : (kepts : List Kept)
      → All (IsPlaced before) kepts
      → map (whole_of after) kepts ≡ map (whole_of before) kepts
  all_whole_still [] all = refl
  all_whole_still (kept ∷ kepts) all =
      ap₂ (λ (message : Message) (rest : List Message). message ∷ rest)
      (whole_still kept (All-head (IsPlaced before) kept kepts all))
      (all_whole_still kepts (All-tail (IsPlaced before) kept kepts all))

  -- of all
  pub outboxes_placed_still : (boxes : List (List Kept))
      → All (All (IsPlaced before)) boxes
      → All (All (IsPlaced after)) boxes
  outboxes_placed_still boxes all = All-weaker (All (IsPlaced before)) (All (IsPlaced after)) all_placed_still boxes all

  pub outboxes_whole_still : (boxes : List (List Kept))
      → All (All (IsPlaced before)) boxes
      → map (map (whole_of after)) boxes ≡ map (map (whole_of before)) boxes
  outboxes_whole_still [] all = refl
  outboxes_whole_still (box ∷ boxes) all =
      ap₂ (λ (messages : List Message) (rest : List (List Message)). messages ∷ rest)
      (all_whole_still box (All-head (All (IsPlaced before)) box boxes all))
      (outboxes_whole_still boxes (All-tail (All (IsPlaced before)) box boxes all))

-- where there is no message yet
pub none_whole : (written : List (List Write)) (count : ℕ) → map (map (whole_of written)) (replicate count []) ≡ replicate count []
none_whole written zero = refl
none_whole written (suc count) = ap (λ (rest : List (List Message)). [] ∷ rest) (none_whole written count)

-- A message is kept behind those of a replica, in a table that grew.
module _ (before after : List (List Write)) (boxes : List (List Kept)) (replica : ℕ) (kept : Kept)
    (grown : HasGrown before after)
    (placed : All (All (IsPlaced before)) boxes)
    (within : replica < length boxes) where
  abbrev box : List Kept
  box = get_or boxes replica []

  box_placed : All (IsPlaced after) box
  box_placed = All-get_or (All (IsPlaced after)) boxes replica [] within (outboxes_placed_still before after grown boxes placed)

  pub placed_with : IsPlaced after kept
      → All (All (IsPlaced after)) (set boxes replica (box ++ kept ∷ []))
  placed_with is =
      All-set (All (IsPlaced after)) boxes replica (box ++ kept ∷ []) (All-push (IsPlaced after) box kept box_placed is)
      (outboxes_placed_still before after grown boxes placed)

  pub whole_with : (message : Message)
      → whole_of after kept ≡ message
      → map (map (whole_of after)) (set boxes replica (box ++ kept ∷ []))
      ≡ set (map (map (whole_of before)) boxes) replica (get_or (map (map (whole_of before)) boxes) replica [] ++ message ∷ [])
  whole_with message is =
      let whole = map (whole_of after) in
      let still : map whole boxes ≡ map (map (whole_of before)) boxes = outboxes_whole_still before after grown boxes placed in
      let read : whole box ≡ get_or (map whole boxes) replica [] = sym (get_or-map whole boxes replica [] [] within) in
      map-set whole boxes replica (box ++ kept ∷ [])
      ∙ ap (set (map whole boxes) replica) (map_push (whole_of after) box kept ∙ ap₂ (λ (ms : List Message) (m : Message). ms ++ m ∷ []) read is)
      ∙ ap (λ (all : List (List Message)). set all replica (get_or all replica [] ++ message ∷ [])) still

-- what contracts see has as many lists as there are
pub box_within : (written : List (List Write)) (boxes : List (List Kept)) (seen : List (List Message)) (replica : ℕ)
    → map (map (whole_of written)) boxes ≡ seen
    → replica < length seen
    → replica < length boxes
box_within written boxes seen replica is held =
    let mapped : replica < length (map (map (whole_of written)) boxes) = subst (λ (s : List (List Message)). replica < length s) (sym is) held in
    rw length-map at mapped
