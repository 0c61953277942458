-- Items that come to wait, and what they carry.
use Rattle.std.proofs.Common.{◌≡◌, Bool, true, false, List, [], ◌∷◌, ◌++◌, refl, ◌∙◌, ap}
use Rattle.std.specs.Prelude.{slice_index_or}
use Rattle.std.specs.List.{All}
use Rattle.std.proofs.lemmas.List.{append_assoc}
use Rattle.std.proofs.lemmas.List.Elements.{All-nil, All-cons, All-append}
use Rattle.link_faults.specs.declared.plan.Fate.{Fate}
use Rattle.link_faults.specs.declared.plan.Fate.TheVariants.{Doubled}
use Rattle.link_faults.specs.Inboxes.{Gains, joined}

-- an item and a copy that join one after the other
pub Gains-two : {T : Type 0} (IsTwin : T → Type 0) (in_front : Bool) (old between new : List T) (item copy : T)
    → IsTwin item
    → IsTwin copy
    → between ≡ joined in_front (item ∷ []) old
    → new ≡ joined in_front (copy ∷ []) between
    → Gains IsTwin Doubled in_front old new
Gains-two IsTwin true old between new item copy twin twin_copy first second = record {
  added = copy ∷ item ∷ [];
  count = refl;
  twins = All-cons IsTwin copy (item ∷ []) twin_copy (All-cons IsTwin item [] twin (All-nil IsTwin));
  place = second ∙ ap (λ items. copy ∷ items) first;
}
Gains-two IsTwin false old between new item copy twin twin_copy first second = record {
  added = item ∷ copy ∷ [];
  count = refl;
  twins = All-cons IsTwin item (copy ∷ []) twin (All-cons IsTwin copy [] twin_copy (All-nil IsTwin));
  place = second ∙ ap (λ items. items ++ copy ∷ []) first ∙ append_assoc old (item ∷ []) (copy ∷ []);
}

-- what holds of all that waits and of whatever is alike to the item that was put goes on holding
pub Gains-all : {T : Type 0} (P IsTwin : T → Type 0) (fate : Fate) (in_front : Bool) (old new : List T)
    → ((item : T) → IsTwin item → P item)
    → All P old
    → Gains IsTwin fate in_front old new
    → All P new
Gains-all P IsTwin fate in_front old new keeps all gains = rw gains.place (both in_front)
  where
    added : All P gains.added
    added k d inside = keeps (slice_index_or gains.added k d) (gains.twins k d inside)

    both : (in_front : Bool) → All P (joined in_front gains.added old)
    both true = All-append P gains.added old added all
    both false = All-append P old gains.added all added
