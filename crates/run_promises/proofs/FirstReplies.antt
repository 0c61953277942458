-- The first of the replies that some places give.
use Rattle.std.proofs.Common.{◌≡◌, List, [], ◌∷◌, All, Contains, Option, None, Some, refl, ap, ◌∙◌}
use Rattle.std.specs.List.{slice_get, filter_map, cons_option}
use Rattle.std.proofs.lemmas.List.Elements.{All-head, All-tail}
use Rattle.tact_base.proofs.ElementLemmas.{Contains-first, Contains-later}
use Rattle.run_model.specs.Replies.{first_some}
use Rattle.run_model.specs.declared.call.Reply.{Reply}

-- places that agree give the same first reply
pub first_some-agree : {A : Type 0} (f g : A → Option Reply) (items : List A)
    → All (λ item. f item ≡ g item) items
    → first_some f items ≡ first_some g items
first_some-agree f g [] all = refl
first_some-agree {A} f g (item ∷ items) all =
    ap (λ here. slice_get (cons_option here (filter_map f items)) 0) (All-head (λ item. f item ≡ g item) item items all)
    ∙ go (g item) (first_some-agree f g items (All-tail (λ item. f item ≡ g item) item items all))
  where
    go : (here : Option Reply)
        → first_some f items ≡ first_some g items
        → slice_get (cons_option here (filter_map f items)) 0 ≡ slice_get (cons_option here (filter_map g items)) 0
    go None rest = rest
    go (Some given) rest = refl

-- one of the places gives the first reply
pub first_some-from : {A : Type 0} (f : A → Option Reply) (items : List A) (given : Reply)
    → first_some f items ≡ Some given
    → (item : A) × Contains items item × (f item ≡ Some given)
first_some-from f [] given is = cc
first_some-from {A} f (item ∷ items) given is = go (f item) refl is (first_some-from f items given)
  where
    go : (here : Option Reply)
        → f item ≡ here
        → slice_get (cons_option here (filter_map f items)) 0 ≡ Some given
        → (first_some f items ≡ Some given → (found : A) × Contains items found × (f found ≡ Some given))
        → (found : A) × Contains (item ∷ items) found × (f found ≡ Some given)
    go None gives_none is rest = let found = rest is in (found.0, Contains-later item found.0 items found.1, found.2)
    go (Some reply) gives is rest = (item, Contains-first item item items refl, gives ∙ is)
