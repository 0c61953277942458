-- What a list contains after a map that gives nothing of some elements.
use Rattle.std.proofs.Common.{◌≡◌, List, [], ◌∷◌, Contains, Option, None, Some, refl, sym, ap, ◌∙◌, subst, ⊎_elim}
use Rattle.std.specs.List.{cons_option, filter_map}
use Rattle.tact_base.proofs.ElementLemmas.{Contains-cases, Contains-first, Contains-later, Contains-none}

-- what a map gives of an element, where it gives something
pub Contains-filter_map : {X Y : Type 0} (f : X → Option Y) (xs : List X) (x : X) (y : Y)
    → Contains xs x
    → f x ≡ Some y
    → Contains (filter_map f xs) y
Contains-filter_map f [] x y within is = absurd (Contains-none x within)
Contains-filter_map {X} {Y} f (first ∷ rest) x y within is =
    ⊎_elim
    (λ (same : first ≡ x).
    subst (λ (o : Option Y). Contains (cons_option o (filter_map f rest)) y) (sym (ap f same ∙ is)) (Contains-first y y (filter_map f rest) refl))
    (λ (later : Contains rest x). behind (f first) (Contains-filter_map f rest x y later is))
    (Contains-cases first x rest within)
  where
    behind : (o : Option Y) → Contains (filter_map f rest) y → Contains (cons_option o (filter_map f rest)) y
    behind None found = found
    behind (Some other) found = Contains-later other y (filter_map f rest) found
