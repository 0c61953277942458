-- The table of the words of commands is the one of the definitions.
use Rattle.std.proofs.Common.{◌≡◌, ℕ, Bool, true, false, cond, List, [], ◌∷◌, map, nat_eq, Some, refl, ap}
use Rattle.std.specs.List.{find}
use Rattle.std.specs.Cmp.Lexicographic.{pointwise}
use Rattle.std.specs.Option.{option_map}
use Rattle.tact_top.specs.Commands.{named}
use Rattle.tact_top.specs.declared.words.Name.{Name}
use Rattle.tact_top.specs.declared.words.TheConstants.{NAMES}

-- what is found in a table is what is found in the table of what its entries stand for
find_mapped : {A B : Type 0} (value : A → B) (naming : A → Name) (named_as : B → Name) (holds : B → Bool) (entries : List A)
    → ((entry : A) → naming entry ≡ named_as (value entry))
    → option_map naming (find (λ entry. holds (value entry)) entries) ≡ option_map named_as (find holds (map value entries))
find_mapped value naming named_as holds [] same = refl
find_mapped {A} {B} value naming named_as holds (entry ∷ rest) same =
    elim (holds (value entry)) as (λ found.
    option_map naming (cond found (Some entry) (find (λ x. holds (value x)) rest)) ≡ option_map named_as (cond found (Some (value entry)) (find holds (map value rest)))) [
      | true ↦ ap Some (same entry)
      | false ↦ find_mapped value naming named_as holds rest same
    ]

pub table_is : (word : List ℕ)
    → option_map (λ entry. entry.1) (find (λ entry. pointwise nat_eq word entry.0.now) NAMES) ≡ named word
table_is word = find_mapped {B = List ℕ × Name} (λ entry. (entry.0.now, entry.1)) (λ entry. entry.1) (λ entry. entry.1) (λ entry. pointwise nat_eq word entry.0) NAMES (λ entry. refl)
