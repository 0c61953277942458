-- The front of a row that a loop fills.
use Rattle.std.proofs.Common.{◌≡◌, ℕ, ◌<◌, ◌≤◌, List, length, get_or, map, take, ◌∙◌, arith}
use Rattle.std.specs.List.{range_with_len}
use Rattle.std.proofs.lemmas.List.{get_or-take, length-take-le}
use Rattle.std.proofs.lemmas.List.FromFn.{fill_by_all}

-- what a function gives of the numbers below a bound, where so many places are filled by it
pub filled_front : (number : ℕ → ℕ) (row : List ℕ) (count bound : ℕ)
    → count ≡ bound
    → count ≤ length row
    → ((at : ℕ) → at < bound → get_or row at 0 ≡ number at)
    → take count row ≡ map number (range_with_len 0 bound)
filled_front number row count bound all within filled =
    fill_by_all number (take count row) bound 0 (length-take-le count row within ∙ all)
    (λ at below. get_or-take count row at 0 (omega (arith, below, all)) ∙ filled at below)
