-- Writes that are sorted by their places are in order.
use Rattle.std.proofs.Common.{◌≡◌, true, false, List, [], ◌∷◌, get_or, IsPermutation, IsSorted, sym, ◌∙◌, ⊎_elim}
use Rattle.std.proofs.lemmas.Bool.{false≢true}
use Rattle.tact_base.proofs.CompareLemmas.{AreApart, before_cases_apart}
use Rattle.tact_base.proofs.ElementLemmas.{AllPairs-first, AllPairs-rest}
use Rattle.tact_base.proofs.OrderLemmas.{Apart, Apart-IsPermutation, IsRising, IsSortedByPlace, IsSortedByPlace-from_sorted, in_order_rising, in_order_moved}
use Rattle.tact_base.specs.WriteOrder.{write_cmp, comes_before, in_order}
use Rattle.tact_base.specs.declared.write.Write.{Write}

-- of two writes that aren't alike, one comes before the other
ahead : (write later : Write)
    → AreApart write later
    → comes_before later write ≡ false
    → comes_before write later ≡ true
ahead write later apart behind =
    ⊎_elim (λ (before : comes_before write later ≡ true). before)
    (λ (turned : comes_before later write ≡ true). absurd (false≢true (sym behind ∙ turned)))
    (before_cases_apart write later apart)

-- so where no two are alike, each comes before all later ones
IsRising-from_sorted : (writes : List Write) → Apart writes → IsSortedByPlace writes → IsRising writes
IsRising-from_sorted [] apart sorted = tt
IsRising-from_sorted (write ∷ writes) apart sorted = (
  λ k d within. ahead write (get_or writes k d) (AllPairs-first AreApart write writes apart k d within) (sorted.0 k d within),
  IsRising-from_sorted writes (AllPairs-rest AreApart write writes apart) sorted.1,
)

pub in_order-sorted : (writes sorted : List Write)
    → Apart writes
    → IsPermutation writes sorted
    → IsSorted write_cmp sorted
    → sorted ≡ in_order writes
in_order-sorted writes sorted apart moved is =
    sym (in_order_rising sorted (IsRising-from_sorted sorted (Apart-IsPermutation writes sorted moved apart) (IsSortedByPlace-from_sorted sorted is)))
    ∙ sym (in_order_moved writes sorted apart moved)
