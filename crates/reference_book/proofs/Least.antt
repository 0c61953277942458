-- The least of numbers.
use Rattle.std.proofs.Common.{◌≡◌, ℕ, zero, suc, ◌-◌, ◌<◌, ◌≤◌, min, List, [], ◌∷◌, ◌++◌, drop, Contains, Option, None, Some, inl, inr, ◌⊎◌, refl, sym, ap, subst, arith}
use Rattle.std.proofs.lemmas.Bool.{cases_lt}
use Rattle.std.specs.Option.{option_map, option_map_or}
use Rattle.std.specs.Prelude.{slice_get}
use Rattle.std.proofs.lemmas.List.Elements.{All-cons, All-append, All-contains, All-map, All-weaker, Contains-append_left, Contains-append_right}
use Rattle.tact_base.proofs.CoversLemmas.{least_of-is_least, least_of-ge}
use Rattle.tact_base.proofs.ElementLemmas.{AllPairs-first, AllPairs-rest, Contains-first, Contains-none}
use Rattle.tact_base.specs.Covers.{least_of}
use Rattle.tact_base.specs.declared.write.Write.{Write}
use Rattle.run_model.specs.Reference.{age_from}
use Rattle.reference_book.specs.Books.{HaveRisingMoments, IsLeast, moments_of}

-- of two lists together
pub IsLeast-both : (xs ys : List ℕ) (one other least : ℕ)
    → least ≡ min one other
    → IsLeast xs (Some one)
    → IsLeast ys (Some other)
    → IsLeast (xs ++ ys) (Some least)
IsLeast-both xs ys one other least is (in_one, below_one) (in_other, below_other) = (
  contained (cases (cases_lt one other)),
  All-append (λ n. least ≤ n) xs ys
      (All-weaker (λ n. one ≤ n) (λ n. least ≤ n) (λ n below. omega (arith, is, below)) xs below_one)
      (All-weaker (λ n. other ≤ n) (λ n. least ≤ n) (λ n below. omega (arith, is, below)) ys below_other),
)
  where
    cases : (one < other) ⊎ (other ≤ one) → (least ≡ one) ⊎ (least ≡ other)
    cases (inl below) = inl (omega (arith, is, below))
    cases (inr below) = inr (omega (arith, is, below))

    contained : (least ≡ one) ⊎ (least ≡ other) → Contains (xs ++ ys) least
    contained (inl same) = subst (Contains (xs ++ ys)) (sym same) (Contains-append_left xs ys one in_one)
    contained (inr same) = subst (Contains (xs ++ ys)) (sym same) (Contains-append_right xs ys other in_other)

-- where moments rise, the least one from a place on stands there
pub IsLeast-from : (writes : List Write) (place : ℕ)
    → HaveRisingMoments writes
    → IsLeast (moments_of (drop place writes)) (option_map (λ (write : Write). write.moment) (slice_get writes place))
IsLeast-from [] zero rising = refl
IsLeast-from [] (suc place) rising = refl
IsLeast-from (write ∷ writes) zero rising = (
  Contains-first write.moment write.moment (moments_of writes) refl,
  All-cons (λ n. write.moment ≤ n) write.moment (moments_of writes) (omega arith)
      (All-map (λ n. write.moment ≤ n) (λ (w : Write). w.moment) writes
      (AllPairs-first (λ (one other : Write). one.moment ≤ other.moment) write writes rising)),
)
IsLeast-from (write ∷ writes) (suc place) rising =
    IsLeast-from writes place (AllPairs-rest (λ (one other : Write). one.moment ≤ other.moment) write writes rising)

-- what the age is, where the least is known
pub age_from-least : (moment : ℕ) (numbers : List ℕ) (least : Option ℕ)
    → IsLeast numbers least
    → age_from moment numbers ≡ option_map_or (λ oldest. moment - oldest) least 0
age_from-least moment numbers None none = ap (age_from moment) none
age_from-least moment [] (Some least) (within, below) = absurd (Contains-none least within)
age_from-least moment (first ∷ rest) (Some least) (within, below) =
    let all = first ∷ rest in
    let low : least_of all ≤ least = All-contains (λ n. least_of all ≤ n) all least (least_of-is_least all) within in
    let high : least ≤ least_of all = least_of-ge least all (omega arith) (λ k inside. below k 0 inside) in
    ap (λ n. moment - n) (omega (arith, low, high))
