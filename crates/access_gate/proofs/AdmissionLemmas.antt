-- The least holder that has more than its part out.
use Rattle.std.proofs.Common.{◌≡◌, ℕ, ◌+◌, ◌-◌, ◌*◌, ◌<◌, ◌≤◌, suc, nat_lt, List, [], ◌∷◌, length, get_or, sum, arith, sym, inl, inr}
use Rattle.std.specs.List.{All, Contains, remove}
use Rattle.std.proofs.lemmas.Bool.{cases_lt, lt-ltb, le-ltb, ltb-false, ltb-true}
use Rattle.std.proofs.lemmas.List.Sums.{sum_by-cons, sum_by-remove, position_or_len_is, fails_before_first, passes_at_first}
use Rattle.std.proofs.lemmas.List.Sorted.{IsPermutation-remove, All-permutation, length_permutation}
use Rattle.std.proofs.lemmas.List.Elements.{All-head, All-tail}
use Rattle.std.proofs.Math.Nat.{le_of_mul-le-mul_right, mul_comm}
use Rattle.tact_base.specs.Admission.{first_over_part}

-- parts that are each at most `most` are at most so many times as much together
sum-parts : (parts most : ℕ) (xs : List ℕ)
    → All (λ x. x * parts ≤ most) xs
    → sum xs * parts ≤ length xs * most
sum-parts parts most [] all = omega arith
sum-parts parts most (x ∷ xs) all =
    let here : x * parts ≤ most = All-head (λ x. x * parts ≤ most) x xs all in
    let rest = sum-parts parts most xs (All-tail (λ x. x * parts ≤ most) x xs all) in
    let total : sum (x ∷ xs) ≡ x + sum xs = sum_by-cons (λ y. y) x xs in
    rw total (omega arith)

-- of outs that pass `num` together, one of which is 0, one passes its part
pub first_over_part-within : (outs : List ℕ) (num : ℕ)
    → 1 < length outs
    → Contains outs 0
    → num < sum outs
    → first_over_part outs num < length outs
first_over_part-within outs num many zeros passed =
    elim (cases_lt (first_over_part outs num) (length outs)) [
      | inl within ↦ within
      | inr none ↦
          let test = λ (out : ℕ). nat_lt num (out * (length outs - 1)) in
          let all : All (λ x. x * (length outs - 1) ≤ num) outs = λ k d inside. ltb-false num _ (fails_before_first test outs k d (omega arith)) in
          let k = zeros.0 in
          let others = remove outs k in
          let moved = IsPermutation-remove outs k 0 zeros.1 (sym zeros.2) in
          let few : length outs ≡ suc (length others) = sym (length_permutation outs (0 ∷ others) moved) in
          let rest = All-tail (λ x. x * (length outs - 1) ≤ num) 0 others (All-permutation (λ x. x * (length outs - 1) ≤ num) outs (0 ∷ others) moved all) in
          let bound = sum-parts (length outs - 1) num others rest in
          let same = sum_by-remove (λ x. x) outs k 0 zeros.1 in
          let count : length others ≡ length outs - 1 = omega arith in
          let total : sum others ≡ sum outs = omega (arith, same, zeros.2) in
          let product : sum outs * (length outs - 1) ≤ num * (length outs - 1) =
          rw (← total, mul_comm num (length outs - 1)) (rw count at bound) in
          let small : sum outs ≤ num = le_of_mul-le-mul_right product (omega arith) in
          absurd (omega arith)
    ]

-- which one it is, and that it passes its part
module _ (outs : List ℕ) (num : ℕ) where
  pub first_over_part-is : (b : ℕ)
      → b < length outs
      → ((k : ℕ) → k < b → get_or outs k 0 * (length outs - 1) ≤ num)
      → num < get_or outs b 0 * (length outs - 1)
      → first_over_part outs num ≡ b
  first_over_part-is b within before passed =
      position_or_len_is (λ out. nat_lt num (out * (length outs - 1))) outs b 0 (omega arith)
      (λ k early. le-ltb num _ (before k early)) (λ inside. lt-ltb num _ passed)

  pub first_over_part-passes : first_over_part outs num < length outs
      → num < get_or outs (first_over_part outs num) 0 * (length outs - 1)
  first_over_part-passes within = ltb-true num _ (passes_at_first (λ out. nat_lt num (out * (length outs - 1))) outs 0 within)
