-- What an amount is as a change of the sold places.
use Rattle.std.proofs.Common.{◌≡◌, ℕ, zero, suc, ◌≤◌, ℤ, pos, negsuc, ◌-ℤ◌, ◌∙◌, ap, refl, arith, of_z, to_z, w64, FitsSigned}
use Rattle.std.specs.Prelude.{neg_ℤ}
use Rattle.std.proofs.lemmas.Int.{ints, to_z-of_z, to_z_pos}
use Rattle.tact_base.specs.declared.limits.TheConstants.{WEIGHT_MAX}

-- one above 0, in 64 bits
pub sold_is : (amount : ℕ) → amount ≤ WEIGHT_MAX → to_z w64 amount ≡ pos amount
sold_is amount few = to_z_pos w64 amount (omega (arith, few))

-- one below it
below_is : (amount : ℕ) → pos 0 -ℤ pos amount ≡ neg_ℤ (pos amount)
below_is zero = refl
below_is (suc n) = let is : pos 0 -ℤ pos (suc n) ≡ negsuc n = omega (arith, ints) in is

pub cancelled_is : (amount : ℕ) → amount ≤ WEIGHT_MAX → to_z w64 (of_z w64 (pos 0 -ℤ to_z w64 amount)) ≡ neg_ℤ (pos amount)
cancelled_is amount few =
    ap (λ (z : ℤ). to_z w64 (of_z w64 (pos 0 -ℤ z))) (sold_is amount few) ∙ to_z-of_z w64 (pos 0 -ℤ pos amount) (fits amount few) ∙ below_is amount
  where
    fits : (n : ℕ) → n ≤ WEIGHT_MAX → FitsSigned w64 (pos 0 -ℤ pos n)
    fits n few = omega (arith, ints, few)
