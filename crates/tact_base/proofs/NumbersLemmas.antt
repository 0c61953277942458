-- Digits that stand at the front of a list, read one after another.
use Rattle.std.proofs.Common.{◌≡◌, ℕ, ◌+◌, ◌-◌, ◌*◌, ◌^◌, ◌<◌, ◌≤◌, suc, true, false, List, length, drop, take, get_or, take_while, arith, add-one}
use Rattle.std.specs.List.{prefix_len}
use Rattle.std.specs.Char.{is_ascii_digit}
use Rattle.std.proofs.lemmas.List.{length-take-le, take-take}
use Rattle.std.proofs.lemmas.List.Sums.{fold_more, prefix_len-drop_yes, prefix_len-drop_no, prefix_len-le-length}
use Rattle.tact_base.specs.Numbers.{decimal_value, PassesAt}

-- one more digit
pub decimal_value-take_more : (digits : List ℕ) (k : ℕ)
    → k < length digits
    → decimal_value (take (k + 1) digits) ≡ 10 * decimal_value (take k digits) + (get_or digits k 0 - 48)
decimal_value-take_more digits k within = fold_more (λ value digit. 10 * value + (digit - 48)) 0 digits k 0 within

-- The first k are digits, and what follows is one or not.
module _ (rest : List ℕ) (k : ℕ) (within : k < length rest) (digits : k + prefix_len is_ascii_digit (drop k rest) ≡ prefix_len is_ascii_digit rest) where
  -- a digit follows
  pub digits_more : is_ascii_digit (get_or rest k 0) ≡ true
      → (k + 1) + prefix_len is_ascii_digit (drop (k + 1) rest) ≡ prefix_len is_ascii_digit rest
  digits_more digit = omega (arith, prefix_len-drop_yes is_ascii_digit rest k 0 within digit)

  -- none follows
  pub digits_end : is_ascii_digit (get_or rest k 0) ≡ false → prefix_len is_ascii_digit rest ≡ k
  digits_end other = omega (arith, prefix_len-drop_no is_ascii_digit rest k 0 within other)

  -- a digit follows that doesn't fit
  pub PassesAt-next : (value : ℕ)
      → is_ascii_digit (get_or rest k 0) ≡ true
      → value ≡ decimal_value (take k rest)
      → value < 2 ^ 64
      → 2 ^ 64 ≤ 10 * value + (get_or rest k 0 - 48)
      → PassesAt (take_while is_ascii_digit rest) k
  PassesAt-next value digit so_far before at =
      let n = prefix_len is_ascii_digit rest in
      let more = digits_more digit in
      let few = prefix_len-le-length is_ascii_digit rest in
      let next : decimal_value (take (suc k) rest) ≡ 10 * decimal_value (take k rest) + (get_or rest k 0 - 48) =
      rw (add-one k) at (decimal_value-take_more rest k within) in
      record {
        within = rw (length-take-le n rest few) (omega arith);
        before = rw (take-take k n rest (omega arith), ← so_far) before;
        at = rw (take-take (suc k) n rest (omega arith), next, ← so_far) at;
      }
