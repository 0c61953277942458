-- A token's first part, and the parts after it.
use Rattle.std.proofs.Common.{◌≡◌, ◌≢◌, ℕ, zero, suc, ◌+◌, ◌<◌, Bool, true, false, cond, eqb, None, List, [], ◌∷◌, length, get_or, take, drop, refl, ap, arith, eq-eqb}
use Rattle.std.proofs.lemmas.Bool.Decides.{nat_tests}
use Rattle.run_record.specs.Splitting.{with_front}
use Rattle.run_record.specs.Lists.{parts_of, three_of}

eqb_no : (a b : ℕ) → a ≢ b → eqb a b ≡ false
eqb_no a b h = grind (arith, nat_tests)

pub first_part : (bs : List ℕ) (k : ℕ)
    → k < length bs
    → ((j : ℕ) → j < k → get_or bs j 0 ≢ 58)
    → get_or bs k 0 ≡ 58
    → parts_of bs ≡ take k bs ∷ parts_of (drop (k + 1) bs)
first_part [] k within before here = absurd (omega arith)
first_part (b ∷ bs) zero within before here = let e : eqb b 58 ≡ true = eq-eqb b 58 here in rw e refl
first_part (b ∷ bs) (suc k) within before here =
    let e : eqb b 58 ≡ false = eqb_no b 58 (before 0 (omega arith)) in
    let more : suc k + 1 ≡ suc (k + 1) = omega arith in
    let rest : parts_of bs ≡ take k bs ∷ parts_of (drop (k + 1) bs) = first_part bs k (omega arith) (λ j lt. before (suc j) (omega arith)) here in
    rw (e, more) (ap (with_front b) rest)

pub only_part : (bs : List ℕ)
    → ((j : ℕ) → j < length bs → get_or bs j 0 ≢ 58)
    → parts_of bs ≡ bs ∷ []
only_part [] none = refl
only_part (b ∷ bs) none =
    let e : eqb b 58 ≡ false = eqb_no b 58 (none 0 (omega arith)) in
    rw e (ap (with_front b) (only_part bs (λ j lt. none (suc j) (omega arith))))

-- a token has a part
pub some_parts : (bs : List ℕ) → 0 < length (parts_of bs)
some_parts [] = omega arith
some_parts (b ∷ bs) = go (eqb b 58)
  where
    with_front-some : (pieces : List (List ℕ)) → 0 < length (with_front b pieces)
    with_front-some [] = omega arith
    with_front-some (piece ∷ pieces) = omega arith

    go : (is : Bool) → 0 < length (cond is ([] ∷ parts_of bs) (with_front b (parts_of bs)))
    go true = omega arith
    go false = with_front-some (parts_of bs)

-- more parts than three
pub more_than_three : (p q r s : List (List ℕ)) (a b c : List ℕ)
    → p ≡ a ∷ q
    → q ≡ b ∷ r
    → r ≡ c ∷ s
    → 0 < length s
    → three_of p ≡ None
more_than_three p q r s a b c p-is q-is r-is some = rw (p-is, q-is, r-is) (four s some)
  where
    four : (s : List (List ℕ)) → 0 < length s → three_of (a ∷ b ∷ c ∷ s) ≡ None
    four [] some = absurd (omega arith)
    four (d ∷ s) some = refl
