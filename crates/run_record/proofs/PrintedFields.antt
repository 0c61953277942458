-- The fields of a line that were printed are read again.
use Rattle.std.proofs.Common.{◌≡◌, ℕ, zero, suc, ◌-◌, ◌^◌, ◌<◌, ◌≤◌, ◌==◌, ◌≢◌, Bool, true, false, ◌&&◌, nat_le, List, [], ◌∷◌, ◌++◌, length, map, pos, negsuc, Ok, refl, sym, ap, ◌∙◌, arith}
use Rattle.std.specs.Prelude.{All, ℤ, decimal, codes, nat_eq, nat_lt, unsigned_abs, FitsSigned}
use Rattle.std.specs.Cmp.Lexicographic.{pointwise}
use Rattle.std.specs.Fmt.{signed_decimal}
use Rattle.std.specs.Int.{w64}
use Rattle.std.specs.List.{join_with_byte}
use Rattle.std.proofs.lemmas.Bool.Decides.{nat_tests}
use Rattle.std.proofs.lemmas.List.{append-nil, length-append}
use Rattle.tact_base.specs.declared.conit_list.Need.{Need}
use Rattle.tact_base.specs.declared.conit_list.Weight.{Weight}
use Rattle.tact_base.specs.declared.limits.TheConstants.{AMOUNT_MAX, HISTORY_MAX, KEY_MAX, LIST_MAX, MOMENT_MAX, VALUE_MAX, WEIGHT_MAX}
use Rattle.tact_base.specs.declared.write.Op.{Op}
use Rattle.tact_base.specs.declared.write.Op.TheVariants.{Put, Add, Shift}
use Rattle.tact_base.proofs.ConitListLemmas.{IsConitList-few}
use Rattle.run_model.specs.Bytes.{AreWeightsOf, AreNeedsOf}
use Rattle.run_model.specs.Ranges.{IsOpInRange}
use Rattle.run_model.specs.Text.{need_token, op_tokens, weight_token}
use Rattle.run_record.specs.declared.lists.ListEnd.TheVariants as ending
use Rattle.run_record.specs.Splitting.{with_front}
use Rattle.run_record.specs.Fields.{Tokens, Field, token_at, number_at, count_at, signed_at, other_replica_at, put_at, add_at, shift_at, op_at}
use Rattle.run_record.specs.Lists.{parts_of, three_of, four_of, weight_by, weight_of, need_by, need_of, weight_at, need_at, is_end, list_at, weights_at, needs_at, numbers_at}
use Rattle.run_record.specs.CallTokens.{any_signed_at, is_wide, sums_at}
use Rattle.run_record.specs.Fronts.{Lacks}
use Rattle.run_record.proofs.PrintedTokens.{decimal_lacks_colon, signed_lacks_colon, signed_of-decimal, whole_number-decimal, whole_signed-decimal}
use Rattle.run_model.proofs.Rising.{AreRising, IsItem, kept_rises}

-- ---- numbers

pub number_again : (n most : ℕ) (rest : Tokens) → n < 2 ^ 64 → n ≤ most → number_at most (decimal n ∷ rest) ≡ Ok (n, rest)
unfolding number_at token_at
number_again n most rest fits within = rw (whole_number-decimal n most fits within) refl

pub count_again : (n least most : ℕ) (rest : Tokens) → n < 2 ^ 64 → least ≤ n → n ≤ most → count_at least most (decimal n ∷ rest) ≡ Ok (n, rest)
unfolding count_at
count_again n least most rest fits low within =
    let reached : nat_lt n least ≡ false = grind (arith, nat_tests) in
    rw (number_again n most rest fits within, reached) refl

pub other_again : (n first replicas : ℕ) (rest : Tokens) → n < 2 ^ 64 → n < replicas → n ≢ first → other_replica_at replicas first (decimal n ∷ rest) ≡ Ok (n, rest)
unfolding other_replica_at
other_again n first replicas rest fits within differ =
    let apart : (n == first) ≡ false = grind (arith, nat_tests) in
    rw (number_again n (replicas - 1) rest fits (omega (arith, within)), apart) refl

pub signed_again : (z : ℤ) (size : ℕ) (rest : Tokens) → size < 2 ^ 63 → unsigned_abs z ≤ size → signed_at size (signed_decimal z ∷ rest) ≡ Ok (z, rest)
unfolding signed_at token_at
signed_again z size rest small within = rw (whole_signed-decimal z size (omega (arith, small, within)) within) refl

wide_is : (z : ℤ) → FitsSigned w64 z → is_wide z ≡ true
wide_is (pos n) fits = below n fits.sfits
  where
    below : (n : ℕ) → n < 2 ^ 63 → nat_lt n (2 ^ 63) ≡ true
    below n lt = grind (arith, nat_tests)
wide_is (negsuc n) fits = below n fits.sfits
  where
    below : (n : ℕ) → n < 2 ^ 63 → nat_lt n (2 ^ 63) ≡ true
    below n lt = grind (arith, nat_tests)

pub wide_abs : (z : ℤ) → FitsSigned w64 z → unsigned_abs z < 2 ^ 64
wide_abs (pos n) fits = omega (arith, fits.sfits)
wide_abs (negsuc n) fits = omega (arith, fits.sfits)

pub wide_again : (z : ℤ) (rest : Tokens) → FitsSigned w64 z → any_signed_at (signed_decimal z ∷ rest) ≡ Ok (z, rest)
unfolding any_signed_at token_at
wide_again z rest fits = rw (signed_of-decimal z (wide_abs z fits), wide_is z fits) refl

-- ---- operations

pub op_again : (op : Op) (rest : Tokens) → IsOpInRange op → op_at (op_tokens op ++ rest) ≡ Ok (op, rest)
unfolding op_at token_at put_at add_at shift_at
op_again (Put key value) rest is = rw (number_again key KEY_MAX (signed_decimal value ∷ rest) (omega (arith, is.0)) is.0, signed_again value VALUE_MAX rest (omega arith) is.1) refl
op_again (Add key delta) rest is = rw (number_again key KEY_MAX (signed_decimal delta ∷ rest) (omega (arith, is.0)) is.0, signed_again delta VALUE_MAX rest (omega arith) is.1) refl
op_again (Shift from to amount) rest is =
    rw (number_again from KEY_MAX (decimal to ∷ decimal amount ∷ rest) (omega (arith, is.0)) is.0, number_again to KEY_MAX (decimal amount ∷ rest) (omega (arith, is.1)) is.1, number_again amount VALUE_MAX rest (omega (arith, is.2)) is.2) refl

-- ---- weights and needs

part_ends : (piece rest : List ℕ) → Lacks 58 piece → parts_of (piece ++ 58 ∷ rest) ≡ piece ∷ parts_of rest
part_ends [] rest lacks = refl
part_ends (b ∷ bs) rest lacks = rw (lacks.0, part_ends bs rest lacks.1) refl

last_part : (piece : List ℕ) → Lacks 58 piece → parts_of piece ≡ piece ∷ []
last_part [] lacks = refl
last_part (b ∷ bs) lacks = rw lacks.0 (ap (with_front b) (last_part bs lacks.1))

three_parts : (a b c : List ℕ) → Lacks 58 a → Lacks 58 b → Lacks 58 c → parts_of (join_with_byte 58 (a ∷ b ∷ c ∷ [])) ≡ a ∷ b ∷ c ∷ []
three_parts a b c la lb lc =
    part_ends a (b ++ 58 ∷ c) la ∙ ap (λ (ps : List (List ℕ)). a ∷ ps) (part_ends b c lb ∙ ap (λ (ps : List (List ℕ)). b ∷ ps) (last_part c lc))

four_parts : (a b c d : List ℕ) → Lacks 58 a → Lacks 58 b → Lacks 58 c → Lacks 58 d → parts_of (join_with_byte 58 (a ∷ b ∷ c ∷ d ∷ [])) ≡ a ∷ b ∷ c ∷ d ∷ []
four_parts a b c d la lb lc ld =
    part_ends a (b ++ 58 ∷ (c ++ 58 ∷ d)) la ∙ ap (λ (ps : List (List ℕ)). a ∷ ps) (three_parts b c d lb lc ld)

pub both_tests : (a b : Bool) → (a && b) ≡ true → (a ≡ true) × (b ≡ true)
both_tests true b h = (refl, h)
both_tests false b h = absurd cc

abbrev pub weight_limits : Weight → Bool
weight_limits w = nat_le (unsigned_abs w.nweight) WEIGHT_MAX && nat_le w.oweight WEIGHT_MAX

abbrev pub need_limits : Need → Bool
need_limits n = nat_le n.num AMOUNT_MAX && nat_le n.order AMOUNT_MAX && nat_le n.stale MOMENT_MAX

pub at_most : (a b : ℕ) → nat_le a b ≡ true → a ≤ b
at_most a b h = grind (arith, nat_tests)

pub weight_is : (w : Weight) → weight_limits w ≡ true → (unsigned_abs w.nweight ≤ WEIGHT_MAX) × (w.oweight ≤ WEIGHT_MAX)
weight_is w h =
    let t = both_tests (nat_le (unsigned_abs w.nweight) WEIGHT_MAX) (nat_le w.oweight WEIGHT_MAX) h in
    (at_most _ _ t.0, at_most _ _ t.1)

pub need_is : (n : Need) → need_limits n ≡ true → (n.num ≤ AMOUNT_MAX) × (n.order ≤ AMOUNT_MAX) × (n.stale ≤ MOMENT_MAX)
need_is n h =
    let t = both_tests (nat_le n.num AMOUNT_MAX && nat_le n.order AMOUNT_MAX) (nat_le n.stale MOMENT_MAX) h in
    let u = both_tests (nat_le n.num AMOUNT_MAX) (nat_le n.order AMOUNT_MAX) t.0 in
    (at_most _ _ u.0, at_most _ _ u.1, at_most _ _ t.1)

-- of a setup with so many conits
module _ (conits : ℕ) (few : conits ≤ 16) where
  weight_of_again : (w : Weight) → w.conit < conits → weight_limits w ≡ true → weight_of conits (weight_token w) ≡ Ok w
  unfolding weight_of
  weight_of_again w below limits =
      let small = weight_is w limits in
      let wide : w.conit < 2 ^ 64 = omega (arith, below, few) in
      let signed : unsigned_abs w.nweight < 2 ^ 64 = omega (arith, small.0) in
      let other : w.oweight < 2 ^ 64 = omega (arith, small.1) in
      let parts = three_parts (decimal w.conit) (signed_decimal w.nweight) (decimal w.oweight) (decimal_lacks_colon w.conit wide) (signed_lacks_colon w.nweight signed) (decimal_lacks_colon w.oweight other) in
      let conit = whole_number-decimal w.conit (conits - 1) wide (omega (arith, below)) in
      let nweight = whole_signed-decimal w.nweight WEIGHT_MAX signed small.0 in
      let oweight = whole_number-decimal w.oweight WEIGHT_MAX other small.1 in
      ap (λ parts. weight_by conits (three_of parts)) parts ∙ rw (conit, nweight, oweight) refl

  need_of_again : (n : Need) → n.conit < conits → need_limits n ≡ true → need_of conits (need_token n) ≡ Ok n
  unfolding need_of
  need_of_again n below limits =
      let small = need_is n limits in
      let wide : n.conit < 2 ^ 64 = omega (arith, below, few) in
      let nw : n.num < 2 ^ 64 = omega (arith, small.0) in
      let ow : n.order < 2 ^ 64 = omega (arith, small.1) in
      let sw : n.stale < 2 ^ 64 = omega (arith, small.2) in
      let parts = four_parts (decimal n.conit) (decimal n.num) (decimal n.order) (decimal n.stale) (decimal_lacks_colon n.conit wide) (decimal_lacks_colon n.num nw) (decimal_lacks_colon n.order ow) (decimal_lacks_colon n.stale sw) in
      let conit = whole_number-decimal n.conit (conits - 1) wide (omega (arith, below)) in
      let num = whole_number-decimal n.num AMOUNT_MAX nw small.0 in
      let order = whole_number-decimal n.order AMOUNT_MAX ow small.1 in
      let stale = whole_number-decimal n.stale MOMENT_MAX sw small.2 in
      ap (λ parts. need_by conits (four_of parts)) parts ∙ rw (conit, num, order, stale) refl

  pub weight_again : (least : ℕ) (w : Weight) (rest : Tokens) → least ≤ w.conit → w.conit < conits → weight_limits w ≡ true → weight_at conits least (weight_token w ∷ rest) ≡ Ok (w, rest)
  unfolding weight_at token_at
  weight_again least w rest reached below limits =
      let ordered : nat_lt w.conit least ≡ false = grind (arith, nat_tests) in
      rw (weight_of_again w below limits, ordered) refl

  pub need_again : (least : ℕ) (n : Need) (rest : Tokens) → least ≤ n.conit → n.conit < conits → need_limits n ≡ true → need_at conits least (need_token n ∷ rest) ≡ Ok (n, rest)
  unfolding need_at token_at
  need_again least n rest reached below limits =
      let ordered : nat_lt n.conit least ≡ false = grind (arith, nat_tests) in
      rw (need_of_again n below limits, ordered) refl

-- ---- lists

module _ {A : Type 0} (item : ℕ → Tokens → Field A) (after : A → ℕ) (ends : Tokens → Bool) (show : A → List ℕ) (Fits : ℕ → A → Type 0) (reads : (least : ℕ) (x : A) (rest : Tokens) → Fits least x → item least (show x ∷ rest) ≡ Ok (x, rest)) (goes : (least : ℕ) (x : A) (rest : Tokens) → Fits least x → ends (show x ∷ rest) ≡ false) where
  abbrev pub AreFit : ℕ → List A → Type 0
  AreFit least [] = Unit {0}
  AreFit least (x ∷ xs) = Fits least x × AreFit (after x) xs

  pub items_again : (room least : ℕ) (xs : List A) (rest : Tokens)
      → length xs ≤ room
      → (length xs < room → ends rest ≡ true)
      → AreFit least xs
      → list_at item after ends room least (map show xs ++ rest) ≡ Ok (xs, rest)
  unfolding list_at
  items_again zero least [] rest within stop fit = refl
  items_again zero least (x ∷ xs) rest within stop fit = absurd (omega (arith, within))
  items_again (suc room) least [] rest within stop fit = rw (stop (omega arith)) refl
  items_again (suc room) least (x ∷ xs) rest within stop fit =
      rw (goes least x (map show xs ++ rest) fit.0, reads least x (map show xs ++ rest) fit.0, items_again room (after x) xs rest (omega (arith, within)) (λ more. stop (omega (arith, more))) fit.1) refl

-- a token of two bytes or more isn't `=`
not_equals : (t : List ℕ) → 2 ≤ length t → pointwise nat_eq t (codes "=") ≡ false
not_equals [] long = absurd (omega (arith, long))
not_equals (a ∷ []) long = absurd (omega (arith, long))
not_equals (a ∷ b ∷ cs) long = never (nat_eq a 61)
  where
    never : (x : Bool) → (x && false) ≡ false
    never true = refl
    never false = refl

weight_goes : (conits : ℕ) (w : Weight) (rest : Tokens) → is_end ending.Equals (weight_token w ∷ rest) ≡ false
weight_goes conits w rest =
    not_equals (weight_token w) (omega (arith, length-append (decimal w.conit) (58 ∷ (signed_decimal w.nweight ++ 58 ∷ decimal w.oweight)), length-append (signed_decimal w.nweight) (58 ∷ decimal w.oweight)))

need_goes : (conits : ℕ) (n : Need) (rest : Tokens) → is_end ending.Equals (need_token n ∷ rest) ≡ false
need_goes conits n rest =
    not_equals (need_token n) (omega (arith, length-append (decimal n.conit) (58 ∷ (decimal n.num ++ 58 ∷ (decimal n.order ++ 58 ∷ decimal n.stale))), length-append (decimal n.num) (58 ∷ (decimal n.order ++ 58 ∷ decimal n.stale))))

pub weights_again : (conits : ℕ) (ws : List Weight) (rest : Tokens)
    → conits ≤ 16
    → AreWeightsOf conits ws
    → weights_at conits ending.Equals (map weight_token ws ++ codes "=" ∷ rest) ≡ Ok (ws, codes "=" ∷ rest)
weights_again conits ws rest few are =
    items_again (weight_at conits) (λ (w : Weight). suc w.conit) (is_end ending.Equals) weight_token (IsItem (λ (w : Weight). w.conit) weight_limits conits)
    (λ least w rest is. weight_again conits few least w rest is.reached is.below is.limits) (λ least w rest is. weight_goes conits w rest)
    LIST_MAX 0 ws (codes "=" ∷ rest) (IsConitList-few (λ (w : Weight). w.conit) weight_limits ws are.0) (λ more. refl)
    (fit 0 ws (kept_rises (λ (w : Weight). w.conit) weight_limits conits ws are.0 are.1))
  where
    fit : (least : ℕ) (ws : List Weight) → AreRising (λ (w : Weight). w.conit) weight_limits conits least ws
        → AreFit (weight_at conits) (λ (w : Weight). suc w.conit) (is_end ending.Equals) weight_token (IsItem (λ (w : Weight). w.conit) weight_limits conits)
        (λ least w rest is. weight_again conits few least w rest is.reached is.below is.limits) (λ least w rest is. weight_goes conits w rest) least ws
    fit least [] rise = tt
    fit least (w ∷ ws) rise = (rise.0, fit (suc w.conit) ws rise.1)

pub needs_again : (conits : ℕ) (ns : List Need) (rest : Tokens)
    → conits ≤ 16
    → AreNeedsOf conits ns
    → needs_at conits ending.Equals (map need_token ns ++ codes "=" ∷ rest) ≡ Ok (ns, codes "=" ∷ rest)
needs_again conits ns rest few are =
    items_again (need_at conits) (λ (n : Need). suc n.conit) (is_end ending.Equals) need_token (IsItem (λ (n : Need). n.conit) need_limits conits)
    (λ least n rest is. need_again conits few least n rest is.reached is.below is.limits) (λ least n rest is. need_goes conits n rest)
    LIST_MAX 0 ns (codes "=" ∷ rest) (IsConitList-few (λ (n : Need). n.conit) need_limits ns are.0) (λ more. refl)
    (fit 0 ns (kept_rises (λ (n : Need). n.conit) need_limits conits ns are.0 are.1))
  where
    fit : (least : ℕ) (ns : List Need) → AreRising (λ (n : Need). n.conit) need_limits conits least ns
        → AreFit (need_at conits) (λ (n : Need). suc n.conit) (is_end ending.Equals) need_token (IsItem (λ (n : Need). n.conit) need_limits conits)
        (λ least n rest is. need_again conits few least n rest is.reached is.below is.limits) (λ least n rest is. need_goes conits n rest) least ns
    fit least [] rise = tt
    fit least (n ∷ ns) rise = (rise.0, fit (suc n.conit) ns rise.1)

pub sums_again : (zs : List ℤ)
    → length zs ≤ LIST_MAX
    → All (λ z. FitsSigned w64 z) zs
    → sums_at (map signed_decimal zs) ≡ Ok (zs, [])
sums_again zs few fits =
    ap sums_at (sym (append-nil (map signed_decimal zs)))
    ∙ items_again (λ least. any_signed_at) (λ (z : ℤ). 0) (is_end ending.Line) signed_decimal (λ least z. FitsSigned w64 z)
    (λ least z rest is. wide_again z rest is) (λ least z rest is. refl) LIST_MAX 0 zs [] few (λ more. refl) (fit 0 zs fits)
  where
    fit : (least : ℕ) (zs : List ℤ) → All (λ z. FitsSigned w64 z) zs
        → AreFit (λ least. any_signed_at) (λ (z : ℤ). 0) (is_end ending.Line) signed_decimal (λ least z. FitsSigned w64 z)
        (λ least z rest is. wide_again z rest is) (λ least z rest is. refl) least zs
    fit least [] all = tt
    fit least (z ∷ zs) all = (all 0 z (omega arith), fit 0 zs (λ k d within. all (suc k) d (omega arith)))

pub firsts_again : (count : ℕ) (ns : List ℕ) (rest : Tokens)
    → length ns ≡ count
    → All (λ n. n ≤ HISTORY_MAX) ns
    → numbers_at HISTORY_MAX count (map decimal ns ++ rest) ≡ Ok (ns, rest)
firsts_again count ns rest long small =
    items_again (λ least. number_at HISTORY_MAX) (λ (n : ℕ). 0) (λ (tokens : Tokens). false) decimal (λ least n. n ≤ HISTORY_MAX)
    (λ least n rest is. number_again n HISTORY_MAX rest (omega (arith, is)) is) (λ least n rest is. refl) count 0 ns rest (omega (arith, long)) (λ more. absurd (omega (arith, long, more))) (fit 0 ns small)
  where
    fit : (least : ℕ) (ns : List ℕ) → All (λ n. n ≤ HISTORY_MAX) ns
        → AreFit (λ least. number_at HISTORY_MAX) (λ (n : ℕ). 0) (λ (tokens : Tokens). false) decimal (λ least n. n ≤ HISTORY_MAX)
        (λ least n rest is. number_again n HISTORY_MAX rest (omega (arith, is)) is) (λ least n rest is. refl) least ns
    fit least [] all = tt
    fit least (n ∷ ns) all = (all 0 n (omega arith), fit 0 ns (λ k d within. all (suc k) d (omega arith)))
