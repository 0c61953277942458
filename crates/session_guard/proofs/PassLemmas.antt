-- What a pass lacks, and its numbers where they are raised.
use Rattle.std.proofs.Common.{◌≡◌, ℕ, zero, suc, ◌+◌, ◌<◌, ◌≤◌, max, nat_lt, Bool, true, false, cond, List, length, get_or, map, set, None, Some, refl, sym, ap, ◌∙◌, ⊎_elim, get_or-set_same, get_or-set_other, arith}
use Rattle.std.specs.List.{find, range_with_len}
use Rattle.std.specs.Option.{option_map}
use Rattle.std.proofs.lemmas.Bool.{cases_eq, le-ltb, lt-ltb}
use Rattle.std.proofs.lemmas.List.{ext_get_or, length-map, length-set}
use Rattle.std.proofs.lemmas.List.FromFn.{length-range_with_len}
use Rattle.tact_base.proofs.ListLemmas.{get_or-map_range}
use Rattle.session_guard.specs.Passes.{PassState, lack_of, wanted}
use Rattle.session_guard.specs.declared.steps.Visit.{Visit}
use Rattle.session_guard.specs.declared.steps.Visit.TheVariants as visit

-- the first number of a range that passes a test, and none
find_first : (p : ℕ → Bool) (start len at : ℕ)
    → start ≤ at
    → at < start + len
    → p at ≡ true
    → ((k : ℕ) → start ≤ k → k < at → p k ≡ false)
    → find p (range_with_len start len) ≡ Some at
find_first p start zero at low high passes fails = absurd (omega arith)
find_first p start (suc len) at low high passes fails = ⊎_elim
    (λ (same : at ≡ start).
    ap (λ (is : Bool). cond is (Some start) (find p (range_with_len (start + 1) len))) (ap p (omega (arith, same)) ∙ passes) ∙ ap Some (omega (arith, same)))
    (λ (other : at ≡ start → ⊥).
    ap (λ (is : Bool). cond is (Some start) (find p (range_with_len (start + 1) len))) (fails start (omega arith) (omega (arith, low, other)))
    ∙ find_first p (start + 1) len at (omega (arith, low, other)) (omega (arith, high)) passes (λ k above below. fails k (omega (arith, above)) below))
    (cases_eq at start)

find_none : (p : ℕ → Bool) (start len : ℕ)
    → ((k : ℕ) → start ≤ k → k < start + len → p k ≡ false)
    → find p (range_with_len start len) ≡ None
find_none p start zero fails = refl
find_none p start (suc len) fails =
    ap (λ (is : Bool). cond is (Some start) (find p (range_with_len (start + 1) len))) (fails start (omega arith) (omega arith))
    ∙ find_none p (start + 1) len (λ k low high. fails k (omega (arith, low)) (omega (arith, high)))

-- a pass and what a replica has
module _ (haves : List ℕ) (pass : PassState) where
  abbrev is_short : ℕ → Bool
  is_short origin = nat_lt (get_or haves origin 0) (wanted pass origin)

  abbrev lack_at : ℕ → Visit
  lack_at origin = visit.Behind origin (get_or haves origin 0) (wanted pass origin)

  pub lack_of-first : (origin : ℕ)
      → origin < length haves
      → get_or haves origin 0 < wanted pass origin
      → ((k : ℕ) → k < origin → wanted pass k ≤ get_or haves k 0)
      → lack_of haves pass ≡ Some (visit.Behind origin (get_or haves origin 0) (wanted pass origin))
  lack_of-first origin within short before =
      ap (option_map lack_at)
      (find_first is_short 0 (length haves) origin (omega arith) (omega (arith, within)) (lt-ltb (get_or haves origin 0) (wanted pass origin) short)
      (λ k low high. le-ltb (get_or haves k 0) (wanted pass k) (before k high)))

  pub lack_of-none : ((k : ℕ) → k < length haves → wanted pass k ≤ get_or haves k 0) → lack_of haves pass ≡ None
  lack_of-none enough =
      ap (option_map lack_at) (find_none is_short 0 (length haves) (λ k low high. le-ltb (get_or haves k 0) (wanted pass k) (enough k (omega (arith, high)))))

-- numbers of which the first so many were raised to those of another list
pub record AreRaised (haves old new : List ℕ) (count : ℕ) : Type 0 where
  pub sized : length new ≡ length old
  pub raised : (k : ℕ) → k < count → get_or new k 0 ≡ max (get_or old k 0) (get_or haves k 0)
  pub others : (k : ℕ) → count ≤ k → get_or new k 0 ≡ get_or old k 0

pub one_more_raised : (haves old new after : List ℕ) (count most : ℕ)
    → AreRaised haves old new count
    → count < length new
    → most ≡ max (get_or haves count 0) (get_or new count 0)
    → after ≡ set new count most
    → AreRaised haves old after (count + 1)
one_more_raised haves old new after count most are within most_is is = record {
  sized = ap length is ∙ length-set new count most ∙ are.sized;
  raised = λ k below. ⊎_elim
      (λ (same : k ≡ count).
      omega (
        arith,
        ap (λ (xs : List ℕ). get_or xs k 0) is,
        ap (λ (i : ℕ). get_or (set new count most) i 0) same,
        get_or-set_same new count most 0 within,
        most_is,
        are.others count (omega arith),
        ap (λ (i : ℕ). get_or old i 0) same,
        ap (λ (i : ℕ). get_or haves i 0) same,
      ))
      (λ (other : k ≡ count → ⊥).
      ap (λ (xs : List ℕ). get_or xs k 0) is ∙ get_or-set_other new count k most 0 other ∙ are.raised k (omega (arith, below, other)))
      (cases_eq k count);
  others = λ k above.
      ap (λ (xs : List ℕ). get_or xs k 0) is
      ∙ get_or-set_other new count k most 0 (λ same. absurd (omega (arith, same, above)))
      ∙ are.others k (omega (arith, above));
}

pub all_raised : (haves old new : List ℕ)
    → length haves ≡ length old
    → AreRaised haves old new (length haves)
    → new ≡ map (λ origin. max (get_or old origin 0) (get_or haves origin 0)) (range_with_len 0 (length haves))
all_raised haves old new sized are =
    let f = λ (origin : ℕ). max (get_or old origin 0) (get_or haves origin 0) in
    let n = length haves in
    let many : length (map f (range_with_len 0 n)) ≡ n = length-map (range_with_len 0 n) f ∙ length-range_with_len 0 n in
    ext_get_or 0 new (map f (range_with_len 0 n)) (omega (arith, are.sized, sized, many))
    (λ k within.
    let below : k < n = omega (arith, within, are.sized, sized) in
    are.raised k below ∙ sym (get_or-map_range f n k 0 below))
