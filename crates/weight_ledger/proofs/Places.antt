-- Lists of numbers by place.
use Rattle.std.proofs.Common.{◌≡◌, ◌≢◌, ℕ, zero, suc, ◌+◌, ◌-◌, ◌<◌, ◌≤◌, List, [], ◌∷◌, ◌++◌, length, get_or, drop}
use Rattle.std.proofs.Common.{add-one, set, sym, refl, ap, subst, ◌∙◌, arith, All, get_or-set_other, ◌⊎◌, inl, inr}
use Rattle.std.proofs.Common.{⊎_elim}
use Rattle.std.proofs.Math.ListN.{length-set}
use mathlib.Core.Logic.{dite}
use native.Mathlib.Decide.{ℕ_discrete}
use Rattle.weight_ledger.specs.Seen.{TallyView}
use Rattle.weight_ledger.specs.Amounts.{added, lessened, cleared, picked, zeros, alone, all_owned, left_after, gone_after, IsPartOf, IsMoved, IsLeft}

pub get_or-added : (xs ys : List ℕ) (p : ℕ)
    → get_or (added xs ys) p 0 ≡ get_or xs p 0 + get_or ys p 0
get_or-added [] ys p = omega arith
get_or-added (x ∷ xs) [] p = omega arith
get_or-added (x ∷ xs) (y ∷ ys) zero = refl
get_or-added (x ∷ xs) (y ∷ ys) (suc p) = get_or-added xs ys p

pub length-added : (xs ys : List ℕ) → length xs ≡ length ys → length (added xs ys) ≡ length xs
length-added [] ys e = sym e
length-added (x ∷ xs) [] e = refl
length-added (x ∷ xs) (y ∷ ys) e = omega (arith, length-added xs ys (omega arith))

pub get_or-lessened : (xs ys : List ℕ) (p : ℕ)
    → get_or (lessened xs ys) p 0 ≡ get_or xs p 0 - get_or ys p 0
get_or-lessened [] ys p = omega arith
get_or-lessened (x ∷ xs) [] p = omega arith
get_or-lessened (x ∷ xs) (y ∷ ys) zero = refl
get_or-lessened (x ∷ xs) (y ∷ ys) (suc p) = get_or-lessened xs ys p

pub length-lessened : (xs ys : List ℕ) → length (lessened xs ys) ≡ length xs
length-lessened [] ys = refl
length-lessened (x ∷ xs) [] = refl
length-lessened (x ∷ xs) (y ∷ ys) = omega (arith, length-lessened xs ys)

pub lessened_by_none : (xs : List ℕ) → lessened xs [] ≡ xs
lessened_by_none [] = refl
lessened_by_none (x ∷ xs) = refl

pub get_or-zeros : (n p : ℕ) → get_or (zeros n) p 0 ≡ 0
get_or-zeros zero p = refl
get_or-zeros (suc n) zero = refl
get_or-zeros (suc n) (suc p) = get_or-zeros n p

pub zeros_more : (n : ℕ) → zeros n ++ 0 ∷ [] ≡ zeros (suc n)
zeros_more zero = refl
zeros_more (suc n) = ap (λ (l : List ℕ). 0 ∷ l) (zeros_more n)

pub length-zeros : (n : ℕ) → length (zeros n) ≡ n
length-zeros zero = refl
length-zeros (suc n) = omega (arith, length-zeros n)

-- 0 stands where 0 was written, past the end too
pub written_zero : (xs : List ℕ) (p : ℕ) → get_or (set xs p 0) p 0 ≡ 0
written_zero [] p = refl
written_zero (x ∷ xs) zero = refl
written_zero (x ∷ xs) (suc p) = written_zero xs p

-- all but 0 from a list of zeros leaves what was there
lessened_zeros : (xs : List ℕ) (n : ℕ) → lessened xs (zeros n) ≡ xs
lessened_zeros [] n = refl
lessened_zeros (x ∷ xs) zero = refl
lessened_zeros (x ∷ xs) (suc n) = let all : x - 0 ≡ x = omega arith in cc (all, lessened_zeros xs n)

pub lessened_alone : (xs : List ℕ) (n p a : ℕ)
    → length xs ≡ n
    → lessened xs (alone n p a) ≡ set xs p (get_or xs p 0 - a)
lessened_alone [] n p a e = refl
lessened_alone (x ∷ xs) zero p a e = absurd (omega arith)
lessened_alone (x ∷ xs) (suc n) zero a e = ap (λ (l : List ℕ). (x - a) ∷ l) (lessened_zeros xs n)
lessened_alone (x ∷ xs) (suc n) (suc p) a e = let all : x - 0 ≡ x = omega arith in cc (all, lessened_alone xs n p a (omega arith))

-- places that are cleared have 0, and the others what they had
pub cleared_kept : (ps xs : List ℕ) (p : ℕ)
    → All (λ q. q ≢ p) ps
    → get_or (cleared ps xs) p 0 ≡ get_or xs p 0
cleared_kept [] xs p h = refl
cleared_kept (q ∷ ps) xs p h = cleared_kept ps (set xs q 0) p (λ k d lt. h (suc k) d (omega arith)) ∙ get_or-set_other xs q p 0 0 (λ e. h 0 q (omega arith) (sym e))

still : (xs : List ℕ) (q p : ℕ) → get_or xs p 0 ≡ 0 → get_or (set xs q 0) p 0 ≡ 0
still [] q p h = h
still (x ∷ xs) zero zero h = refl
still (x ∷ xs) zero (suc p) h = h
still (x ∷ xs) (suc q) zero h = h
still (x ∷ xs) (suc q) (suc p) h = still xs q p h

cleared_stays : (ps xs : List ℕ) (p : ℕ) → get_or xs p 0 ≡ 0 → get_or (cleared ps xs) p 0 ≡ 0
cleared_stays [] xs p h = h
cleared_stays (q ∷ ps) xs p h = cleared_stays ps (set xs q 0) p (still xs q p h)

pub cleared_none : (ps xs : List ℕ) (k d : ℕ)
    → k < length ps
    → get_or (cleared ps xs) (get_or ps k d) 0 ≡ 0
cleared_none [] xs k d lt = absurd (omega arith)
cleared_none (q ∷ ps) xs zero d lt = cleared_stays ps (set xs q 0) q (written_zero xs q)
cleared_none (q ∷ ps) xs (suc k) d lt = cleared_none ps (set xs q 0) k d (omega arith)

-- a place is among those that are cleared, or it isn't
pub cleared_cases : (ps xs ys : List ℕ) (p : ℕ)
    → ((get_or (cleared ps xs) p 0 ≡ 0) × (get_or (cleared ps ys) p 0 ≡ 0))
    ⊎ ((get_or (cleared ps xs) p 0 ≡ get_or xs p 0) × (get_or (cleared ps ys) p 0 ≡ get_or ys p 0))
cleared_cases [] xs ys p = inr (refl, refl)
cleared_cases (q ∷ ps) xs ys p =
    dite (ℕ_discrete p q)
    (λ e. inl (
      cleared_stays ps (set xs q 0) p (subst (λ k. get_or (set xs q 0) k 0 ≡ 0) (sym e) (written_zero xs q)),
      cleared_stays ps (set ys q 0) p (subst (λ k. get_or (set ys q 0) k 0 ≡ 0) (sym e) (written_zero ys q)),
    ))
    (λ ne. ⊎_elim (λ h. inl h)
    (λ h. inr (h.0 ∙ get_or-set_other xs q p 0 0 ne, h.1 ∙ get_or-set_other ys q p 0 0 ne))
    (cleared_cases ps (set xs q 0) (set ys q 0) p))

-- an amount alone at its place
pub alone_here : (xs : List ℕ) (p a : ℕ)
    → a ≤ get_or xs p 0
    → get_or (alone (length xs) p a) p 0 ≡ a
alone_here [] p a h = omega arith
alone_here (x ∷ xs) zero a h = refl
alone_here (x ∷ xs) (suc p) a h = alone_here xs p a h

pub alone_else : (n p q a : ℕ) → q ≢ p → get_or (alone n p a) q 0 ≡ 0
alone_else n p q a ne = get_or-set_other (zeros n) p q a 0 ne ∙ get_or-zeros n q

pub length-alone : (xs : List ℕ) (p a : ℕ) → length (alone (length xs) p a) ≡ length xs
length-alone xs p a = length-set (zeros (length xs)) p a ∙ length-zeros (length xs)

-- the amount of a shared place is a part of a tally
pub part_alone : (t : TallyView) (shared p a : ℕ) → p < shared → a ≤ get_or t.amounts p 0
    → IsPartOf shared t (alone (length t.amounts) p a) []
part_alone t shared p a lt le = record {
  size = length-alone t.amounts p a;
  some = λ q. dite (ℕ_discrete q p)
      (λ e. subst (λ k. get_or (alone (length t.amounts) p a) k 0 ≤ get_or t.amounts k 0) (sym e) (omega (arith, alone_here t.amounts p a le, le)))
      (λ ne. omega (arith, alone_else (length t.amounts) p q a ne));
  owned = λ q. omega arith;
  whole = λ q h. absurd (h refl);
  kept = λ q far _ _. alone_else (length t.amounts) p q a (λ e. omega (arith, e, far, lt));
}

-- so is all that a tally has at places that it owns
pub part_picked : (t : TallyView) (shared : ℕ) (ps : List ℕ)
    → IsPartOf shared t (picked ps t.amounts) (picked ps t.owns)
part_picked t shared ps =
    let ca = λ (q : ℕ). get_or-lessened t.amounts (cleared ps t.amounts) q in
    let co = λ (q : ℕ). get_or-lessened t.owns (cleared ps t.owns) q in
    record {
      size = length-lessened t.amounts (cleared ps t.amounts);
      some = λ q. omega (arith, ca q);
      owned = λ q. omega (arith, co q);
      whole = λ q h. ⊎_elim (λ e. omega (arith, ca q, e.0)) (λ e. absurd (h (omega (arith, co q, e.1)))) (cleared_cases ps t.amounts t.owns q);
      kept = λ q _ h _. ⊎_elim (λ e. absurd (h (omega (arith, co q, e.1)))) (λ e. omega (arith, ca q, e.0)) (cleared_cases ps t.amounts t.owns q);
    }

lessened_twice : (xs ys : List ℕ)
    → length ys ≡ length xs
    → ((p : ℕ) → get_or ys p 0 ≤ get_or xs p 0)
    → lessened xs (lessened xs ys) ≡ ys
lessened_twice [] [] e le = refl
lessened_twice [] (y ∷ ys) e le = absurd (omega arith)
lessened_twice (x ∷ xs) [] e le = absurd (omega arith)
lessened_twice (x ∷ xs) (y ∷ ys) e le =
    let head : x - (x - y) ≡ y = omega (arith, le 0) in
    cc (head, lessened_twice xs ys (omega arith) (λ p. le (suc p)))

length-cleared : (ps xs : List ℕ) → length (cleared ps xs) ≡ length xs
length-cleared [] xs = refl
length-cleared (p ∷ ps) xs = length-cleared ps (set xs p 0) ∙ length-set xs p 0

-- what is left where some places are picked
pub lessened_picked : (ps xs : List ℕ) → lessened xs (picked ps xs) ≡ cleared ps xs
lessened_picked ps xs = lessened_twice xs (cleared ps xs) (length-cleared ps xs)
    (λ p. ⊎_elim (λ h. omega (arith, h.0)) (λ h. omega (arith, h.0)) (cleared_cases ps xs xs p))

-- what a cut of such places says, place by place
pub all_moved : (t : TallyView) (ps : List ℕ)
    → All (IsMoved t (left_after t ps) (gone_after t ps)) ps
all_moved t ps =
    let f : (p : ℕ) → get_or (cleared ps t.amounts) p 0 ≡ 0 → get_or (cleared ps t.owns) p 0 ≡ 0 → IsMoved t (left_after t ps) (gone_after t ps) p
    = λ p a o. record {
      none = a;
      all = omega (arith, get_or-lessened t.amounts (cleared ps t.amounts) p, a);
      lost = o;
      got = omega (arith, get_or-lessened t.owns (cleared ps t.owns) p, o);
    } in
    λ k d lt. f (get_or ps k d) (cleared_none ps t.amounts k d lt) (cleared_none ps t.owns k d lt)

pub others_left : (t : TallyView) (ps : List ℕ) (p : ℕ)
    → All (λ q. q ≢ p) ps
    → IsLeft t (left_after t ps) (gone_after t ps) p
others_left t ps p h = record {
  all = cleared_kept ps t.amounts p h;
  none = omega (arith, get_or-lessened t.amounts (cleared ps t.amounts) p, cleared_kept ps t.amounts p h);
  kept = cleared_kept ps t.owns p h;
  free = omega (arith, get_or-lessened t.owns (cleared ps t.owns) p, cleared_kept ps t.owns p h);
}

-- the numbers of the first tally
pub drop_zeros : (n : ℕ) → drop 1 (zeros (n + 1)) ≡ zeros n
drop_zeros n = rw add-one refl

pub owned_once : (shared owned p : ℕ) → get_or (all_owned shared owned) p 0 ≤ 1
owned_once zero zero p = omega arith
owned_once zero (suc owned) zero = omega arith
owned_once zero (suc owned) (suc p) = owned_once zero owned p
owned_once (suc shared) owned zero = omega arith
owned_once (suc shared) owned (suc p) = owned_once shared owned p

pub shared_free : (shared owned p : ℕ) → p < shared → get_or (all_owned shared owned) p 0 ≡ 0
shared_free zero owned p lt = absurd (omega arith)
shared_free (suc shared) owned zero lt = refl
shared_free (suc shared) owned (suc p) lt = shared_free shared owned p (omega arith)

-- what is left where an amount was taken
pub written : (xs : List ℕ) (p a : ℕ)
    → a ≤ get_or xs p 0
    → get_or (set xs p (get_or xs p 0 - a)) p 0 + a ≡ get_or xs p 0
written [] p a h = omega arith
written (x ∷ xs) zero a h = omega arith
written (x ∷ xs) (suc p) a h = written xs p a h
