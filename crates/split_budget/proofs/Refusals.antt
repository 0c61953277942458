-- The first answer that refuses, and what it means that there is none.
use Rattle.std.proofs.Common.{◌≡◌, ℕ, ◌+◌, ◌≤◌, Bool, true, false, cond, ℤ, pos, negsuc, unsigned_abs, List, [], ◌∷◌, ◌++◌, map, filter, get_or, All, refl, ap, ◌∙◌, arith}
use Rattle.std.proofs.lemmas.List.{map-append}
use Rattle.std.proofs.lemmas.List.Elements.{All-nil, All-cons, filter-append}
use Rattle.tact_base.proofs.Peers.{All-from_peers}
use Rattle.tact_base.proofs.SharesLemmas.{fit_of-Fits}
use Rattle.tact_base.specs.Setup.{peers_of}
use Rattle.tact_base.specs.Sums.{above_zero, below_zero}
use Rattle.tact_base.specs.declared.fit.Fit.{Fit}
use Rattle.tact_base.specs.declared.fit.Fit.TheVariants.{Fits, TooHeavy, WaitHeld, WaitShare}
use Rattle.split_budget.specs.Budgets.{BudgetState, IsPeer, share, reserved_on, missing_plus, missing_minus}
use Rattle.split_budget.specs.Answers.{refuses, first_refusal, fit_by, answer, missing_on, side_of}

-- an answer refuses, or it fits
pub refuses-other : (fit : Fit) → (fit ≡ Fits → ⊥) → refuses fit ≡ true
refuses-other Fits other = absurd (other refl)
refuses-other (TooHeavy peer weight share) other = refl
refuses-other (WaitHeld peer reserved weight share) other = refl
refuses-other (WaitShare peer missing reserved weight share) other = refl

fits-no_refusal : (fit : Fit) → refuses fit ≡ false → fit ≡ Fits
fits-no_refusal Fits is = refl
fits-no_refusal (TooHeavy peer weight share) is = cc
fits-no_refusal (WaitHeld peer reserved weight share) is = cc
fits-no_refusal (WaitShare peer missing reserved weight share) is = cc

-- Of the answers that a function gives.
module _ (f : ℕ → Fit) where
  abbrev pub refusals : List ℕ → List Fit
  refusals peers = filter refuses (map f peers)

  refusals-append : (xs ys : List ℕ) → refusals (xs ++ ys) ≡ refusals xs ++ refusals ys
  refusals-append xs ys = ap (filter refuses) (map-append f xs ys) ∙ filter-append refuses (map f xs) (map f ys)

  -- one more that doesn't refuse
  pub refusals-more : (xs : List ℕ) (x : ℕ)
      → refusals xs ≡ []
      → f x ≡ Fits
      → refusals (xs ++ x ∷ []) ≡ []
  refusals-more xs x none fits =
      refusals-append xs (x ∷ []) ∙ ap (λ front. front ++ refusals (x ∷ [])) none ∙ ap (λ fit. cond (refuses fit) (fit ∷ []) []) fits

  -- the first one that refuses is the answer
  pub first_refusal-at : (peers xs ys : List ℕ) (x : ℕ)
      → peers ≡ xs ++ x ∷ ys
      → refusals xs ≡ []
      → (f x ≡ Fits → ⊥)
      → first_refusal (map f peers) ≡ f x
  first_refusal-at peers xs ys x split none other =
      ap (λ list. get_or (refusals list) 0 Fits) split
      ∙ ap (λ list. get_or list 0 Fits) (refusals-append xs (x ∷ ys))
      ∙ ap (λ front. get_or (front ++ refusals (x ∷ ys)) 0 Fits) none
      ∙ ap (λ yes. get_or (cond yes (f x ∷ refusals ys) (refusals ys)) 0 Fits) (refuses-other (f x) other)

  -- where the answer is that it fits, each says so
  all_fit : (xs : List ℕ)
      → first_refusal (map f xs) ≡ Fits
      → All (λ x. f x ≡ Fits) xs
  all_fit [] e = All-nil (λ x. f x ≡ Fits)
  all_fit (x ∷ xs) e = go (refuses (f x)) refl e (all_fit xs)
    where
      go : (yes : Bool)
          → refuses (f x) ≡ yes
          → get_or (cond yes (f x ∷ refusals xs) (refusals xs)) 0 Fits ≡ Fits
          → (first_refusal (map f xs) ≡ Fits → All (λ x. f x ≡ Fits) xs)
          → All (λ x. f x ≡ Fits) (x ∷ xs)
      go true is e rest = absurd (fits_refuses (f x) is e)
        where
          fits_refuses : (fit : Fit) → refuses fit ≡ true → fit ≡ Fits → ⊥
          fits_refuses fit is e = cc (ap refuses e)
      go false is e rest = All-cons (λ x. f x ≡ Fits) x xs (fits-no_refusal (f x) is) (rest e)

-- an amount that fits, fits each peer's share
pub answer-Fits : (s : BudgetState) (conit amount : ℕ) (missing : ℕ → ℕ)
    → answer s conit amount missing ≡ Fits
    → (peer : ℕ)
    → IsPeer s peer
    → missing peer + reserved_on s conit + amount ≤ share s peer conit
answer-Fits s conit amount missing e peer (within, other) =
    let f : ℕ → Fit = λ p. fit_by s conit amount p (missing p) in
    let fits = All-from_peers s.setup s.replica (λ p. f p ≡ Fits) (all_fit f (peers_of s.setup s.replica) e) peer within other in
    fit_of-Fits peer (share s peer conit) (reserved_on s conit) (missing peer) amount fits

-- what a peer may miss after a weight that fits is within its share, of either sign
pub fits_sides : (s : BudgetState) (conit peer : ℕ) (nweight : ℤ)
    → missing_on (side_of nweight) s conit peer + reserved_on s conit + unsigned_abs nweight ≤ share s peer conit
    → missing_plus s peer conit + reserved_on s conit ≤ share s peer conit
    → missing_minus s peer conit + reserved_on s conit ≤ share s peer conit
    → (missing_plus s peer conit + above_zero nweight + reserved_on s conit ≤ share s peer conit)
    × (missing_minus s peer conit + below_zero nweight + reserved_on s conit ≤ share s peer conit)
fits_sides s conit peer (pos n) within plus minus = (omega arith, omega arith)
fits_sides s conit peer (negsuc n) within plus minus = (omega arith, omega arith)
