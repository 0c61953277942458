-- What the budgets keep as writes are added that fit, or that take their weight out of what is reserved.
use Rattle.std.proofs.Common.{◌≡◌, ◌==◌, ℕ, ◌+◌, ◌-◌, ◌^◌, ◌<◌, ◌≤◌, true, false, cond, ℤ, unsigned_abs, List, [], ◌∷◌, ◌++◌, length, get_or, set, All, refl, sym, ap, subst, ⊎_elim, arith}
use Rattle.std.proofs.lemmas.Bool.{ne_eqb, eq-eqb}
use Rattle.std.proofs.lemmas.List.{length-set}
use Rattle.std.proofs.lemmas.List.Elements.{All-weaker}
use Rattle.tact_base.proofs.ConitListLemmas.{IsWeights, weight_in_limits}
use Rattle.tact_base.proofs.FilterSums.{above_zero-le, below_zero-le, one_or_none-le, once_on_conit}
use Rattle.tact_base.specs.Sums.{above_zero, below_zero}
use Rattle.tact_base.specs.declared.conit_list.Weight.{Weight}
use Rattle.tact_base.specs.declared.fit.Fit.TheVariants.{Fits}
use Rattle.split_budget.specs.Budgets.{BudgetState, IsPeer, reserved_on, share, part_sum, missing_plus, missing_minus}
use Rattle.split_budget.specs.Answers.{weight_answer, missing_on, side_of}
use Rattle.split_budget.specs.Kept.{KeepsBudgets}
use Rattle.split_budget.proofs.AmountsKept.{share-fits}
use Rattle.split_budget.proofs.KeptLemmas.{KeepsBudgets-changed}
use Rattle.split_budget.proofs.Places.{get_or-set_cases}
use Rattle.split_budget.proofs.Parts.{part_on-push}
use Rattle.split_budget.proofs.Refusals.{answer-Fits, fits_sides}

-- A write is added, with what is reserved afterwards: it is kept where all that a peer may miss then is within its
-- share.
module _ (s : BudgetState) (keeps : KeepsBudgets s) (weights : List Weight) (reserved : List ℕ) (room : ℕ) where
  abbrev with_write : BudgetState
  with_write = record s { weights = s.weights ++ weights ∷ []; reserved = reserved; room = room }

  pub KeepsBudgets-with_write : length reserved ≡ length s.reserved
      → ((peer conit : ℕ) → IsPeer s peer → conit < s.setup.conits
      → (missing_plus s peer conit + part_sum above_zero conit weights + get_or reserved conit 0 ≤ share s peer conit)
      × (missing_minus s peer conit + part_sum below_zero conit weights + get_or reserved conit 0 ≤ share s peer conit))
      → KeepsBudgets with_write
  KeepsBudgets-with_write long within =
      KeepsBudgets-changed s keeps (s.weights ++ weights ∷ []) reserved s.lent s.returned s.returned_known room long refl refl refl
      (λ peer conit is k.
      let kept = keeps.peers peer conit is k in
      record {
        plus = omega (arith, (within peer conit is k).0, part_on-push above_zero conit (get_or s.known peer 0 - s.given_up) s.weights weights);
        minus = omega (arith, (within peer conit is k).1, part_on-push below_zero conit (get_or s.known peer 0 - s.given_up) s.weights weights);
        returned = kept.returned;
        returned_known = kept.returned_known;
        lent = kept.lent;
      })
      keeps.home

-- A write each weight of which fits.
module _ (s : BudgetState) (keeps : KeepsBudgets s) (weights : List Weight) (room : ℕ) (good : IsWeights weights) (fits : All (λ weight. weight_answer s weight ≡ Fits) weights) where
  -- what one of its weights adds on its conit is within the share, of either sign
  weight-within : (peer conit : ℕ)
      → IsPeer s peer
      → conit < s.setup.conits
      → (weight : Weight)
      → weight_answer s weight ≡ Fits
      → weight.conit ≡ conit
      → (missing_plus s peer conit + above_zero weight.nweight + reserved_on s conit ≤ share s peer conit)
      × (missing_minus s peer conit + below_zero weight.nweight + reserved_on s conit ≤ share s peer conit)
  weight-within peer conit is k weight answered same =
      let kept = keeps.peers peer conit is k in
      let at_its_conit = answer-Fits s weight.conit (unsigned_abs weight.nweight) (missing_on (side_of weight.nweight) s weight.conit) answered peer is in
      let within = subst (λ at. missing_on (side_of weight.nweight) s at peer + reserved_on s at + unsigned_abs weight.nweight ≤ share s peer at) same at_its_conit in
      fits_sides s conit peer weight.nweight within kept.plus kept.minus

  -- at most one of them is on a conit
  added-within : (peer conit : ℕ)
      → IsPeer s peer
      → conit < s.setup.conits
      → (missing_plus s peer conit + part_sum above_zero conit weights + reserved_on s conit ≤ share s peer conit)
      × (missing_minus s peer conit + part_sum below_zero conit weights + reserved_on s conit ≤ share s peer conit)
  added-within peer conit is k =
      let kept = keeps.peers peer conit is k in (
        once_on_conit (λ weight. above_zero weight.nweight) conit (λ more. missing_plus s peer conit + more + reserved_on s conit ≤ share s peer conit) weight_in_limits weights good
            (omega (arith, kept.plus))
            (All-weaker (λ weight. weight_answer s weight ≡ Fits) (λ weight. weight.conit ≡ conit → missing_plus s peer conit + above_zero weight.nweight + reserved_on s conit ≤ share s peer conit)
            (λ weight answered same. (weight-within peer conit is k weight answered same).0) weights fits),
        once_on_conit (λ weight. below_zero weight.nweight) conit (λ more. missing_minus s peer conit + more + reserved_on s conit ≤ share s peer conit) weight_in_limits weights good
            (omega (arith, kept.minus))
            (All-weaker (λ weight. weight_answer s weight ≡ Fits) (λ weight. weight.conit ≡ conit → missing_minus s peer conit + below_zero weight.nweight + reserved_on s conit ≤ share s peer conit)
            (λ weight answered same. (weight-within peer conit is k weight answered same).1) weights fits),
      )

  -- so it fits in 64 bits
  pub added-fits : (peer conit : ℕ)
      → IsPeer s peer
      → conit < s.setup.conits
      → (missing_plus s peer conit + part_sum above_zero conit weights < 2 ^ 64)
      × (missing_minus s peer conit + part_sum below_zero conit weights < 2 ^ 64)
  added-fits peer conit is k =
      let within = added-within peer conit is k in
      let fits = share-fits s keeps peer conit is k in
      (omega (arith, within.0, fits), omega (arith, within.1, fits))

  pub KeepsBudgets-added : KeepsBudgets (record s { weights = s.weights ++ weights ∷ []; room = room })
  KeepsBudgets-added = KeepsBudgets-with_write s keeps weights s.reserved room refl added-within

-- A write of one weight, whose size is taken out of what is reserved.
module _ (s : BudgetState) (keeps : KeepsBudgets s) (weight : Weight) (room : ℕ) (conit_in : weight.conit < s.setup.conits) (is_held : unsigned_abs weight.nweight ≤ reserved_on s weight.conit) where
  abbrev left : List ℕ
  left = set s.reserved weight.conit (reserved_on s weight.conit - unsigned_abs weight.nweight)

  -- what the weight adds there is at most what is taken out
  part-left : (part : ℤ → ℕ)
      → ((z : ℤ) → part z ≤ unsigned_abs z)
      → (conit : ℕ)
      → part_sum part conit (weight ∷ []) + get_or left conit 0 ≤ reserved_on s conit
  part-left part small conit =
      let most = one_or_none-le part small weight (weight.conit == conit) in
      ⊎_elim (λ (here : (conit ≡ weight.conit) × (get_or left conit 0 ≡ reserved_on s weight.conit - unsigned_abs weight.nweight)).
      let on : (weight.conit == conit) ≡ true = eq-eqb weight.conit conit (sym here.0) in
      let before : reserved_on s conit ≡ reserved_on s weight.conit = ap (reserved_on s) here.0 in
      let size : cond (weight.conit == conit) (unsigned_abs weight.nweight) 0 ≡ unsigned_abs weight.nweight = ap (λ yes. cond yes (unsigned_abs weight.nweight) 0) on in
      omega (arith, most, size, before, here.1, is_held))
      (λ (there : (conit ≡ weight.conit → ⊥) × (get_or left conit 0 ≡ reserved_on s conit)).
      let off : (weight.conit == conit) ≡ false = ne_eqb weight.conit conit (λ same. there.0 (sym same)) in
      let size : cond (weight.conit == conit) (unsigned_abs weight.nweight) 0 ≡ 0 = ap (λ yes. cond yes (unsigned_abs weight.nweight) 0) off in
      omega (arith, most, size, there.1))
      (get_or-set_cases s.reserved weight.conit (reserved_on s weight.conit - unsigned_abs weight.nweight) conit (rw keeps.reserved conit_in))

  -- so what a peer may miss then fits in 64 bits
  pub spent-fits : (peer conit : ℕ)
      → IsPeer s peer
      → conit < s.setup.conits
      → (missing_plus s peer conit + part_sum above_zero conit (weight ∷ []) < 2 ^ 64)
      × (missing_minus s peer conit + part_sum below_zero conit (weight ∷ []) < 2 ^ 64)
  spent-fits peer conit is k =
      let kept = keeps.peers peer conit is k in
      let fits = share-fits s keeps peer conit is k in
      (omega (arith, kept.plus, part-left above_zero above_zero-le conit, fits), omega (arith, kept.minus, part-left below_zero below_zero-le conit, fits))

  pub KeepsBudgets-spent : KeepsBudgets (record s { weights = s.weights ++ (weight ∷ []) ∷ []; reserved = left; room = room })
  KeepsBudgets-spent =
      KeepsBudgets-with_write s keeps (weight ∷ []) left room
      (length-set s.reserved weight.conit (reserved_on s weight.conit - unsigned_abs weight.nweight))
      (λ peer conit is k.
      let kept = keeps.peers peer conit is k in
      (omega (arith, kept.plus, part-left above_zero above_zero-le conit), omega (arith, kept.minus, part-left below_zero below_zero-le conit)))
