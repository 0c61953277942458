-- What the budgets of a replica refuse is what the definitions refuse of each part that they stand for.
use Rattle.std.proofs.Common.{◌≡◌, ℕ, ◌<◌, ℤ, pos, negsuc, unsigned_abs, List, [], ◌∷◌, map, filter, cond, All, None, get_or, slice_index_or, refl, ap, ap₂, ◌∙◌}
use Rattle.std.specs.List.{slice_get, filter_map, cons_option}
use Rattle.std.proofs.lemmas.List.Elements.{All-weaker}
use Rattle.tact_base.proofs.Peers.{All-peers}
use Rattle.tact_base.specs.Setup.{Setup, peers_of}
use Rattle.tact_base.specs.Shares.{fit_of}
use Rattle.tact_base.specs.declared.conit_list.Weight.{Weight}
use Rattle.tact_base.specs.declared.fit.Fit.{Fit}
use Rattle.tact_base.specs.declared.fit.Fit.TheVariants as fit
use Rattle.split_budget.specs.Answers.{refuses, first_refusal, fit_by, answer, missing_on, side_of, weight_answer}
use Rattle.split_budget.specs.Budgets as kept_budgets
use Rattle.split_budget.specs.Budgets.{BudgetState}
use Rattle.run_model.specs.Loans.{share}
use Rattle.run_model.specs.Missing.{greater_missing, reserved}
use Rattle.run_model.specs.Replies.{first_some, refused_as, refusal, missing_of_sign, weight_refusal}
use Rattle.run_model.specs.declared.entry.Entry.{Entry}
use Rattle.run_model.proofs.Sound.{IsNumbered}
use Rattle.run_promises.proofs.FirstReplies.{first_some-agree}
use Rattle.run_promises.proofs.SharesWrites.{first_some-none, refused_as-none}
use Rattle.replica_core.specs.Calling.{refusal_of, reserve_refusal}
use Rattle.replica_core.specs.Stands.{BudgetsStand}
use Rattle.replica_core.proofs.BudgetViews.{share-part, missing_plus-part, missing_minus-part, greater_missing-part}

-- the first answer that refuses, as a reply, is the first of the replies
refused_as-first : (conit : ℕ) (f : ℕ → Fit) (peers : List ℕ)
    → refused_as conit (first_refusal (map f peers)) ≡ first_some (λ peer. refused_as conit (f peer)) peers
refused_as-first conit f [] = refl
refused_as-first conit f (peer ∷ peers) = go (f peer) (refused_as-first conit f peers)
  where
    go : (here : Fit)
        → refused_as conit (first_refusal (map f peers)) ≡ first_some (λ peer. refused_as conit (f peer)) peers
        → refused_as conit (slice_index_or (cond (refuses here) (here ∷ filter refuses (map f peers)) (filter refuses (map f peers))) 0 fit.Fits)
        ≡ slice_get (cons_option (refused_as conit here) (filter_map (λ peer. refused_as conit (f peer)) peers)) 0
    go fit.Fits rest = rest
    go (fit.TooHeavy peer weight share) rest = refl
    go (fit.WaitHeld peer reserved weight share) rest = refl
    go (fit.WaitShare peer missing reserved weight share) rest = refl

-- where no weight is refused, all fit
pub all_fit : (budgets : BudgetState) (weights : List Weight)
    → first_some (refusal_of budgets) weights ≡ None
    → All (λ (weight : Weight). weight_answer budgets weight ≡ fit.Fits) weights
all_fit budgets weights none =
    All-weaker (λ (weight : Weight). refusal_of budgets weight ≡ None) (λ (weight : Weight). weight_answer budgets weight ≡ fit.Fits)
    (λ weight none. refused_as-none weight.conit (weight_answer budgets weight) none) weights (first_some-none (refusal_of budgets) weights none)

module _ (setup : Setup) (replica : ℕ) (part : List Entry) (budgets : BudgetState) (stand : BudgetsStand setup replica part budgets) (is_setup : budgets.setup ≡ setup)
    (is_replica : budgets.replica ≡ replica) (numbered : IsNumbered replica part) where
  -- An amount on a conit, where each peer may miss so much beside it.
  amount_refusal : (conit amount : ℕ) (kept defined : ℕ → ℕ)
      → conit < setup.conits
      → ((peer : ℕ) → peer < setup.replicas → (peer ≡ replica → ⊥) → kept peer ≡ defined peer)
      → refused_as conit (answer budgets conit amount kept) ≡ first_some (λ peer. refusal setup replica part conit peer amount (defined peer)) (peers_of setup replica)
  amount_refusal conit amount kept defined within same =
      let one = λ (peer : ℕ). refused_as conit (fit_by budgets conit amount peer (kept peer)) in
      let other = λ (peer : ℕ). refusal setup replica part conit peer amount (defined peer) in
      refused_as-first conit (λ peer. fit_by budgets conit amount peer (kept peer)) (peers_of budgets.setup budgets.replica)
      ∙ ap₂ (λ (s : Setup) (r : ℕ). first_some one (peers_of s r)) is_setup is_replica
      ∙ first_some-agree one other (peers_of setup replica)
      (All-peers setup replica (λ peer. one peer ≡ other peer)
      (λ peer peer_in differs.
      ap (λ (share : ℕ). refused_as conit (fit_of peer share (get_or budgets.reserved conit 0) (kept peer) amount))
      (share-part setup replica part budgets stand is_setup is_replica peer conit peer_in differs within)
      ∙ ap₂ (λ (held missing : ℕ). refused_as conit (fit_of peer (share setup replica part peer conit) held missing amount)) (stand.reserved conit within) (same peer peer_in differs)))

  -- a weight, by its sign
  weight_refusal-part : (weight : Weight)
      → weight.conit < setup.conits
      → refusal_of budgets weight ≡ weight_refusal setup replica part weight
  weight_refusal-part weight within =
      amount_refusal weight.conit (unsigned_abs weight.nweight) (missing_on (side_of weight.nweight) budgets weight.conit)
      (λ peer. missing_of_sign replica part peer weight.conit weight.nweight) within
      (λ peer peer_in differs. by_sign weight.nweight peer peer_in differs)
    where
      by_sign : (nweight : ℤ) (peer : ℕ)
          → peer < setup.replicas
          → (peer ≡ replica → ⊥)
          → missing_on (side_of nweight) budgets weight.conit peer ≡ missing_of_sign replica part peer weight.conit nweight
      by_sign (pos n) peer peer_in differs = missing_plus-part setup replica part budgets stand is_setup is_replica peer weight.conit peer_in differs numbered
      by_sign (negsuc n) peer peer_in differs = missing_minus-part setup replica part budgets stand is_setup is_replica peer weight.conit peer_in differs numbered

  -- the weights of a write, as listed
  pub weights_refusal-part : (weights : List Weight)
      → All (λ (weight : Weight). weight.conit < setup.conits) weights
      → first_some (refusal_of budgets) weights ≡ first_some (weight_refusal setup replica part) weights
  weights_refusal-part weights within =
      first_some-agree (refusal_of budgets) (weight_refusal setup replica part) weights
      (All-weaker (λ (weight : Weight). weight.conit < setup.conits) (λ (weight : Weight). refusal_of budgets weight ≡ weight_refusal setup replica part weight)
      weight_refusal-part weights within)

  -- an amount to be reserved
  pub reserve_refusal-part : (conit amount : ℕ)
      → conit < setup.conits
      → reserve_refusal budgets conit amount
      ≡ first_some (λ peer. refusal setup replica part conit peer amount (greater_missing replica part peer conit)) (peers_of setup replica)
  reserve_refusal-part conit amount within =
      amount_refusal conit amount (λ peer. kept_budgets.greater_missing budgets peer conit) (λ peer. greater_missing replica part peer conit) within
      (λ peer peer_in differs. greater_missing-part setup replica part budgets stand is_setup is_replica peer conit peer_in differs numbered)
