-- What one more entry does to what a peer may miss and to what is known to be lent, and what fits where a request isn't
-- refused.
use Rattle.std.proofs.Common.{◌≡◌, ℕ, ◌+◌, ◌<◌, ◌≤◌, nat_le, Bool, List, [], ◌∷◌, ◌++◌, filter, sum_by, slice_index, All, Option, None, Some, ℤ, pos, negsuc, unsigned_abs, refl, ap, ◌∙◌, subst, arith}
use Rattle.std.specs.List.{slice_get, filter_map, cons_option}
use Rattle.std.proofs.lemmas.Bool.{leb-true, le-leb}
use Rattle.std.proofs.lemmas.List.Elements.{All-nil, All-cons, All-weaker, filter-append}
use Rattle.std.proofs.lemmas.List.Sums.{sum_by-append}
use Rattle.std.proofs.lemmas.Option.{same_Some}
use Rattle.tact_base.proofs.SumsLemmas.{weights_on-append}
use Rattle.tact_base.specs.ConitList.{IsConitList}
use Rattle.tact_base.proofs.SharesLemmas.{fit_of-Fits}
use Rattle.tact_base.specs.Shares.{fit_of}
use Rattle.tact_base.specs.Sums.{above_zero, below_zero, on_conit, weights_on}
use Rattle.tact_base.specs.declared.conit_list.Weight.{Weight}
use Rattle.tact_base.specs.declared.fit.Fit.{Fit}
use Rattle.tact_base.specs.declared.fit.Fit.TheVariants as fit
use Rattle.tact_base.specs.declared.write.Write.{Write}
use Rattle.tact_base.specs.Setup.{Setup, peers_of}
use Rattle.run_model.specs.Taking.{known, told_have}
use Rattle.run_model.specs.Loans.{share, lent_known}
use Rattle.run_model.specs.Missing.{maybe_missed, missing_plus, missing_minus, reserved, granted_on}
use Rattle.run_model.specs.OwnWrites.{own, done_as}
use Rattle.run_model.specs.Replies.{first_some, refused_as, refusal, weight_refusal, missing_of_sign}
use Rattle.run_model.specs.declared.call.Reply.{Reply}
use Rattle.run_model.specs.declared.call.Request.TheVariants as request
use Rattle.run_model.specs.declared.entry.Entry.{Entry}
use Rattle.run_model.specs.declared.entry.Message.{Message}
use Rattle.run_model.proofs.PartLemmas.{accepted_in, own-push}
use Rattle.run_model.proofs.Accepted.{first_some-each}
use Rattle.tact_base.proofs.Peers.{All-from_peers}
use Rattle.run_promises.proofs.LoanSteps.{most_told-rises}
use Rattle.tact_base.proofs.FilterSums.{weights_on-filter-le, weights_on-filter-le_all, once_on_conit}

-- One more entry of a part.
module _ (part : List Entry) (entry : Entry) where
  -- what a peer is known to have doesn't fall, nor what an owner is known to have lent
  pub known-le-push : (peer origin : ℕ)
      → known part peer origin ≤ known (part ++ entry ∷ []) peer origin
  known-le-push peer origin = most_told-rises part entry (λ (message : Message). told_have message origin) peer

  pub lent_known-le-push : (setup : Setup) (replica owner conit : ℕ)
      → lent_known setup replica part owner conit ≤ lent_known setup replica (part ++ entry ∷ []) owner conit
  lent_known-le-push setup replica owner conit = omega (arith, most_told-rises part entry (λ (message : Message). slice_index message.lent conit) owner)

  -- what a peer may miss is at most what it could before, and what is accepted
  pub missing-le-push : (amount : Weight → ℕ) (replica peer conit : ℕ)
      → sum_by amount (weights_on (maybe_missed replica (part ++ entry ∷ []) peer) conit)
      ≤ sum_by amount (weights_on (maybe_missed replica part peer) conit) + sum_by amount (weights_on (cons_option (accepted_in entry) []) conit)
  missing-le-push amount replica peer conit =
      let new = cons_option (accepted_in entry) [] in
      let after = λ (write : Write). nat_le (known (part ++ entry ∷ []) peer replica) write.index in
      let before = λ (write : Write). nat_le (known part peer replica) write.index in
      let total = λ (writes : List Write). sum_by amount (weights_on writes conit) in
      let lists : maybe_missed replica (part ++ entry ∷ []) peer ≡ filter after (own part) ++ filter after new =
      ap (filter after) (own-push part entry) ∙ filter-append after (own part) new in
      let parts : total (maybe_missed replica (part ++ entry ∷ []) peer) ≡ total (filter after (own part)) + total (filter after new) =
      ap total lists ∙ ap (sum_by amount) (weights_on-append (filter after (own part)) (filter after new) conit)
      ∙ sum_by-append amount (weights_on (filter after (own part)) conit) (weights_on (filter after new) conit) in
      let old_less : total (filter after (own part)) ≤ total (filter before (own part)) =
      weights_on-filter-le amount conit after before
      (λ write missed. le-leb _ _ (omega (arith, leb-true _ _ missed, known-le-push peer replica))) (own part) in
      let new_less : total (filter after new) ≤ total new = weights_on-filter-le_all amount conit after new in
      omega (arith, parts, old_less, new_less)

-- where no place gives a reply, none of them does
pub first_some-none : {A : Type 0} (f : A → Option Reply) (items : List A)
    → first_some f items ≡ None
    → All (λ item. f item ≡ None) items
first_some-none f [] none = All-nil (λ item. f item ≡ None)
first_some-none {A} f (item ∷ items) none = go (f item) refl none (first_some-none f items)
  where
    go : (here : Option Reply)
        → f item ≡ here
        → slice_get (cons_option here (filter_map f items)) 0 ≡ None
        → (first_some f items ≡ None → All (λ item. f item ≡ None) items)
        → All (λ item. f item ≡ None) (item ∷ items)
    go None is none rest = All-cons (λ item. f item ≡ None) item items is (rest none)
    go (Some given) is none rest = cc

-- where no refusal is given the amount fits
pub refused_as-none : (conit : ℕ) (answer : Fit)
    → refused_as conit answer ≡ None
    → answer ≡ fit.Fits
refused_as-none conit fit.Fits none = refl
refused_as-none conit (fit.TooHeavy peer weight share) none = cc
refused_as-none conit (fit.WaitHeld peer reserved weight share) none = cc
refused_as-none conit (fit.WaitShare peer missing reserved weight share) none = cc

-- a refusal accepts no write and grants nothing
pub record Refuses (given : Reply) : Type 0 where
  pub accepts : done_as given ≡ None
  pub grants : (conit at amount : ℕ) → granted_on conit (request.Reserve at amount) given ≡ 0

-- so are the replies that say why an amount doesn't fit
refused_as-refuses : (conit : ℕ) (answer : Fit) (given : Reply)
    → refused_as conit answer ≡ Some given
    → Refuses given
refused_as-refuses conit fit.Fits given is = cc
refused_as-refuses conit (fit.TooHeavy peer weight share) given is = subst Refuses (same_Some _ given is) (record { accepts = refl; grants = λ conit at amount. refl })
refused_as-refuses conit (fit.WaitHeld peer reserved weight share) given is = subst Refuses (same_Some _ given is) (record { accepts = refl; grants = λ conit at amount. refl })
refused_as-refuses conit (fit.WaitShare peer missing reserved weight share) given is = subst Refuses (same_Some _ given is) (record { accepts = refl; grants = λ conit at amount. refl })

-- What a replica answers at a part.
module _ (setup : Setup) (replica : ℕ) (part : List Entry) where
  -- an amount that a peer doesn't refuse fits, and what it gets otherwise is a refusal
  refusal_fits : (conit peer amount missing : ℕ)
      → refusal setup replica part conit peer amount missing ≡ None
      → missing + reserved part conit + amount ≤ share setup replica part peer conit
  refusal_fits conit peer amount missing none =
      fit_of-Fits peer (share setup replica part peer conit) (reserved part conit) missing amount
      (refused_as-none conit (fit_of peer (share setup replica part peer conit) (reserved part conit) missing amount) none)

  refusal_refuses : (conit peer amount missing : ℕ) (given : Reply)
      → refusal setup replica part conit peer amount missing ≡ Some given
      → Refuses given
  refusal_refuses conit peer amount missing =
      refused_as-refuses conit (fit_of peer (share setup replica part peer conit) (reserved part conit) missing amount)

  -- the first reply of the peers to an amount, or to the weights of a write, is a refusal
  pub peers_refuse : (conit amount : ℕ) (missing : ℕ → ℕ) (given : Reply)
      → first_some (λ peer. refusal setup replica part conit peer amount (missing peer)) (peers_of setup replica) ≡ Some given
      → Refuses given
  peers_refuse conit amount missing =
      first_some-each (λ peer. refusal setup replica part conit peer amount (missing peer)) Refuses (λ peer. refusal_refuses conit peer amount (missing peer)) (peers_of setup replica)

  pub weights_refuse : (weights : List Weight) (given : Reply)
      → first_some (weight_refusal setup replica part) weights ≡ Some given
      → Refuses given
  weights_refuse =
      first_some-each (weight_refusal setup replica part) Refuses
      (λ weight. peers_refuse weight.conit (unsigned_abs weight.nweight) (λ peer. missing_of_sign replica part peer weight.conit weight.nweight))

  -- What fits the share of a peer's bound.
  module _ (peer : ℕ) (peer_in : peer < setup.replicas) (other : peer ≡ replica → ⊥) where
    -- an amount that no peer refuses fits, with what the peer may miss and what is reserved
    pub amount_fits : (conit amount : ℕ) (missing : ℕ → ℕ)
        → first_some (λ peer. refusal setup replica part conit peer amount (missing peer)) (peers_of setup replica) ≡ None
        → missing peer + reserved part conit + amount ≤ share setup replica part peer conit
    amount_fits conit amount missing none =
        let gets = λ (peer : ℕ). refusal setup replica part conit peer amount (missing peer) in
        refusal_fits conit peer amount (missing peer) (All-from_peers setup replica (λ peer. gets peer ≡ None) (first_some-none gets (peers_of setup replica) none) peer peer_in other)

    -- so does the size of a weight
    weight_fits : (conit : ℕ) (weight : Weight)
        → weight_refusal setup replica part weight ≡ None
        → weight.conit ≡ conit
        → missing_of_sign replica part peer conit weight.nweight + reserved part conit + unsigned_abs weight.nweight ≤ share setup replica part peer conit
    weight_fits conit weight none on =
        subst (λ (conit : ℕ). missing_of_sign replica part peer conit weight.nweight + reserved part conit + unsigned_abs weight.nweight ≤ share setup replica part peer conit) on
        (amount_fits weight.conit (unsigned_abs weight.nweight) (λ peer. missing_of_sign replica part peer weight.conit weight.nweight) none)

    -- of its sign it fits, and of the other sign it adds nothing
    above_zero_fits : (conit : ℕ)
        → missing_plus replica part peer conit + reserved part conit ≤ share setup replica part peer conit
        → (z : ℤ)
        → missing_of_sign replica part peer conit z + reserved part conit + unsigned_abs z ≤ share setup replica part peer conit
        → missing_plus replica part peer conit + above_zero z + reserved part conit ≤ share setup replica part peer conit
    above_zero_fits conit before (pos n) fit = omega (arith, fit)
    above_zero_fits conit before (negsuc n) fit = omega (arith, before)

    below_zero_fits : (conit : ℕ)
        → missing_minus replica part peer conit + reserved part conit ≤ share setup replica part peer conit
        → (z : ℤ)
        → missing_of_sign replica part peer conit z + reserved part conit + unsigned_abs z ≤ share setup replica part peer conit
        → missing_minus replica part peer conit + below_zero z + reserved part conit ≤ share setup replica part peer conit
    below_zero_fits conit before (pos n) fit = omega (arith, before)
    below_zero_fits conit before (negsuc n) fit = omega (arith, fit)

    -- the weights of a write that isn't refused leave what the peer may miss within the share
    module _ (conit : ℕ) (in_limits : Weight → Bool) (weights : List Weight) (good : IsConitList (λ (weight : Weight). weight.conit) in_limits weights)
        (none : first_some (weight_refusal setup replica part) weights ≡ None) where
      weights_fit : (side : ℤ → ℕ) (missing : ℕ)
          → missing + reserved part conit ≤ share setup replica part peer conit
          → ((z : ℤ) → missing_of_sign replica part peer conit z + reserved part conit + unsigned_abs z ≤ share setup replica part peer conit
          → missing + side z + reserved part conit ≤ share setup replica part peer conit)
          → missing + sum_by (λ (weight : Weight). side weight.nweight) (on_conit conit weights) + reserved part conit ≤ share setup replica part peer conit
      weights_fit side missing before fit =
          let Q = λ (n : ℕ). missing + n + reserved part conit ≤ share setup replica part peer conit in
          once_on_conit (λ (weight : Weight). side weight.nweight) conit Q in_limits weights good (omega (arith, before))
          (All-weaker (λ (weight : Weight). weight_refusal setup replica part weight ≡ None) (λ (weight : Weight). weight.conit ≡ conit → Q (side weight.nweight))
          (λ weight none on. fit weight.nweight (weight_fits conit weight none on)) weights (first_some-none (weight_refusal setup replica part) weights none))

      pub missing_plus_fits : missing_plus replica part peer conit + reserved part conit ≤ share setup replica part peer conit
          → missing_plus replica part peer conit + sum_by (λ (weight : Weight). above_zero weight.nweight) (on_conit conit weights) + reserved part conit ≤ share setup replica part peer conit
      missing_plus_fits before = weights_fit above_zero (missing_plus replica part peer conit) before (above_zero_fits conit before)

      pub missing_minus_fits : missing_minus replica part peer conit + reserved part conit ≤ share setup replica part peer conit
          → missing_minus replica part peer conit + sum_by (λ (weight : Weight). below_zero weight.nweight) (on_conit conit weights) + reserved part conit ≤ share setup replica part peer conit
      missing_minus_fits before = weights_fit below_zero (missing_minus replica part peer conit) before (below_zero_fits conit before)
