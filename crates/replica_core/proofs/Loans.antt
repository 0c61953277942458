-- A replica lends of its bound and gives back of its share: it stands for its part with that entry.
use Rattle.std.proofs.Common.{◌≡◌, ◌≢◌, ℕ, ◌+◌, ◌*◌, ◌<◌, ◌≤◌, ◌==◌, ◌&&◌, false, cond, List, [], None, ◌∷◌, ◌++◌, length, get_or, set, refl, sym, ap, ap₂, ◌∙◌, subst, ⊎_elim, arith}
use Rattle.std.proofs.lemmas.Bool.{cases_eq, eq-eqb, ne_eqb}
use Rattle.tact_base.proofs.SetupLemmas.{place_in}
use Rattle.tact_base.specs.Setup.{Setup, place_of}
use Rattle.tact_base.specs.declared.limits.TheConstants.{AMOUNT_MAX, MOMENT_MAX}
use Rattle.run_model.specs.Histories.{sent_by_act, is_call_of}
use Rattle.run_model.specs.Loans.{lent, returned}
use Rattle.run_model.specs.declared.entry.Act.{Act}
use Rattle.run_model.specs.declared.entry.Act.TheVariants as act
use Rattle.run_model.specs.declared.entry.Entry.{Entry}
use Rattle.run_model.proofs.PartLemmas.{sent_in-push_none, calls_in-push}
use Rattle.run_promises.proofs.LoanSteps.{lent-push, returned-push}
use Rattle.run_promises.proofs.PartSound.{PartSound-part}
use Rattle.split_budget.specs.Budgets.{BudgetState, lent_to, returned_to, home, free}
use Rattle.split_budget.proofs.Places.{place_of-replica, place_of-conit, get_or-set_cases}
use Rattle.replica_core.specs.States.{Core, HasPlaces, HasBudgets, is_full, entered}
use Rattle.replica_core.specs.Stands.{Stands, AreByPeer}
use Rattle.replica_core.specs.BudgetReaders.{GivesPart}
use Rattle.replica_core.specs.Lending.{IsHome, IsFree, with_lent, with_returned}
use Rattle.replica_core.proofs.BudgetViews.{share-part, missing_plus-part, missing_minus-part, out-part, home-part, free-part}
use Rattle.replica_core.proofs.DueEntries.{entry_of, is_due}
use Rattle.replica_core.proofs.QuietEntries.{weights-same, reserved-same, lent-same, returned-same, BudgetsStand-further}
use Rattle.replica_core.proofs.StandsAfterBudgets.{Stands-budgeted}
use Rattle.replica_core.proofs.StandsAfterEntry.{AreCountsReady}

-- Of numbers by replica and then conit, that of one on a conit is raised.
module _ (setup : Setup) (numbers : List ℕ) (one at amount : ℕ) (sized : length numbers ≡ setup.replicas * setup.conits) (one_in : one < setup.replicas) (at_in : at < setup.conits) where
  abbrev here : ℕ
  here = place_of setup one at

  abbrev raised : List ℕ
  raised = set numbers here (get_or numbers here 0 + amount)

  elsewhere : (peer conit : ℕ)
      → (place_of setup peer conit ≡ here → ⊥)
      → (one == peer && at == conit) ≡ false
  elsewhere peer conit other = ⊎_elim
      (λ (same : one ≡ peer).
      rw (eq-eqb one peer same) (ne_eqb at conit (λ (alike : at ≡ conit). other (ap₂ (place_of setup) (sym same) (sym alike)))))
      (λ (differ : one ≡ peer → ⊥). rw (ne_eqb one peer differ) refl)
      (cases_eq one peer)

  pub raised-at : (peer conit : ℕ)
      → conit < setup.conits
      → get_or raised (place_of setup peer conit) 0 ≡ get_or numbers (place_of setup peer conit) 0 + cond (one == peer && at == conit) amount 0
  raised-at peer conit conit_in = ⊎_elim
      (λ (same : (place_of setup peer conit ≡ here) × (get_or raised (place_of setup peer conit) 0 ≡ get_or numbers here 0 + amount)).
      let on_peer = eq-eqb one peer (sym (place_of-replica setup peer conit one at conit_in at_in same.0)) in
      let on_conit = eq-eqb at conit (sym (place_of-conit setup peer conit one at conit_in at_in same.0)) in
      rw (on_peer, on_conit) (omega (arith, same.1, ap (λ place. get_or numbers place 0) same.0)))
      (λ (other : (place_of setup peer conit ≡ here → ⊥) × (get_or raised (place_of setup peer conit) 0 ≡ get_or numbers (place_of setup peer conit) 0)).
      rw (elsewhere peer conit other.0) (omega (arith, other.1)))
      (get_or-set_cases numbers here (get_or numbers here 0 + amount) (place_of setup peer conit) (rw sized (place_in setup one at one_in at_in)))

-- what budgets tell to be at home, and to be free, is so after each part
pub IsHome-told : (core : Core) (conit number : ℕ)
    → HasBudgets core
    → conit < core.setup.conits
    → number ≡ home core.budgets conit
    → IsHome core conit number
IsHome-told core conit number own conit_in told =
    (told, λ part stands. told ∙ home-part core.setup core.replica part core.budgets stands.budgets own.setup own.replica conit conit_in)

pub IsFree-told : (core : Core) (owner conit number : ℕ)
    → HasBudgets core
    → owner < core.setup.replicas
    → owner ≢ core.replica
    → conit < core.setup.conits
    → number ≡ free core.budgets owner conit
    → IsFree core owner conit number
IsFree-told core owner conit number own owner_in other conit_in told = (
  told,
  λ part stands.
      told
      ∙ free-part core.setup core.replica part core.budgets stands.budgets own.setup own.replica owner conit owner_in other
      (PartSound-part core.setup core.replica part stands.is_part).in_order conit_in,
)

-- and so is all that they give
pub GivesPart_told : (core : Core) (shown : BudgetState) (part : List Entry)
    → HasBudgets core
    → core.budgets ≡ record shown { room = 0 }
    → Stands part core
    → GivesPart core.setup core.replica part shown
GivesPart_told core shown part own is stands =
    let numbered = (PartSound-part core.setup core.replica part stands.is_part).in_order in
    let kept : GivesPart core.setup core.replica part core.budgets = record {
      share = share-part core.setup core.replica part core.budgets stands.budgets own.setup own.replica;
      plus = λ peer conit peer_in other within. missing_plus-part core.setup core.replica part core.budgets stands.budgets own.setup own.replica peer conit peer_in other numbered;
      minus = λ peer conit peer_in other within. missing_minus-part core.setup core.replica part core.budgets stands.budgets own.setup own.replica peer conit peer_in other numbered;
      out = out-part core.setup core.replica part core.budgets stands.budgets own.setup own.replica;
      free = λ peer conit peer_in other. free-part core.setup core.replica part core.budgets stands.budgets own.setup own.replica peer conit peer_in other numbered;
      reserved = stands.budgets.reserved;
      home = home-part core.setup core.replica part core.budgets stands.budgets own.setup own.replica;
    } in
    let as_shown : GivesPart core.setup core.replica part (record shown { room = 0 }) = subst (GivesPart core.setup core.replica part) is kept in
    record {
      share = as_shown.share;
      plus = as_shown.plus;
      minus = as_shown.minus;
      out = as_shown.out;
      free = as_shown.free;
      reserved = as_shown.reserved;
      home = as_shown.home;
    }

module _ (part : List Entry) (core : Core) (stands : Stands part core) (not_full : is_full core ≡ false) (places : HasPlaces core) (own : HasBudgets core) (handed : ℕ)
    (handed_in : handed ≤ MOMENT_MAX)
    (peer conit amount : ℕ) (peer_in : peer < core.setup.replicas) (other : peer ≢ core.replica) (conit_in : conit < core.setup.conits) (amount_in : amount ≤ AMOUNT_MAX) where
  abbrev kept : BudgetState
  kept = core.budgets

  counts_same : (done : Act)
      → sent_by_act done ≡ None
      → ((client : ℕ) → is_call_of client done ≡ false)
      → AreCountsReady part (entry_of core.replica part handed done) core.counts
  counts_same done sends calls =
      let entry = entry_of core.replica part handed done in
      record {
        calls = λ client within. stands.counts.calls client within ∙ sym (calls_in-push part entry client ∙ rw (calls client) (omega arith));
        sends = stands.counts.sends ∙ sym (ap length (sent_in-push_none part entry sends));
        count = stands.counts.count;
        last = stands.counts.last;
      }

  pub Stands-lent : amount ≤ home core.budgets conit
      → length core.budgets.lent ≡ core.setup.replicas * core.setup.conits
      → Stands (part ++ entry_of core.replica part handed (act.Lend peer conit amount) ∷ []) (entered (with_lent core peer conit amount) handed)
  Stands-lent at_home sized =
      let done = act.Lend peer conit amount in
      let entry = entry_of core.replica part handed done in
      let after = (with_lent core peer conit amount).budgets in
      let is_home = (IsHome-told core conit (home kept conit) own conit_in refl).1 part stands in
      let lends : AreByPeer core.setup core.replica (lent_to after) (lent core.setup core.replica (part ++ entry ∷ [])) =
      λ one at one_in apart at_in.
      raised-at kept.setup kept.lent peer conit amount (rw own.setup sized) (rw own.setup peer_in) (rw own.setup conit_in) one at (rw own.setup at_in)
      ∙ ap (λ (before : ℕ). before + cond (peer == one && conit == at) amount 0) (stands.budgets.lent one at one_in apart at_in)
      ∙ sym (lent-push part entry core.setup core.replica one at) in
      Stands-budgeted part core stands not_full places handed handed_in done after core.counts
      (is_due part core stands not_full places.among handed handed_in done (peer_in, other, conit_in, amount_in) (omega (arith, at_home, is_home)))
      tt refl refl
      (BudgetsStand-further core.setup core.replica part entry kept stands.budgets refl kept.weights kept.reserved after.lent kept.returned
      (weights-same core.setup core.replica part entry kept stands.budgets refl refl)
      (reserved-same core.setup core.replica part entry kept stands.budgets refl (λ one. refl) (λ one. refl))
      lends
      (returned-same core.setup core.replica part entry kept stands.budgets refl (λ one at. refl)))
      places.calls_sized (counts_same done refl (λ client. refl))

  pub Stands-returned : amount ≤ free core.budgets peer conit
      → length core.budgets.returned ≡ core.setup.replicas * core.setup.conits
      → Stands (part ++ entry_of core.replica part handed (act.Back peer conit amount) ∷ []) (entered (with_returned core peer conit amount) handed)
  Stands-returned is_free sized =
      let done = act.Back peer conit amount in
      let entry = entry_of core.replica part handed done in
      let after = (with_returned core peer conit amount).budgets in
      let free_is = (IsFree-told core peer conit (free kept peer conit) own peer_in other conit_in refl).1 part stands in
      let gives : AreByPeer core.setup core.replica (returned_to after) (returned (part ++ entry ∷ [])) =
      λ one at one_in apart at_in.
      raised-at kept.setup kept.returned peer conit amount (rw own.setup sized) (rw own.setup peer_in) (rw own.setup conit_in) one at (rw own.setup at_in)
      ∙ ap (λ (before : ℕ). before + cond (peer == one && conit == at) amount 0) (stands.budgets.returned one at one_in apart at_in)
      ∙ sym (returned-push part entry one at) in
      Stands-budgeted part core stands not_full places handed handed_in done after core.counts
      (is_due part core stands not_full places.among handed handed_in done (peer_in, other, conit_in, amount_in) (omega (arith, is_free, free_is)))
      tt refl refl
      (BudgetsStand-further core.setup core.replica part entry kept stands.budgets refl kept.weights kept.reserved kept.lent after.returned
      (weights-same core.setup core.replica part entry kept stands.budgets refl refl)
      (reserved-same core.setup core.replica part entry kept stands.budgets refl (λ one. refl) (λ one. refl))
      (lent-same core.setup core.replica part entry kept stands.budgets refl (λ one at. refl))
      gives)
      places.calls_sized (counts_same done refl (λ client. refl))
