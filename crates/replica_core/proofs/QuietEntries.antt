-- What stays of writes and of budgets where an entry changes neither.
use Rattle.std.proofs.Common.{◌≡◌, ℕ, ◌<◌, ◌≤◌, max, List, [], ◌∷◌, ◌++◌, length, slice_index, map, drop, None, Some, sym, ap, ◌∙◌, arith}
use Rattle.std.proofs.lemmas.List.{length-map, length_push, map-append, drop-append-le}
use Rattle.std.proofs.lemmas.List.Sums.{sum_by_push}
use Rattle.tact_base.proofs.ListLemmas.{map_range_agree}
use Rattle.tact_base.specs.Setup.{Setup, loan_of}
use Rattle.tact_base.specs.declared.conit_list.Weight.{Weight}
use Rattle.tact_base.specs.declared.write.Write.{Write}
use Rattle.run_model.specs.Loans.{lent, returned, lent_by_act, returned_by_act}
use Rattle.run_model.specs.Missing.{reserved, granted_by, used_by}
use Rattle.run_model.specs.OwnWrites.{own}
use Rattle.run_model.specs.Taking.{log_of}
use Rattle.run_model.specs.declared.entry.Entry.{Entry}
use Rattle.run_model.specs.declared.entry.Message.{Message}
use Rattle.run_model.proofs.PartLemmas.{accepted_in, taken_by, own-push_none, own-push_some, origin_state-push_none, known-push_none}
use Rattle.run_model.proofs.ClockLemmas.{clock-push_none}
use Rattle.run_model.proofs.SoundViews.{cover_of-other}
use Rattle.run_promises.proofs.LoanSteps.{lent-push, returned-push, most_told-push_none}
use Rattle.split_budget.specs.Budgets.{BudgetState, reserved_on, lent_to, returned_to}
use Rattle.replica_core.specs.States.{Core, HasPlaces}
use Rattle.replica_core.specs.Stands.{WritesStand, BudgetsStand, AreByPeer}
use Rattle.replica_core.proofs.StandsByPlace.{cover_at-part}
use Rattle.replica_core.proofs.StandsAfterEntry.{AreWritesReady}
use Rattle.replica_core.proofs.DueEntries.{log_of-without_write, seen-without_write}

-- an entry that accepts and takes nothing leaves the writes
pub AreWritesReady-quiet : (part : List Entry) (entry : Entry) (core : Core)
    → WritesStand core.setup core.replica part core.writes
    → HasPlaces core
    → accepted_in entry ≡ None
    → taken_by entry ≡ None
    → AreWritesReady part entry core
AreWritesReady-quiet part entry core stand places accepts takes = record {
  bases = stand.bases;
  logs =
      stand.logs
      ∙ map_range_agree (log_of core.replica part) (log_of core.replica (part ++ entry ∷ [])) core.setup.replicas
      (λ origin within. sym (log_of-without_write core.setup core.replica part entry accepts takes origin));
  covers = λ origin within other.
      cover_at-part part core stand origin within ∙ cover_of-other core.replica part _ origin other
      ∙ sym (ap (λ k. k.cover) (origin_state-push_none part entry origin takes));
  own = cover_at-part part core stand core.replica places.among;
  known = λ peer origin peer_in origin_in. stand.known peer origin peer_in origin_in ∙ sym (known-push_none part entry peer origin takes);
  seen = stand.seen ∙ sym (seen-without_write core.setup core.replica part entry accepts takes);
  dropped = stand.dropped;
  clock = stand.clock ∙ sym (clock-push_none part entry accepts takes);
}

-- An entry that takes nothing changes what budgets have of a part in these alone: the weights of own writes, what is
-- reserved, and what is lent and given back.
module _ (setup : Setup) (replica : ℕ) (part : List Entry) (entry : Entry) (budgets : BudgetState) (stand : BudgetsStand setup replica part budgets) (takes : taken_by entry ≡ None) where
  abbrev further : List Entry
  further = part ++ entry ∷ []

  abbrev weights_of : List Write → List (List Weight)
  weights_of writes = map (λ (write : Write). write.weights) writes

  -- rows are the weights of these writes, but for what is given up
  pub record AreRows (rows : List (List Weight)) (writes : List Write) : Type 0 where
    pub given_up : budgets.given_up ≤ length writes
    pub weights : rows ≡ drop budgets.given_up (weights_of writes)

  -- where it accepts nothing, reserves and uses nothing, lends nothing, and gives nothing back, these stay too
  pub weights-same : accepted_in entry ≡ None → AreRows budgets.weights (own further)
  weights-same accepts = record {
    given_up = omega (arith, stand.given_up, ap length (own-push_none part entry accepts));
    weights = stand.weights ∙ sym (ap (λ (writes : List Write). drop budgets.given_up (weights_of writes)) (own-push_none part entry accepts));
  }

  -- or the weights of a write are added to them
  pub weights-more : (write : Write)
      → accepted_in entry ≡ Some write
      → AreRows (budgets.weights ++ write.weights ∷ []) (own further)
  weights-more write accepts =
      let more = own-push_some part entry write accepts in
      let rows : weights_of (own further) ≡ weights_of (own part) ++ write.weights ∷ [] = ap weights_of more ∙ map-append (λ (w : Write). w.weights) (own part) (write ∷ []) in
      let size : length (weights_of (own part)) ≡ length (own part) = length-map (own part) (λ (w : Write). w.weights) in
      record {
        given_up = omega (arith, stand.given_up, ap length more, length_push (own part) write);
        weights =
            ap (λ (front : List (List Weight)). front ++ write.weights ∷ []) stand.weights
            ∙ sym (drop-append-le budgets.given_up (weights_of (own part)) (write.weights ∷ []) (omega (arith, stand.given_up, size)))
            ∙ sym (ap (drop budgets.given_up) rows);
      }

  pub reserved-same : ((conit : ℕ) → granted_by conit entry.act ≡ 0)
      → ((conit : ℕ) → used_by conit entry.act ≡ 0)
      → (conit : ℕ)
      → conit < setup.conits
      → reserved_on budgets conit ≡ reserved further conit
  reserved-same grants uses conit within =
      omega (arith, stand.reserved conit within, sum_by_push (λ (e : Entry). granted_by conit e.act) part entry, sum_by_push (λ (e : Entry). used_by conit e.act) part entry, grants conit, uses conit)

  pub lent-same : ((peer conit : ℕ) → lent_by_act peer conit entry.act ≡ 0)
      → AreByPeer setup replica (lent_to budgets) (lent setup replica further)
  lent-same lends peer conit peer_in other conit_in =
      omega (arith, stand.lent peer conit peer_in other conit_in, lent-push part entry setup replica peer conit, lends peer conit)

  pub returned-same : ((peer conit : ℕ) → returned_by_act peer conit entry.act ≡ 0)
      → AreByPeer setup replica (returned_to budgets) (returned further)
  returned-same gives peer conit peer_in other conit_in =
      omega (arith, stand.returned peer conit peer_in other conit_in, returned-push part entry peer conit, gives peer conit)

  pub BudgetsStand-further : (weights : List (List Weight)) (reserves lents returns : List ℕ)
      → (let after : BudgetState = record budgets { weights = weights; reserved = reserves; lent = lents; returned = returns } in
      AreRows weights (own further)
      → ((conit : ℕ) → conit < setup.conits → reserved_on after conit ≡ reserved further conit)
      → AreByPeer setup replica (lent_to after) (lent setup replica further)
      → AreByPeer setup replica (returned_to after) (returned further)
      → BudgetsStand setup replica further after)
  BudgetsStand-further weights reserves lents returns are_weights are_reserved are_lent are_returned = record {
    given_up = are_weights.given_up;
    had = λ peer within other. omega (arith, stand.had peer within other, known-push_none part entry peer replica takes);
    weights = are_weights.weights;
    known = λ peer within other. stand.known peer within other ∙ sym (known-push_none part entry peer replica takes);
    reserved = are_reserved;
    lent = are_lent;
    lent_known = λ peer conit peer_in other conit_in.
        stand.lent_known peer conit peer_in other conit_in
        ∙ sym (ap (max (loan_of setup peer conit replica)) (most_told-push_none part entry (λ (message : Message). slice_index message.lent conit) peer takes));
    returned = are_returned;
    returned_known = λ peer conit peer_in other conit_in.
        stand.returned_known peer conit peer_in other conit_in
        ∙ sym (most_told-push_none part entry (λ (message : Message). slice_index message.returned conit) peer takes);
  }
