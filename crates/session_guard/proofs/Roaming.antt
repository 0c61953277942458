-- What is kept of roaming clients is what their steps made, so their entries are a run and their trips are guarded.
use Rattle.std.proofs.Common.{◌≡◌, ℕ, ◌<◌, List, [], ◌∷◌, ◌++◌, length, get_or, map, Some, sym, ap, ap₂, ◌∙◌, subst, subst₂, arith}
use Rattle.std.specs.List.{slice_get}
use Rattle.std.proofs.lemmas.List.{length_push}
use Rattle.std.proofs.lemmas.Option.{slice_get-get_or}
use Rattle.tact_base.proofs.ListLemmas.{fold-push}
use Rattle.tact_base.specs.Setup.{Setup}
use Rattle.run_model.specs.Promises.{IsKept}
use Rattle.run_model.specs.declared.entry.Entry.{Entry}
use Rattle.run_promises.proofs.Kept.{IsKept-run}
use Rattle.replica_network.specs.Networks.{NetworkState}
use Rattle.session_guard.proofs.Going.{keeps_same, pass_there}
use Rattle.session_guard.specs.Guards.{IsGuarded}
use Rattle.session_guard.specs.Journeys.{GoesOnBy, Keeps, Stays, made_in}
use Rattle.session_guard.specs.Passes.{PassState}
use Rattle.session_guard.specs.Roaming.{Roamed, after_step, not_roamed, pass_at, roamed, stepped}
use Rattle.session_guard.specs.Roams.{AreAllGuarded, HasRoamed, RoamState, entries_of, roamed_by, with_step}
use Rattle.session_guard.specs.Trips.{trip_of}
use Rattle.session_guard.specs.declared.client.Client.{Client}
use Rattle.session_guard.specs.declared.journey.Journey.{Journey}
use Rattle.session_guard.specs.declared.roam.TheConstants.{STEPS_MAX}
use Rattle.session_guard.specs.declared.steps.Handed.{Handed}
use Rattle.session_guard.specs.declared.steps.Outcome.{Outcome}
use Rattle.session_guard.specs.declared.steps.Step.{Step}

-- there is a client at each place
client_at : (clients : List Client) (pass : ℕ) → pass < length clients → (client : Client) × (slice_get clients pass ≡ Some client)
client_at [] pass within = absurd (omega arith)
client_at (first ∷ rest) pass within = (get_or (first ∷ rest) pass first, slice_get-get_or (first ∷ rest) pass first within)

module _ (state : RoamState) (journey : Journey) (is : HasRoamed state journey) where
  pub entries_are : entries_of state ≡ journey.network.entries
  entries_are = ap (λ (made : Roamed). made.entries) is.made

  pub is_kept : IsKept state.setup (entries_of state)
  is_kept = subst₂ IsKept (sym is.setup) (sym entries_are) (IsKept-run journey.network.setup journey.network.entries is.keeps.good is.keeps.run)

  pub are_guarded : AreAllGuarded state
  are_guarded pass within =
      let found = client_at journey.clients.items pass (omega (arith, within, is.passes)) in
      let one = is.keeps.clients pass found.0 found.1 in
      subst₂ (λ (s : Setup) (es : List Entry). IsGuarded s es (trip_of es pass)) (sym is.setup) (sym entries_are)
      (subst (IsGuarded journey.network.setup journey.network.entries) one.trip one.carried.guarded)

  pub trip_is : (pass : ℕ) (client : Client)
      → slice_get journey.clients.items pass ≡ Some client
      → client.trip ≡ trip_of (entries_of state) pass
  trip_is pass client found = (is.keeps.clients pass client found).trip ∙ ap (λ (es : List Entry). trip_of es pass) (sym entries_are)

  pub pass_is : (pass : ℕ) (client : Client)
      → slice_get journey.clients.items pass ≡ Some client
      → client.pass ≡ pass_at (roamed_by state).passes pass
  pass_is pass client found =
      sym (pass_there journey.clients.items pass client found) ∙ ap (λ (made : Roamed). pass_at made.passes pass) (sym is.made)

-- none did anything
pub none_roamed : (state : RoamState) (journey : Journey)
    → Keeps journey
    → state.setup ≡ journey.network.setup
    → state.passes ≡ length journey.clients.items
    → state.steps ≡ []
    → made_in journey [] ≡ not_roamed state.setup state.passes
    → HasRoamed state journey
none_roamed state journey keeps setup passes steps made =
    let is : roamed_by state ≡ made_in journey [] = ap (roamed state.setup state.passes) steps ∙ sym made in
    record {
      keeps = keeps;
      setup = setup;
      passes = passes;
      made = is ∙ ap (made_in journey) (sym (ap (λ (r : Roamed). r.outcomes) is));
      few = omega (arith, ap (λ (r : Roamed). length r.entries) made);
      most = omega (arith, ap length steps);
    }

-- one step more
module _ (state : RoamState) (old new : Journey) (moment : ℕ) (next : Step) (outcome : Outcome) (is : HasRoamed state old) (goes : GoesOnBy old new moment next outcome)
    (few : length state.steps < STEPS_MAX) where
  made_more : roamed_by (with_step state moment next) ≡ made_in new ((roamed_by state).outcomes ++ outcome ∷ [])
  made_more =
      let handed : Handed = record { moment = moment; step = next } in
      fold-push (after_step state.setup) (not_roamed state.setup state.passes) state.steps handed
      ∙ ap₂ (λ (s : Setup) (made : Roamed). stepped s made moment next) is.setup is.made
      ∙ goes.made (roamed_by state).outcomes

  pub more_outcomes : (roamed_by (with_step state moment next)).outcomes ≡ (roamed_by state).outcomes ++ outcome ∷ []
  more_outcomes = ap (λ (made : Roamed). made.outcomes) made_more

  pub has_stepped : HasRoamed (with_step state moment next) new
  has_stepped = record {
    keeps = goes.keeps;
    setup = is.setup ∙ sym goes.setup;
    passes = is.passes ∙ sym goes.many;
    made = made_more ∙ ap (made_in new) (sym more_outcomes);
    few = omega (arith, goes.grows, is.few, length_push state.steps (let handed : Handed = record { moment = moment; step = next } in handed));
    most = omega (arith, few, length_push state.steps (let handed : Handed = record { moment = moment; step = next } in handed));
  }

-- and none
pub has_stayed : (state : RoamState) (old new : Journey) → HasRoamed state old → Stays old new → HasRoamed state new
has_stayed state old new is stays = record {
  keeps = keeps_same old new is.keeps stays;
  setup = is.setup ∙ ap (λ (n : NetworkState). n.setup) (sym stays.network);
  passes = is.passes ∙ ap length (sym stays.clients);
  made = is.made
      ∙ ap₂ (λ (n : NetworkState) (ps : List PassState). let one : Roamed = record { entries = n.entries; passes = ps; outcomes = (roamed_by state).outcomes } in one)
      (sym stays.network) (ap (map (λ (client : Client). client.pass)) (sym stays.clients));
  few = omega (arith, is.few, ap (λ (n : NetworkState). length n.entries) stays.network);
  most = is.most;
}
