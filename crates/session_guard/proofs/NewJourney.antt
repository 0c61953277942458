-- Clients that did nothing.
use Rattle.std.proofs.Common.{◌≡◌, ℕ, zero, suc, ◌≤◌, List, [], ◌∷◌, length, get_or, map, replicate, Some, refl, sym, ap, ap₂, ◌∙◌, subst, arith}
use Rattle.std.specs.List.{slice_get}
use Rattle.std.proofs.lemmas.List.{length-replicate}
use Rattle.std.proofs.lemmas.Option.{get_or_from_slice_get}
use Rattle.tact_base.specs.Setup.{IsSetup, Setup}
use Rattle.tact_base.specs.declared.limits.TheConstants.{CLIENTS}
use Rattle.run_model.specs.Runs.{IsLawful, IsRun}
use Rattle.run_model.proofs.PrefixLemmas.{EachAfter-nil}
use Rattle.replica_network.specs.Networks.{NetworkState}
use Rattle.session_guard.proofs.Carrying.{carried_fresh}
use Rattle.session_guard.specs.Journeys.{IsClient, Keeps, made_in}
use Rattle.session_guard.specs.Passes.{PassState, fresh_pass}
use Rattle.session_guard.specs.Roaming.{Roamed, not_roamed}
use Rattle.session_guard.specs.declared.client.Client.{Client}
use Rattle.session_guard.specs.declared.journey.Journey.{Journey}

abbrev pub fresh_client : Setup → Client
fresh_client setup = record { pass = fresh_pass setup.replicas; trip = [] }

pub passes_fresh : (setup : Setup) (count : ℕ)
    → map (λ (client : Client). client.pass) (replicate count (fresh_client setup)) ≡ replicate count (fresh_pass setup.replicas)
passes_fresh setup zero = refl
passes_fresh setup (suc count) = ap (λ (ps : List PassState). fresh_pass setup.replicas ∷ ps) (passes_fresh setup count)

-- each of them is one of the empty history
get_or-replicate_same : (count k : ℕ) (x : Client) → get_or (replicate count x) k x ≡ x
get_or-replicate_same zero k x = refl
get_or-replicate_same (suc count) zero x = refl
get_or-replicate_same (suc count) (suc k) x = get_or-replicate_same count k x

pub clients_fresh : (setup : Setup) (count number : ℕ) (client : Client)
    → slice_get (replicate count (fresh_client setup)) number ≡ Some client
    → IsClient setup [] number client
clients_fresh setup count number client found =
    let fresh = fresh_client setup in
    let is : fresh ≡ client = sym (get_or-replicate_same count number fresh) ∙ get_or_from_slice_get (replicate count fresh) number client fresh found in
    subst (IsClient setup [] number) is (record { trip = refl; carried = carried_fresh setup })

-- A journey of clients that did nothing.
pub opens : (journey : Journey) (setup : Setup) (count : ℕ)
    → IsSetup setup
    → journey.network ≡ record { setup = setup; entries = [] }
    → journey.clients.items ≡ replicate count (fresh_client setup)
    → count ≤ CLIENTS
    → Keeps journey
opens journey setup count good network_is clients_are few = record {
  good = subst (λ (n : NetworkState). IsSetup n.setup) (sym network_is) good;
  run = subst (λ (n : NetworkState). IsRun n.setup n.entries) (sym network_is) (EachAfter-nil (IsLawful setup));
  few = omega (arith, few, ap length clients_are, length-replicate count (fresh_client setup));
  clients = λ number client found.
      subst (λ (n : NetworkState). IsClient n.setup n.entries number client) (sym network_is)
      (clients_fresh setup count number client (ap (λ (cs : List Client). slice_get cs number) (sym clients_are) ∙ found));
}

pub opens_fresh : (journey : Journey) (setup : Setup) (count : ℕ)
    → journey.network ≡ record { setup = setup; entries = [] }
    → journey.clients.items ≡ replicate count (fresh_client setup)
    → made_in journey [] ≡ not_roamed setup count
opens_fresh journey setup count network_is clients_are =
    ap₂ (λ (n : NetworkState) (ps : List PassState). let one : Roamed = record { entries = n.entries; passes = ps; outcomes = [] } in one) network_is
    (ap (map (λ (client : Client). client.pass)) clients_are ∙ passes_fresh setup count)
