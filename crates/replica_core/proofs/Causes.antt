-- A waiting reply that is due names its cause.
use Rattle.std.proofs.Common.{◌≡◌, ℕ, ◌+◌, ◌<◌, ◌≤◌, ◌==◌, nat_le, nat_lt, Bool, true, false, cond, ℤ, pos, negsuc}
use Rattle.std.proofs.Common.{unsigned_abs, List, [], ◌∷◌, map, sum_by, Contains, Option, None, Some, unwrap_or, refl}
use Rattle.std.proofs.Common.{subst, ⊎_elim, arith, sym}
use Rattle.std.specs.List.{flat_map}
use Rattle.std.proofs.lemmas.Bool.{cases_lt, leb-true, leb-false, ltb-true, ltb-false, eqb-true}
use Rattle.std.proofs.lemmas.List.Elements.{All-contains, filter_passes}
use Rattle.std.proofs.lemmas.List.Sums.{sum_by-cons}
use Rattle.std.proofs.lemmas.Option.{same_Some}
use Rattle.tact_base.proofs.ElementLemmas.{Contains-first, Contains-later, Contains-from_flat_map, Contains-from_filter}
use Rattle.tact_base.proofs.Peers.{All-peers}
use Rattle.tact_base.proofs.SetupLemmas.{HasCounts-from_IsSetup}
use Rattle.tact_base.specs.Setup.{Setup, peers_of}
use Rattle.tact_base.specs.Sums.{above_zero, below_zero, weights_on}
use Rattle.tact_base.specs.declared.conit_list.Weight.{Weight}
use Rattle.tact_base.specs.declared.fit.Fit.TheVariants as fit
use Rattle.tact_base.specs.declared.conit_list.Need.{Need}
use Rattle.tact_base.specs.declared.write.Op.{Op}
use Rattle.tact_base.specs.declared.write.Write.{Write}
use Rattle.run_model.specs.Histories.{moment_at}
use Rattle.run_model.specs.Loans.{share}
use Rattle.run_model.specs.Missing.{maybe_missed, missing_plus, missing_minus, greater_missing, reserved}
use Rattle.run_model.specs.Order.{value, image}
use Rattle.run_model.specs.Replies.{need_refusal, first_some, refused_as, refusal, missing_of_sign, weight_refusal, done, reply_of}
use Rattle.run_model.specs.declared.call.Reply.{Reply}
use Rattle.run_model.specs.declared.call.Reply.TheVariants as reply
use Rattle.run_model.specs.declared.call.Request.{Request}
use Rattle.run_model.specs.declared.call.Request.TheVariants as request
use Rattle.run_model.specs.declared.entry.Entry.{Entry}
use Rattle.run_promises.proofs.FirstReplies.{first_some-from}
use Rattle.replica_core.proofs.ReadCauses.{need_names}
use Rattle.replica_core.specs.Calling.{on_side_of, on_greater_side, CountsAgainst, WaitsForPeer, NamesCause}
use Rattle.replica_core.specs.States.{Core, IsKept}

-- a sum that isn't 0 has an item that isn't
some_above : {X : Type 0} (amount : X → ℕ) (xs : List X)
    → 0 < sum_by amount xs
    → (x : X) × Contains xs x × (0 < amount x)
some_above amount [] above = absurd (omega arith)
some_above amount (x ∷ xs) above = ⊎_elim
    (λ (here : 0 < amount x). (x, Contains-first x x xs refl, here))
    (λ (none : amount x ≤ 0).
    let found = some_above amount xs (omega (arith, above, none, sum_by-cons amount x xs)) in
    (found.0, Contains-later x found.0 xs found.1, found.2))
    (cases_lt 0 (amount x))

module _ (setup : Setup) (replica : ℕ) (part : List Entry) (moment : ℕ) where
  -- what a peer may miss on a conit, of such nweights
  abbrev missed : (ℤ → ℕ) → ℕ → ℕ → ℕ
  missed amount peer conit = sum_by (λ (weight : Weight). amount weight.nweight) (weights_on (maybe_missed replica part peer) conit)

  -- where it isn't 0, there is a write that counts
  waits_for : (asked : Request) (amount : ℤ → ℕ) (peer conit : ℕ)
      → Contains (peers_of setup replica) peer
      → ((nweight : ℤ) → 0 < amount nweight → CountsAgainst replica part peer conit asked nweight)
      → 0 < missed amount peer conit
      → WaitsForPeer setup replica part peer conit asked
  waits_for asked amount peer conit is_peer counts above =
      let writes = maybe_missed replica part peer in
      let all = flat_map (λ (write : Write). write.weights) writes in
      let there = λ (weight : Weight). weight.conit == conit in
      let heavy = some_above (λ (weight : Weight). amount weight.nweight) (weights_on writes conit) above in
      let found = Contains-from_flat_map (λ (write : Write). write.weights) writes heavy.0 (Contains-from_filter there all heavy.0 heavy.1) in
      let among = All-contains (λ (k : ℕ). (k < setup.replicas) × (k ≡ replica → ⊥)) (peers_of setup replica) peer
      (All-peers setup replica (λ (k : ℕ). (k < setup.replicas) × (k ≡ replica → ⊥)) (λ k within other. (within, other))) is_peer in
      record {
        among = among.0;
        other = among.1;
        write = found.0;
        unknown = found.1;
        weight = heavy.0;
        weighs = found.2;
        there = eqb-true _ _ (All-contains (λ (weight : Weight). there weight ≡ true) (weights_on writes conit) heavy.0 (filter_passes there all) heavy.1);
        counts = counts heavy.0.nweight heavy.2;
      }

  -- A peer refuses an amount: where it waits for its share, the peer may miss a write that counts.
  module _ (asked : Request) (peer conit amount missing : ℕ) (given : Reply) (waits : 0 < missing → WaitsForPeer setup replica part peer conit asked) where
    abbrev there : ℕ
    there = share setup replica part peer conit

    abbrev held : ℕ
    held = reserved part conit

    fit_names : (heavy holds short : Bool)
        → nat_lt there (held + amount) ≡ holds
        → nat_lt there (missing + held + amount) ≡ short
        → refused_as conit (cond heavy (fit.TooHeavy peer amount there)
        (cond holds (fit.WaitHeld peer held amount there) (cond short (fit.WaitShare peer missing held amount there) fit.Fits))) ≡ Some given
        → NamesCause setup replica part moment asked given
    fit_names true holds short is_held is_short is = subst (NamesCause setup replica part moment asked) (same_Some _ given is) tt
    fit_names false true short is_held is_short is = subst (NamesCause setup replica part moment asked) (same_Some _ given is) tt
    fit_names false false true is_held is_short is =
        subst (NamesCause setup replica part moment asked) (same_Some _ given is) (waits (omega (arith, ltb-false _ _ is_held, ltb-true _ _ is_short)))
    fit_names false false false is_held is_short is = cc

    refusal_names : refusal setup replica part conit peer amount missing ≡ Some given
        → NamesCause setup replica part moment asked given
    refusal_names = fit_names (nat_lt there amount) (nat_lt there (held + amount)) (nat_lt there (missing + held + amount)) refl refl

  -- what a peer may miss of the sign of a weight, and the greater of both sums
  of_sign : (nweight : ℤ) (peer conit : ℕ)
      → missing_of_sign replica part peer conit nweight ≡ missed (on_side_of nweight) peer conit
  of_sign (pos n) peer conit = refl
  of_sign (negsuc n) peer conit = refl

  of_greater : (peer conit : ℕ)
      → greater_missing replica part peer conit ≡ missed (on_greater_side replica part peer conit) peer conit
  of_greater peer conit = go (nat_le (missing_minus replica part peer conit) (missing_plus replica part peer conit)) refl
    where
      go : (less : Bool)
          → nat_le (missing_minus replica part peer conit) (missing_plus replica part peer conit) ≡ less
          → greater_missing replica part peer conit
          ≡ sum_by (λ (weight : Weight). cond less above_zero below_zero weight.nweight) (weights_on (maybe_missed replica part peer) conit)
      go true is = omega (arith, leb-true _ _ is)
      go false is = omega (arith, leb-false _ _ is)

  -- a write, and an amount to be reserved
  write_names : (weights : List Weight) (op : Op) (given : Reply)
      → first_some (weight_refusal setup replica part) weights ≡ Some given
      → NamesCause setup replica part moment (request.Write weights op) given
  write_names weights op given is =
      let by_weight = first_some-from (weight_refusal setup replica part) weights given is in
      let weight : Weight = by_weight.0 in
      let size = unsigned_abs weight.nweight in
      let by_peer = first_some-from (λ peer. refusal setup replica part weight.conit peer size (missing_of_sign replica part peer weight.conit weight.nweight))
      (peers_of setup replica) given by_weight.2 in
      let peer : ℕ = by_peer.0 in
      refusal_names (request.Write weights op) peer weight.conit size (missing_of_sign replica part peer weight.conit weight.nweight) given
      (λ above. waits_for (request.Write weights op) (on_side_of weight.nweight) peer weight.conit by_peer.1
      (λ nweight counts. (weight, by_weight.1, refl, counts)) (omega (arith, above, of_sign weight.nweight peer weight.conit)))
      by_peer.2

  reserve_names : (conit amount : ℕ) (given : Reply)
      → first_some (λ peer. refusal setup replica part conit peer amount (greater_missing replica part peer conit)) (peers_of setup replica) ≡ Some given
      → NamesCause setup replica part moment (request.Reserve conit amount) given
  reserve_names conit amount given is =
      let by_peer = first_some-from (λ peer. refusal setup replica part conit peer amount (greater_missing replica part peer conit)) (peers_of setup replica) given is in
      let peer : ℕ = by_peer.0 in
      refusal_names (request.Reserve conit amount) peer conit amount (greater_missing replica part peer conit) given
      (λ above. waits_for (request.Reserve conit amount) (on_greater_side replica part peer conit) peer conit by_peer.1
      (λ nweight counts. counts) (omega (arith, above, of_greater peer conit)))
      by_peer.2

  -- any request, where there is another replica
  pub reply_names_cause : replica < setup.replicas
      → 2 ≤ setup.replicas
      → (asked : Request)
      → NamesCause setup replica part moment asked (reply_of setup replica part moment asked)
  reply_names_cause among many (request.Write weights op) = go (first_some (weight_refusal setup replica part) weights) refl
    where
      go : (first : Option Reply)
          → first_some (weight_refusal setup replica part) weights ≡ first
          → NamesCause setup replica part moment (request.Write weights op) (unwrap_or first (done replica part))
      go None is = tt
      go (Some given) is = write_names weights op given is
  reply_names_cause among many (request.Held weight op) = go (nat_lt (reserved part weight.conit) (unsigned_abs weight.nweight))
    where
      go : (less : Bool)
          → NamesCause setup replica part moment (request.Held weight op) (cond less (reply.NotHeld weight.conit (reserved part weight.conit) (unsigned_abs weight.nweight)) (done replica part))
      go true = tt
      go false = tt
  reply_names_cause among many (request.Reserve conit amount) =
      go (first_some (λ peer. refusal setup replica part conit peer amount (greater_missing replica part peer conit)) (peers_of setup replica)) refl
    where
      go : (first : Option Reply)
          → first_some (λ peer. refusal setup replica part conit peer amount (greater_missing replica part peer conit)) (peers_of setup replica) ≡ first
          → NamesCause setup replica part moment (request.Reserve conit amount) (unwrap_or first reply.Granted)
      go None is = tt
      go (Some given) is = reserve_names conit amount given is
  reply_names_cause among many (request.Release conit amount) = go (nat_lt (reserved part conit) amount)
    where
      go : (less : Bool)
          → NamesCause setup replica part moment (request.Release conit amount) (cond less (reply.NotHeld conit (reserved part conit) amount) reply.Released)
      go true = tt
      go false = tt
  reply_names_cause among many (request.Read key needs) = go (first_some (need_refusal setup replica part moment) needs) refl
    where
      go : (first : Option Reply)
          → first_some (need_refusal setup replica part moment) needs ≡ first
          → NamesCause setup replica part moment (request.Read key needs)
          (unwrap_or first (reply.Value (image setup replica part key) (map (λ (need : Need). value setup replica part need.conit) needs)))
      go None is = tt
      go (Some given) is =
          let by_need = first_some-from (need_refusal setup replica part moment) needs given is in
          need_names setup replica part moment among many (request.Read key needs) by_need.0 given by_need.2

-- so a reply that is the due one names its cause
pub cause_named : (core : Core) (part : List Entry) (handed : ℕ) (asked : Request) (given : Reply)
    → IsKept core
    → given ≡ reply_of core.setup core.replica part (moment_at part handed) asked
    → NamesCause core.setup core.replica part (moment_at part handed) asked given
cause_named core part handed asked given kept due =
    subst (NamesCause core.setup core.replica part (moment_at part handed) asked) (sym due)
    (reply_names_cause core.setup core.replica part (moment_at part handed) kept.places.among (HasCounts-from_IsSetup core.setup kept.setup).replicas_low asked)
