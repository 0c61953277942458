-- A reply that is due names conits and replicas of a setup, which have one byte each: an entry that is due has a piece.
use Rattle.std.proofs.Common.{◌≡◌, ℕ, ◌+◌, ◌<◌, ◌≤◌, Contains, Bool, true, false, cond, List, map, Option, None, Some, refl, sym, subst}
use Rattle.std.specs.Prelude.{nat_lt, unsigned_abs, unwrap_or}
use Rattle.std.specs.Option.{option_map}
use Rattle.std.proofs.lemmas.List.Elements.{All-contains}
use Rattle.std.proofs.lemmas.Option.{same_Some}
use Rattle.tact_base.specs.Admission.{Hindrance, lent, unordered, stale}
use Rattle.tact_base.specs.Shares.{fit_of}
use Rattle.tact_base.specs.Setup.{Setup, IsSetup, peers_of}
use Rattle.tact_base.specs.declared.conit_list.Need.{Need}
use Rattle.tact_base.specs.declared.conit_list.Weight.{Weight}
use Rattle.tact_base.specs.declared.fit.Fit.TheVariants as fit
use Rattle.tact_base.specs.declared.write.Op.{Op}
use Rattle.tact_base.proofs.Peers.{All-peers}
use Rattle.tact_base.proofs.SetupLemmas.{HasCounts-from_IsSetup}
use Rattle.run_model.specs.CallBytes.{HasSmallNames}
use Rattle.run_model.specs.Missing.{greater_missing, reserved}
use Rattle.run_model.specs.Order.{image, value}
use Rattle.run_model.specs.Loans.{share}
use Rattle.run_model.specs.Ranges.{IsActInRange, IsWeightInRange, IsNeedInRange, IsRequestInRange}
use Rattle.run_model.specs.Replies.{first_some, refused_as, refusal, weight_refusal, need_refusal, missing_of_sign, waiting_by, done, reply_of}
use Rattle.run_model.specs.Runs.{IsActDue, IsDue}
use Rattle.run_model.specs.declared.call.Reply.{Reply}
use Rattle.run_model.specs.declared.call.Reply.TheVariants as reply
use Rattle.run_model.specs.declared.call.Request.{Request}
use Rattle.run_model.specs.declared.call.Request.TheVariants as request
use Rattle.run_model.specs.declared.entry.Act.{Act}
use Rattle.run_model.specs.declared.entry.Act.TheVariants as act
use Rattle.run_model.specs.declared.entry.Entry.{Entry}
use Rattle.run_promises.proofs.FirstReplies.{first_some-from}
use Rattle.replica_core.specs.Calling.{NamesCause}
use Rattle.replica_core.proofs.Causes.{reply_names_cause}
use Rattle.restart_journal.specs.Pieces.{CanBePut, HasSmallReply}
use Rattle.restart_journal.proofs.Putting.{a_conit, a_replica}

module _ (setup : Setup) (good : IsSetup setup) (replica : ℕ) (part : List Entry) (moment : ℕ) (among : replica < setup.replicas) where
  -- what a share refuses
  by_share : (conit peer share held missing amount : ℕ) (given : Reply)
      → conit < setup.conits
      → peer < setup.replicas
      → refused_as conit (fit_of peer share held missing amount) ≡ Some given
      → HasSmallNames given
  by_share conit peer share held missing amount given conit_in peer_in is =
      go (nat_lt share amount) (nat_lt share (held + amount)) (nat_lt share (missing + held + amount)) is
    where
      small : (conit < 256) × (peer < 256)
      small = (a_conit setup good conit conit_in, a_replica setup good peer peer_in)

      go : (heavy waits_held waits_share : Bool)
          → refused_as conit (cond heavy (fit.TooHeavy peer amount share) (cond waits_held (fit.WaitHeld peer held amount share) (cond waits_share (fit.WaitShare peer missing held amount share) fit.Fits))) ≡ Some given
          → HasSmallNames given
      go true waits_held waits_share is = subst HasSmallNames (same_Some (reply.TooHeavy conit peer amount share) given is) small
      go false true waits_share is = subst HasSmallNames (same_Some (reply.WaitHeld conit peer held amount share) given is) small
      go false false true is = subst HasSmallNames (same_Some (reply.WaitShare conit peer missing held amount share) given is) small
      go false false false is = absurd cc

  -- what a need is hindered by
  by_need : (asked : Request) (need : Need) (found : Option Hindrance) (given : Reply)
      → need.conit < setup.conits
      → NamesCause setup replica part moment asked given
      → option_map (waiting_by need moment) found ≡ Some given
      → HasSmallNames given
  by_need asked need None given conit_in names is = absurd cc
  by_need asked need (Some (lent holder out total)) given conit_in names is =
      let e = same_Some (reply.WaitLent need.conit holder out total need.num) given is in
      let cause = subst (NamesCause setup replica part moment asked) (sym e) names in
      subst HasSmallNames e (a_conit setup good need.conit conit_in, a_replica setup good holder cause.0)
  by_need asked need (Some (unordered slowest tentative)) given conit_in names is =
      let e = same_Some (reply.WaitOrder need.conit slowest tentative need.order) given is in
      let cause = subst (NamesCause setup replica part moment asked) (sym e) names in
      subst HasSmallNames e (a_conit setup good need.conit conit_in, a_replica setup good slowest cause.0)
  by_need asked need (Some (stale late)) given conit_in names is =
      let e = same_Some (waiting_by need moment (stale late)) given is in
      let cause = subst (NamesCause setup replica part moment asked) (sym e) names in
      subst HasSmallNames e (a_conit setup good need.conit conit_in, a_replica setup good late.replica cause.0)

  its_peer : (peer : ℕ) → Contains (peers_of setup replica) peer → peer < setup.replicas
  its_peer peer is = All-contains (λ (k : ℕ). k < setup.replicas) (peers_of setup replica) peer (All-peers setup replica (λ (k : ℕ). k < setup.replicas) (λ k within other. within)) is

  -- any request
  pub due_is_small : (asked : Request) → IsRequestInRange setup asked → HasSmallNames (reply_of setup replica part moment asked)
  due_is_small (request.Write weights op) within = go (first_some (weight_refusal setup replica part) weights) refl
    where
      go : (first : Option Reply)
          → first_some (weight_refusal setup replica part) weights ≡ first
          → HasSmallNames (unwrap_or first (done replica part))
      go None is = tt
      go (Some given) is =
          let by_weight = first_some-from (weight_refusal setup replica part) weights given is in
          let weight : Weight = by_weight.0 in
          let size = unsigned_abs weight.nweight in
          let by_peer = first_some-from (λ peer. refusal setup replica part weight.conit peer size (missing_of_sign replica part peer weight.conit weight.nweight)) (peers_of setup replica) given by_weight.2 in
          let peer : ℕ = by_peer.0 in
          let conit_in = (All-contains (IsWeightInRange setup) weights weight within.0.each by_weight.1).conit in
          by_share weight.conit peer (share setup replica part peer weight.conit) (reserved part weight.conit) (missing_of_sign replica part peer weight.conit weight.nweight) size given conit_in (its_peer peer by_peer.1) by_peer.2
  due_is_small (request.Held weight op) within = go (nat_lt (reserved part weight.conit) (unsigned_abs weight.nweight))
    where
      go : (less : Bool)
          → HasSmallNames (cond less (reply.NotHeld weight.conit (reserved part weight.conit) (unsigned_abs weight.nweight)) (done replica part))
      go true = a_conit setup good weight.conit within.0.conit
      go false = tt
  due_is_small (request.Reserve conit amount) within =
      go (first_some (λ peer. refusal setup replica part conit peer amount (greater_missing replica part peer conit)) (peers_of setup replica)) refl
    where
      go : (first : Option Reply)
          → first_some (λ peer. refusal setup replica part conit peer amount (greater_missing replica part peer conit)) (peers_of setup replica) ≡ first
          → HasSmallNames (unwrap_or first reply.Granted)
      go None is = tt
      go (Some given) is =
          let by_peer = first_some-from (λ peer. refusal setup replica part conit peer amount (greater_missing replica part peer conit)) (peers_of setup replica) given is in
          let peer : ℕ = by_peer.0 in
          by_share conit peer (share setup replica part peer conit) (reserved part conit) (greater_missing replica part peer conit) amount given within.0 (its_peer peer by_peer.1) by_peer.2
  due_is_small (request.Release conit amount) within = go (nat_lt (reserved part conit) amount)
    where
      go : (less : Bool) → HasSmallNames (cond less (reply.NotHeld conit (reserved part conit) amount) reply.Released)
      go true = a_conit setup good conit within.0
      go false = tt
  due_is_small (request.Read key needs) within = go (first_some (need_refusal setup replica part moment) needs) refl
    where
      many : 2 ≤ setup.replicas
      many = (HasCounts-from_IsSetup setup good).replicas_low

      -- the reply to this read names its cause
      caused : (given : Reply)
          → first_some (need_refusal setup replica part moment) needs ≡ Some given
          → NamesCause setup replica part moment (request.Read key needs) given
      caused given is =
          let answer = λ (first : Option Reply). unwrap_or first (reply.Value (image setup replica part key) (map (λ (need : Need). value setup replica part need.conit) needs)) in
          subst (λ (first : Option Reply). NamesCause setup replica part moment (request.Read key needs) (answer first)) is
          (reply_names_cause setup replica part moment among many (request.Read key needs))

      go : (first : Option Reply)
          → first_some (need_refusal setup replica part moment) needs ≡ first
          → HasSmallNames (unwrap_or first (reply.Value (image setup replica part key) (map (λ (need : Need). value setup replica part need.conit) needs)))
      go None is = tt
      go (Some given) is =
          let found = first_some-from (need_refusal setup replica part moment) needs given is in
          let conit_in = (All-contains (IsNeedInRange setup) needs found.0 within.1.each found.1).conit in
          by_need (request.Read key needs) found.0 _ given conit_in (caused given is) found.2

act_is_small : (setup : Setup) (good : IsSetup setup) (replica : ℕ) (part : List Entry) (moment : ℕ) (which : Act)
    → replica < setup.replicas
    → IsActInRange setup replica which
    → IsActDue setup replica part moment which
    → HasSmallReply which
act_is_small setup good replica part moment (act.Call client number asked given) among within due =
    subst HasSmallNames (sym due.1) (due_is_small setup good replica part moment among asked within.1)
act_is_small setup good replica part moment (act.Send message) among within due = tt
act_is_small setup good replica part moment (act.Take message) among within due = tt
act_is_small setup good replica part moment (act.Lend to conit amount) among within due = tt
act_is_small setup good replica part moment (act.Back owner conit amount) among within due = tt
act_is_small setup good replica part moment act.Restart among within due = tt

-- an entry that is due has a piece
pub due_can_be_put : (setup : Setup) (part : List Entry) (entry : Entry)
    → IsSetup setup
    → IsDue setup part entry
    → CanBePut entry
due_can_be_put setup part entry good due = record {
  setup = setup;
  good = good;
  in_range = due.in_range;
  names = act_is_small setup good entry.replica part entry.moment entry.act due.in_range.replica due.in_range.act due.act;
}
