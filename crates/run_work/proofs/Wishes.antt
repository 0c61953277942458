-- The replica that a due reply names as what it waits for is another one of the setup.
use Rattle.std.proofs.Common.{◌≡◌, ◌≢◌, ℕ, ◌<◌, ◌≤◌, ◌==◌, nat_lt, true, false, List, [], ◌∷◌, ◌++◌, flat_map, All, Contains, Some, sym, ap, ◌∙◌, subst, ⊎_elim, arith}
use Rattle.std.proofs.lemmas.Bool.{eqb-true, le-ltb}
use Rattle.std.proofs.lemmas.List.Elements.{All-contains, All-weaker, Contains-push, filter_passes}
use Rattle.std.proofs.lemmas.List.Sorted.{All-permutation}
use Rattle.std.proofs.lemmas.Option.{same_Some}
use Rattle.tact_base.proofs.ElementLemmas.{Contains-cases, Contains-from_filter, Contains-none}
use Rattle.tact_base.proofs.ListLemmas.{All-flat_map, filter_none}
use Rattle.tact_base.proofs.OrderLemmas.{IsPermutation-in_order}
use Rattle.tact_base.proofs.SetupLemmas.{HasCounts-from_IsSetup}
use Rattle.tact_base.specs.Setup.{Setup, IsSetup, replicas_of}
use Rattle.tact_base.specs.Sums.{order_sum}
use Rattle.tact_base.specs.WriteOrder.{in_order}
use Rattle.tact_base.specs.declared.write.Cover.{Cover}
use Rattle.tact_base.specs.declared.write.Write.{Write}
use Rattle.anti_entropy.specs.Wishes.{wish_of}
use Rattle.run_model.specs.Histories.{is_call_of, part_of}
use Rattle.run_model.specs.Order.{point, seen, tentative}
use Rattle.run_model.specs.Replies.{reply_of}
use Rattle.run_model.specs.Runs.{IsActDue, IsRun}
use Rattle.run_model.specs.Taking.{clock, cover_of, log_of}
use Rattle.run_model.specs.declared.call.Reply.{Reply}
use Rattle.run_model.specs.declared.call.Reply.TheVariants as reply
use Rattle.run_model.specs.declared.call.Request.{Request}
use Rattle.run_model.specs.declared.entry.Act.TheVariants as act
use Rattle.run_model.specs.declared.entry.Entry.{Entry}
use Rattle.run_model.proofs.RunInduction.{IsRun-prefix}
use Rattle.run_model.proofs.Sound.{Sound}
use Rattle.run_model.proofs.SoundRuns.{Sound-run}
use Rattle.run_model.proofs.SoundViews.{Sound-stamps, cover_of-same}
use Rattle.replica_core.specs.Calling.{NamesCause}
use Rattle.replica_core.proofs.Causes.{reply_names_cause}
use Rattle.replica_lock.specs.Sessions.{SessionView, own_calls}
use Rattle.steady_node.specs.Settled.{HasCallMore}

-- a replica of a history, and its part there
module _ (setup : Setup) (history : List Entry) (replica : ℕ) (sound : Sound setup history) where
  abbrev part : List Entry
  part = part_of history replica

  -- no write that it has seen is above its clock
  seen-below : All (λ (write : Write). write.stamp ≤ clock part) (seen setup replica part)
  seen-below =
      let logs = flat_map (log_of replica part) (replicas_of setup) in
      All-permutation (λ (write : Write). write.stamp ≤ clock part) logs (in_order logs) (IsPermutation-in_order logs)
      (All-flat_map (λ (write : Write). write.stamp ≤ clock part) (log_of replica part) (replicas_of setup)
      (λ at d within. Sound-stamps setup history sound replica _))

  -- so none is tentative where the point has come up to the clock
  tentative-none : point setup replica part ≡ clock part → tentative setup replica part ≡ []
  tentative-none up =
      filter_none (λ (write : Write). nat_lt (point setup replica part) write.stamp) (seen setup replica part)
      (All-weaker (λ (write : Write). write.stamp ≤ clock part) (λ (write : Write). nat_lt (point setup replica part) write.stamp ≡ false)
      (λ write below. le-ltb (point setup replica part) write.stamp (omega (arith, below, up))) (seen setup replica part) seen-below)

  -- and where some is tentative, a replica whose cover keeps it so is another one
  order-other : (moment conit named : ℕ)
      → (cover_of replica part moment named).stamp ≡ point setup replica part
      → 0 < order_sum (tentative setup replica part) conit
      → named ≢ replica
  order-other moment conit named stamp some same =
      let own : (cover_of replica part moment named).stamp ≡ clock part =
      ap (λ (k : ℕ). (cover_of replica part moment k).stamp) same ∙ ap (λ (cover : Cover). cover.stamp) (cover_of-same replica part moment) in
      let none : order_sum (tentative setup replica part) conit ≡ 0 =
      ap (λ (writes : List Write). order_sum writes conit) (tentative-none (sym stamp ∙ own)) in
      omega (arith, some, none)

  -- a reply that names its cause waits for another replica, if for one
  named-other : (moment : ℕ) (asked : Request) (given : Reply) (to : ℕ)
      → NamesCause setup replica part moment asked given
      → wish_of given ≡ Some to
      → (to < setup.replicas) × (to ≢ replica)
  named-other moment asked (reply.Done index stamp) to cause is = cc
  named-other moment asked reply.Granted to cause is = cc
  named-other moment asked reply.Released to cause is = cc
  named-other moment asked (reply.Value value sums) to cause is = cc
  named-other moment asked (reply.TooHeavy conit peer weight share) to cause is = cc
  named-other moment asked (reply.WaitHeld conit peer reserved weight share) to cause is = cc
  named-other moment asked (reply.WaitShare conit peer missing reserved weight share) to cause is =
      subst (λ (k : ℕ). (k < setup.replicas) × (k ≢ replica)) (same_Some peer to is) (cause.among, cause.other)
  named-other moment asked (reply.WaitLent conit holder out total num) to cause is =
      subst (λ (k : ℕ). (k < setup.replicas) × (k ≢ replica)) (same_Some holder to is) (cause.0, cause.1)
  named-other moment asked (reply.WaitOrder conit named held order) to cause is =
      subst (λ (k : ℕ). (k < setup.replicas) × (k ≢ replica)) (same_Some named to is)
      (cause.0, order-other moment conit named cause.1 cause.2)
  named-other moment asked (reply.WaitStale conit named late wanted) to cause is =
      subst (λ (k : ℕ). (k < setup.replicas) × (k ≢ replica)) (same_Some named to is) (cause.0, cause.1)
  named-other moment asked (reply.NotHeld conit held weight) to cause is = cc

-- the replica that a due reply names as what it waits for is another one of the setup
wish-other : (setup : Setup) (history : List Entry) (replica moment : ℕ) (asked : Request) (to : ℕ)
    → IsSetup setup
    → replica < setup.replicas
    → IsRun setup history
    → wish_of (reply_of setup replica (part_of history replica) moment asked) ≡ Some to
    → (to < setup.replicas) × (to ≢ replica)
wish-other setup history replica moment asked to is_setup among run =
    named-other setup history replica (Sound-run setup history run) moment asked (reply_of setup replica (part_of history replica) moment asked) to
    (reply_names_cause setup replica (part_of history replica) moment among (HasCounts-from_IsSetup setup is_setup).replicas_low asked)

-- an element stands between others
stands_in : {A : Type 0} (xs : List A) (x : A) → Contains xs x → (front : List A) × (rest : List A) × (xs ≡ front ++ x ∷ rest)
stands_in [] x among = absurd (Contains-none x among)
stands_in {A} (first ∷ xs) x among =
    ⊎_elim
    (λ (here : first ≡ x). ([], xs, ap (λ (y : A). y ∷ xs) here))
    (λ (later : Contains xs x).
    let found = stands_in xs x later in
    (first ∷ found.0, found.1, ap (λ (list : List A). first ∷ list) found.2))
    (Contains-cases first x xs among)

-- so is the one that a call of a run waits for
wish-among : (setup : Setup) (history front rest : List Entry) (call : Entry) (client number : ℕ) (asked : Request) (given : Reply) (to : ℕ)
    → IsSetup setup
    → call.replica < setup.replicas
    → IsRun setup history
    → history ≡ front ++ call ∷ rest
    → call.act ≡ act.Call client number asked given
    → wish_of given ≡ Some to
    → (to < setup.replicas) × (to ≢ call.replica)
wish-among setup history front rest call client number asked given to is_setup among run stands is names =
    let due = subst (IsActDue setup call.replica (part_of front call.replica) call.moment) is (run front rest call stands).due.act in
    wish-other setup front call.replica call.moment asked to is_setup among (IsRun-prefix setup front history (call ∷ rest, stands) run)
    (subst (λ (reply : Reply). wish_of reply ≡ Some to) due.1 names)

-- and the one that a further call of a session waits for
pub wish-more : (setup : Setup) (before after : SessionView) (asked : Request) (given : Reply) (to : ℕ)
    → IsSetup setup
    → after.replica < setup.replicas
    → HasCallMore setup before after asked given
    → wish_of given ≡ Some to
    → (to < setup.replicas) × (to ≢ after.replica)
wish-more setup before after asked given to is_setup among more names =
    let own = λ (entry : Entry). is_call_of after.client entry.act in
    let here = λ (entry : Entry). entry.replica == after.replica in
    let in_part : Contains (part_of after.seen after.replica) more.entry =
    Contains-from_filter own (part_of after.seen after.replica) more.entry
    (subst (λ (calls : List Entry). Contains calls more.entry) (sym more.calls) (Contains-push (own_calls before) more.entry)) in
    let at : more.entry.replica ≡ after.replica =
    eqb-true more.entry.replica after.replica
    (All-contains (λ (entry : Entry). entry.replica == after.replica ≡ true) (part_of after.seen after.replica) more.entry (filter_passes here after.seen) in_part) in
    let found = stands_in after.seen more.entry (Contains-from_filter here after.seen more.entry in_part) in
    subst (λ (replica : ℕ). (to < setup.replicas) × (to ≢ replica)) at
    (wish-among setup after.seen found.0 found.1 more.entry before.client more.number asked given to is_setup
    (subst (λ (replica : ℕ). replica < setup.replicas) (sym at) among) more.run found.2 more.act_is names)
