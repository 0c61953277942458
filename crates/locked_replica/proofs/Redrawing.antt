-- An entry that a journal gave back, and what it changes behind the lock.
use Rattle.std.proofs.Common.{◌≡◌, ℕ, ◌+◌, ◌*◌, ◌<◌, ◌^◌, List, [], ◌∷◌, ◌++◌, drop, get_or, set, sum, refl, sym, ap, ◌∙◌, subst, arith}
use Rattle.tact_base.specs.Setup.{Setup, IsSetup}
use Rattle.tact_base.specs.declared.limits.TheConstants.{CLIENTS}
use Rattle.tact_base.proofs.SetupLemmas.{HasCounts-from_IsSetup}
use Rattle.run_model.specs.Histories.{part_of}
use Rattle.run_model.specs.Missing.{reserved}
use Rattle.run_model.specs.Ranges.{IsActInRange, IsRequestInRange}
use Rattle.run_model.specs.Runs.{IsDue, MayFollow, WasSent}
use Rattle.run_model.specs.declared.call.Request.{Request}
use Rattle.run_model.specs.declared.call.Request.TheVariants as request
use Rattle.run_model.specs.declared.entry.Act.{Act}
use Rattle.run_model.specs.declared.entry.Act.TheVariants as act
use Rattle.run_model.specs.declared.entry.Entry.{Entry}
use Rattle.run_model.proofs.PrefixLemmas.{EachAfter-last}
use Rattle.replica_core.specs.States.{Core}
use Rattle.replica_core.specs.Stands.{IsSameReplica, Stands}
use Rattle.locked_replica.specs.Asking.{conit_of}
use Rattle.locked_replica.specs.Locks.{IsLocked, LockedView, made_place, one_more_at, part_in, turns_place}
use Rattle.locked_replica.specs.Restarting.{HasTotalsWith, IsCallOf, IsNoCall}
use Rattle.locked_replica.proofs.Entering.{IsCallOn, call-at, goes_on-due, has_room}
use Rattle.locked_replica.proofs.Making.{IsQuietAct, quiet-back, quiet-lend, quiet-restart, quiet-send, quiet-take}

-- an act that is no call is quiet
pub quiet-other : (done : Act) → IsNoCall done → IsQuietAct done
quiet-other (act.Call client number asked given) none = absurd none
quiet-other (act.Send message) none = quiet-send message
quiet-other (act.Take message) none = quiet-take message
quiet-other (act.Lend to conit amount) none = quiet-lend to conit amount
quiet-other (act.Back owner conit amount) none = quiet-back owner conit amount
quiet-other act.Restart none = quiet-restart

-- a call of a client on a conit is one, takes no message, and is within a setup
module _ (client conit : ℕ) where
  pub call-of : (done : Act) → IsCallOf client conit done → IsCallOn client conit done
  call-of (act.Call who number asked given) is =
      subst (λ at. IsCallOn client at (act.Call who number asked given)) is.1
      (subst (λ one. IsCallOn one (conit_of asked) (act.Call who number asked given)) is.0 (call-at who number asked given))
  call-of (act.Send message) is = absurd is
  call-of (act.Take message) is = absurd is
  call-of (act.Lend to at amount) is = absurd is
  call-of (act.Back owner at amount) is = absurd is
  call-of act.Restart is = absurd is

  pub sent-call : (seen : List Entry) (done : Act) → IsCallOf client conit done → WasSent seen done
  sent-call seen (act.Call who number asked given) is = tt
  sent-call seen (act.Send message) is = absurd is
  sent-call seen (act.Take message) is = absurd is
  sent-call seen (act.Lend to at amount) is = absurd is
  sent-call seen (act.Back owner at amount) is = absurd is
  sent-call seen act.Restart is = absurd is

  pub totals-call : (before after : LockedView) (done : Act)
      → IsCallOf client conit done
      → after.totals ≡ set (one_more_at (made_place before.core.setup.conits client) (one_more_at (turns_place before.core.setup.conits client) before.totals))
      conit (reserved (part_in after) conit)
      → HasTotalsWith before after done
  totals-call before after (act.Call who number asked given) is totals =
      let at = sym is.1 in
      let one = sym is.0 in
      subst (λ k. after.totals ≡ set (one_more_at (made_place before.core.setup.conits who) (one_more_at (turns_place before.core.setup.conits who) before.totals)) k (reserved (part_in after) k)) at
      (subst (λ w. after.totals ≡ set (one_more_at (made_place before.core.setup.conits w) (one_more_at (turns_place before.core.setup.conits w) before.totals)) conit (reserved (part_in after) conit)) one totals)
  totals-call before after (act.Send message) is totals = absurd is
  totals-call before after (act.Take message) is totals = absurd is
  totals-call before after (act.Lend to at amount) is totals = absurd is
  totals-call before after (act.Back owner at amount) is totals = absurd is
  totals-call before after act.Restart is totals = absurd is

  -- its client and its conit are the setup's
  conit-in_range : (setup : Setup) (asked : Request) → IsSetup setup → IsRequestInRange setup asked → conit_of asked < setup.conits
  conit-in_range setup (request.Write weights op) sound within = (HasCounts-from_IsSetup setup sound).conits_low
  conit-in_range setup (request.Read key needs) sound within = (HasCounts-from_IsSetup setup sound).conits_low
  conit-in_range setup (request.Held weight op) sound within = within.0.conit
  conit-in_range setup (request.Reserve at amount) sound within = within.0
  conit-in_range setup (request.Release at amount) sound within = within.0

  pub call-in_range : (setup : Setup) (replica : ℕ) (done : Act)
      → IsSetup setup
      → IsCallOf client conit done
      → IsActInRange setup replica done
      → (client < CLIENTS) × (conit < setup.conits)
  call-in_range setup replica (act.Call who number asked given) sound is within =
      (omega (arith, is.0, within.0), omega (arith, is.1, conit-in_range setup asked sound within.1))
  call-in_range setup replica (act.Send message) sound is within = absurd is
  call-in_range setup replica (act.Take message) sound is within = absurd is
  call-in_range setup replica (act.Lend to at amount) sound is within = absurd is
  call-in_range setup replica (act.Back owner at amount) sound is within = absurd is
  call-in_range setup replica act.Restart sound is within = absurd is

pub totals-other : (before after : LockedView) (done : Act)
    → IsNoCall done
    → after.totals ≡ one_more_at (made_place before.core.setup.conits 0) before.totals
    → HasTotalsWith before after done
totals-other before after (act.Call client number asked given) none totals = absurd none
totals-other before after (act.Send message) none totals = totals
totals-other before after (act.Take message) none totals = totals
totals-other before after (act.Lend to conit amount) none totals = totals
totals-other before after (act.Back owner conit amount) none totals = totals
totals-other before after act.Restart none totals = totals

-- a replica that stands for the same part may stand in the place of another
pub IsLocked-again : (before : LockedView) (core : Core) (spare beside : ℕ)
    → IsLocked before
    → IsSameReplica before.core core
    → Stands (part_in before) core
    → IsLocked (record before { core = core; spare = spare; beside = beside })
IsLocked-again before core spare beside kept same stands =
    let width : core.setup.conits ≡ before.core.setup.conits = ap (λ (s : Setup). s.conits) same.0 in
    record {
      replica = kept.replica ∙ sym same.1;
      stands = stands;
      drawn = kept.drawn;
      own = ap (part_of before.clerk.seen) same.1 ∙ kept.own;
      places = kept.places ∙ ap (λ n. n + 2 * CLIENTS) (sym width);
      allowances = λ conit within. kept.allowances conit (omega (arith, within, width));
      turns = λ client within. ap (λ n. get_or before.totals (turns_place n client) 0) width ∙ kept.turns client within;
      made = ap (λ n. sum (drop (n + CLIENTS) before.totals)) width ∙ kept.made;
    }

-- A replica that stands for its part with one more entry.
module _ (before : LockedView) (core : Core) (entry : Entry) (kept : IsLocked before) (same : IsSameReplica before.core core) (stands : Stands (part_in before ++ entry ∷ []) core) where
  pub given-follows : MayFollow core.setup core.replica (part_in before) entry
  given-follows = EachAfter-last (MayFollow core.setup core.replica) (part_in before) entry stands.is_part

  -- it may be drawn
  pub given-due : (setup : Setup) → before.core.setup ≡ setup → IsDue setup (part_in before) entry
  given-due setup of_setup = goes_on-due setup (part_in before) entry core (sym of_setup ∙ sym same.0) stands

  pub given-replica : entry.replica ≡ before.core.replica
  given-replica = given-follows.0 ∙ same.1

  -- and there is room in the totals
  pub given-room : (client : ℕ) → client < CLIENTS
      → (get_or before.totals (turns_place before.core.setup.conits client) 0 + 1 < 2 ^ 64)
      × (get_or before.totals (made_place before.core.setup.conits client) 0 + 1 < 2 ^ 64)
  given-room client among = has_room before client kept among given-follows.1.room

  -- a call is within the setup
  pub given-call : (client conit : ℕ) → IsSetup before.core.setup → IsCallOf client conit entry.act → (client < CLIENTS) × (conit < before.core.setup.conits)
  given-call client conit sound is =
      call-in_range client conit before.core.setup entry.replica entry.act sound is (given-due before.core.setup refl).in_range.act
