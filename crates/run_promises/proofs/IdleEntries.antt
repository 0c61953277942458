-- An entry that accepts and takes nothing leaves the writes and the covers of each replica as they were, and so all
-- that is measured by them.
use Rattle.std.proofs.Common.{◌≡◌, ℕ, ◌==◌, cond, nat_le, unsigned_abs, ◌-ℤ◌, List, [], ◌∷◌, ◌++◌, length, filter, All, None, refl, ap, ap₂, ◌∙◌}
use Rattle.tact_base.proofs.ListLemmas.{flat_map_agree, map_agree}
use Rattle.tact_base.specs.Covers.{least_stamp}
use Rattle.tact_base.specs.Sums.{net_sum, order_sum}
use Rattle.tact_base.specs.WriteOrder.{in_order, tentative_past}
use Rattle.tact_base.specs.declared.write.Write.{Write}
use Rattle.tact_base.specs.Setup.{Setup, replicas_of, peers_of}
use Rattle.run_model.specs.Histories.{part_of}
use Rattle.run_model.specs.OwnWrites.{own}
use Rattle.run_model.specs.Taking.{OriginState, origin_state, log_of, clock, cover_of, covers_of}
use Rattle.run_model.specs.Order.{seen, tentative}
use Rattle.run_model.specs.Reference.{all_writes, unseen, num_error, order_error, unseen_by}
use Rattle.run_model.specs.declared.entry.Entry.{Entry}
use Rattle.run_model.proofs.PartLemmas.{accepted_in, taken_by, part_of-push_cases, own-push_none, origin_state-push_none}
use Rattle.run_model.proofs.ClockLemmas.{clock-push_none}

-- what agrees for each number agrees over a range and over the peers
all-numbers : {Y : Type 0} (f g : ℕ → Y)
    → ((i : ℕ) → f i ≡ g i)
    → (xs : List ℕ)
    → All (λ i. f i ≡ g i) xs
all-numbers f g same xs k d within = same _

module _ (setup : Setup) (history : List Entry) (entry : Entry) (accepts : accepted_in entry ≡ None) (takes : taken_by entry ≡ None) where
  abbrev further : List Entry
  further = history ++ entry ∷ []

  pub idle-own : (replica : ℕ) → own (part_of further replica) ≡ own (part_of history replica)
  idle-own =
      part_of-push_cases history entry (λ r part. own part ≡ own (part_of history r)) (own-push_none (part_of history entry.replica) entry accepts) (λ r. refl)

  idle-keeping : (origin replica : ℕ)
      → origin_state (part_of further replica) origin ≡ origin_state (part_of history replica) origin
  idle-keeping origin =
      part_of-push_cases history entry (λ r part. origin_state part origin ≡ origin_state (part_of history r) origin)
      (origin_state-push_none (part_of history entry.replica) entry origin takes) (λ r. refl)

  idle-clock : (replica : ℕ) → clock (part_of further replica) ≡ clock (part_of history replica)
  idle-clock =
      part_of-push_cases history entry (λ r part. clock part ≡ clock (part_of history r)) (clock-push_none (part_of history entry.replica) entry accepts takes) (λ r. refl)

  pub idle-log_of : (replica origin : ℕ)
      → log_of replica (part_of further replica) origin ≡ log_of replica (part_of history replica) origin
  idle-log_of replica origin =
      ap₂ (λ (own_log : List Write) (kept : OriginState). cond (origin == replica) own_log kept.log) (idle-own replica) (idle-keeping origin replica)

  idle-cover_of : (replica at origin : ℕ)
      → cover_of replica (part_of further replica) at origin ≡ cover_of replica (part_of history replica) at origin
  idle-cover_of replica at origin =
      ap₂ (λ (own_log : List Write) (kept : OriginState). cond (origin == replica) (record { count = length own_log; stamp = clock (part_of_replica replica); moment = at }) kept.cover)
      (idle-own replica) (idle-keeping origin replica)
      ∙ ap (λ stamp. cond (origin == replica) (record { count = length (own (part_of history replica)); stamp = stamp; moment = at })
      (origin_state (part_of history replica) origin).cover) (idle-clock replica)
    where
      part_of_replica : ℕ → List Entry
      part_of_replica replica = part_of further replica

  idle-covers_of : (replica at : ℕ)
      → covers_of setup replica (part_of further replica) at ≡ covers_of setup replica (part_of history replica) at
  idle-covers_of replica at =
      map_agree (cover_of replica (part_of further replica) at) (cover_of replica (part_of history replica) at) (replicas_of setup)
      (all-numbers (cover_of replica (part_of further replica) at) (cover_of replica (part_of history replica) at) (idle-cover_of replica at) (replicas_of setup))

  pub idle-seen : (replica : ℕ)
      → seen setup replica (part_of further replica) ≡ seen setup replica (part_of history replica)
  idle-seen replica =
      ap in_order (flat_map_agree (log_of replica (part_of further replica)) (log_of replica (part_of history replica)) (replicas_of setup)
      (all-numbers (log_of replica (part_of further replica)) (log_of replica (part_of history replica)) (idle-log_of replica) (replicas_of setup)))

  idle-tentative : (replica : ℕ)
      → tentative setup replica (part_of further replica) ≡ tentative setup replica (part_of history replica)
  idle-tentative replica = ap₂ tentative_past (ap least_stamp (idle-covers_of replica 0)) (idle-seen replica)

  pub idle-all_writes : all_writes setup further ≡ all_writes setup history
  idle-all_writes =
      flat_map_agree (λ r. own (part_of further r)) (λ r. own (part_of history r)) (replicas_of setup)
      (all-numbers (λ r. own (part_of further r)) (λ r. own (part_of history r)) idle-own (replicas_of setup))

  idle-unseen : (origin replica : ℕ)
      → unseen further origin replica ≡ unseen history origin replica
  idle-unseen origin replica =
      ap₂ (λ (log writes : List Write). filter (λ (w : Write). nat_le (length log) w.index) writes) (idle-log_of replica origin) (idle-own origin)

  -- the three errors are as they were
  pub idle-num_error : (replica conit : ℕ)
      → num_error setup further replica conit ≡ num_error setup history replica conit
  idle-num_error replica conit =
      ap₂ (λ (all here : List Write). unsigned_abs (net_sum all conit -ℤ net_sum here conit)) idle-all_writes (idle-seen replica)

  pub idle-order_error : (replica conit : ℕ)
      → order_error setup further replica conit ≡ order_error setup history replica conit
  idle-order_error replica conit = ap (λ (writes : List Write). order_sum writes conit) (idle-tentative replica)

  pub idle-unseen_by : (replica : ℕ)
      → unseen_by setup further replica ≡ unseen_by setup history replica
  idle-unseen_by replica =
      flat_map_agree (λ origin. unseen further origin replica) (λ origin. unseen history origin replica) (peers_of setup replica)
      (all-numbers (λ origin. unseen further origin replica) (λ origin. unseen history origin replica) (λ origin. idle-unseen origin replica) (peers_of setup replica))
