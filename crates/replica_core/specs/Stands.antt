-- When a replica stands for a part, and what goes on from there.
use Rattle.std.specs.Prelude.{◌≡◌, ◌≢◌, true, false, ℕ, ◌+◌, ◌*◌, ◌<◌, ◌≤◌, List, [], ◌∷◌, ◌++◌, map, drop, length, slice_index}
use Rattle.tact_base.specs.Setup.{Setup, replicas_of}
use Rattle.tact_base.specs.declared.limits.TheConstants.{CLIENTS}
use Rattle.run_model.specs.Histories.{sent_in, calls_in, last_moment, moment_at}
use Rattle.run_model.specs.Loans.{lent, returned, lent_known, returned_known}
use Rattle.run_model.specs.Missing.{reserved}
use Rattle.run_model.specs.Order.{seen, point}
use Rattle.run_model.specs.OwnWrites.{own}
use Rattle.run_model.specs.Runs.{IsPart}
use Rattle.run_model.specs.Taking.{log_of, cover_of, clock, known}
use Rattle.run_model.specs.declared.entry.Act.{Act}
use Rattle.run_model.specs.declared.entry.Entry.{Entry}
use Rattle.split_budget.specs.Budgets.{BudgetState, reserved_on, lent_to, returned_by, lent_by, returned_to}
use Rattle.replica_core.specs.Dropped.{dropped, dropped_of}
use Rattle.replica_core.specs.States.{Core, WritesKept, CountsKept, is_full}
use Rattle.replica_core.specs.declared.fault.CoreFault.{CoreFault}
use Rattle.replica_core.specs.declared.fault.CoreFault.TheVariants as fault

-- what is kept of writes is what the definitions say of a part of a replica
pub record WritesStand (setup : Setup) (replica : ℕ) (part : List Entry) (kept : WritesKept) : Type 0 where
  pub bases : kept.bases ≡ map (dropped_of setup replica part) (replicas_of setup)
  pub logs : kept.logs ≡ map (log_of replica part) (replicas_of setup)
  pub covers : kept.covers ≡ map (cover_of replica part (last_moment part)) (replicas_of setup)
  pub known : (peer origin : ℕ) → peer < setup.replicas → origin < setup.replicas
      → slice_index kept.known (peer * setup.replicas + origin) ≡ known part peer origin
  pub seen : kept.seen ≡ seen setup replica part
  pub dropped : kept.dropped ≡ dropped setup replica part
  pub point : kept.point ≡ point setup replica part
  pub clock : kept.clock ≡ clock part

-- for each peer on each conit a kept number is the defined one
abbrev pub AreByPeer : Setup → ℕ → (ℕ → ℕ → ℕ) → (ℕ → ℕ → ℕ) → Type 0
AreByPeer setup replica kept defined =
    (peer conit : ℕ) → peer < setup.replicas → peer ≢ replica → conit < setup.conits → kept peer conit ≡ defined peer conit

-- So are the budgets: of the own writes that aren't given up their weights, how many own writes a peer is known to
-- have, what is reserved, and what is lent and given back. What is given up each peer is known to have.
pub record BudgetsStand (setup : Setup) (replica : ℕ) (part : List Entry) (budgets : BudgetState) : Type 0 where
  pub given_up : budgets.given_up ≤ length (own part)
  pub had : (peer : ℕ) → peer < setup.replicas → peer ≢ replica → budgets.given_up ≤ known part peer replica
  pub weights : budgets.weights ≡ drop budgets.given_up (map (λ write. write.weights) (own part))
  pub known : (peer : ℕ) → peer < setup.replicas → peer ≢ replica → slice_index budgets.known peer ≡ known part peer replica
  pub reserved : (conit : ℕ) → conit < setup.conits → reserved_on budgets conit ≡ reserved part conit
  pub lent : AreByPeer setup replica (lent_to budgets) (lent setup replica part)
  pub lent_known : AreByPeer setup replica (lent_by budgets) (lent_known setup replica part)
  pub returned : AreByPeer setup replica (returned_to budgets) (returned part)
  pub returned_known : AreByPeer setup replica (returned_by budgets) (returned_known part)

-- and the counts
pub record CountsStand (part : List Entry) (kept : CountsKept) : Type 0 where
  pub calls : (client : ℕ) → client < CLIENTS → slice_index kept.calls client ≡ calls_in part client
  pub sends : kept.sends ≡ length (sent_in part)
  pub count : kept.count ≡ length part
  pub last : kept.last ≡ last_moment part

-- A replica stands for a part that can be: whatever it keeps is what the definitions say of the part.
pub record Stands (part : List Entry) (core : Core) : Type 0 where
  pub is_part : IsPart core.setup core.replica part
  pub writes : WritesStand core.setup core.replica part core.writes
  pub budgets : BudgetsStand core.setup core.replica part core.budgets
  pub counts : CountsStand part core.counts

-- a part with one more entry of its replica, at the moment that follows a handed one
abbrev pub with_act : ℕ → List Entry → ℕ → Act → List Entry
with_act replica part handed done = part ++ record { replica = replica; moment = moment_at part handed; act = done } ∷ []

-- After an act at a handed moment the replica stands for each part that it stood for, with the act that it was there.
abbrev pub GoesOn : Core → Core → ℕ → (List Entry → Act) → Type 0
GoesOn old new handed done = (part : List Entry) → Stands part old → Stands (with_act old.replica part handed (done part)) new

-- it is the same replica of the same setup
abbrev pub IsSameReplica : Core → Core → Type 0
IsSameReplica old new = (new.setup ≡ old.setup) × (new.replica ≡ old.replica)

-- what a refusal says: full, with both numbers, exactly where the replica is full
abbrev pub IsFaultOf : Core → CoreFault → Type 0
IsFaultOf core (fault.Full count clock) = (is_full core ≡ true) × (count ≡ core.counts.count) × (clock ≡ core.writes.clock)
IsFaultOf core fault.NoMemory = is_full core ≡ false
