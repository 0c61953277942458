-- The replicas of a setup side by side: when they stand for a history, and what goes on from there.
use Rattle.std.specs.Prelude.{◌≡◌, ℕ, List, [], ◌∷◌, ◌++◌, length, slice_get, Some}
use Rattle.tact_base.specs.Setup.{Setup}
use Rattle.run_model.specs.Histories.{part_of, moment_at}
use Rattle.run_model.specs.declared.entry.Act.{Act}
use Rattle.run_model.specs.declared.entry.Entry.{Entry}
use Rattle.replica_core.specs.States.{Core}
use Rattle.replica_core.specs.Stands.{Stands}

-- a setup, and what each of its replicas keeps, in order of their numbers
pub record SetState : Type 0 where
  pub setup : Setup
  pub cores : List Core

-- what the replica of a number keeps
abbrev pub IsAt : SetState → ℕ → Core → Type 0
IsAt state replica core = slice_get state.cores replica ≡ Some core

-- one of a setup, with a number
pub record IsOneOf (among : Setup) (number : ℕ) (core : Core) : Type 0 where
  pub setup : core.setup ≡ among
  pub replica : core.replica ≡ number

-- each replica of the setup in its place
pub record IsSet (state : SetState) : Type 0 where
  pub sized : length state.cores ≡ state.setup.replicas
  pub each : (replica : ℕ) (core : Core) → IsAt state replica core → IsOneOf state.setup replica core

-- each stands for its part of a history
pub record StandsFor (history : List Entry) (state : SetState) : Type 0 where
  pub is_set : IsSet state
  pub parts : (replica : ℕ) (core : Core) → IsAt state replica core → Stands (part_of history replica) core

-- the entry that a replica makes after a history with an act, at the moment that follows a handed one;
-- and the history with it
abbrev pub entry_of : List Entry → ℕ → ℕ → Act → Entry
entry_of history replica handed done =
    record { replica = replica; moment = moment_at (part_of history replica) handed; act = done }

abbrev pub with_act : List Entry → ℕ → ℕ → Act → List Entry
with_act history replica handed done = history ++ entry_of history replica handed done ∷ []

-- After an act of a replica at a handed moment they stand for each history that they stood for,
-- with the act that it was there.
abbrev pub GoesOn : SetState → SetState → ℕ → ℕ → (List Entry → Act) → Type 0
GoesOn old new replica handed done =
    (history : List Entry) → StandsFor history old → StandsFor (with_act history replica handed (done (part_of history replica))) new

-- a fact about what the replica of a number keeps
abbrev pub HoldsAt : SetState → ℕ → (Core → Type 0) → Type 0
HoldsAt state replica P = (core : Core) → IsAt state replica core → P core
