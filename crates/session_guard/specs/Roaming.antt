-- What steps of roaming clients make, one after another: the entries of the replicas, the passes, and what each step
-- answered.
use Rattle.std.specs.Prelude.{◌≢◌, ℕ, ◌<◌, List, [], ◌∷◌, ◌++◌, fold, length, replicate, slice_index_or, slice_set, Option, None, Some}
use Rattle.tact_base.specs.Setup.{Setup}
use Rattle.run_model.specs.Histories.{moment_at, part_of, sent_in}
use Rattle.run_model.specs.Ranges.{IsRequestInRange}
use Rattle.run_model.specs.Replies.{reply_of}
use Rattle.run_model.specs.declared.call.Request.{Request}
use Rattle.run_model.specs.declared.entry.Entry.{Entry}
use Rattle.replica_network.specs.Networks.{NetworkState, after_call, after_send, after_take}
use Rattle.session_guard.specs.Passes.{PassState, fresh_pass, haves_of, lack_of, pass_after}
use Rattle.session_guard.specs.Visits.{IsWriteOrRead}
use Rattle.session_guard.specs.declared.steps.Handed.{Handed}
use Rattle.session_guard.specs.declared.steps.Outcome.{Outcome}
use Rattle.session_guard.specs.declared.steps.Outcome.TheVariants.{Moved, Visited}
use Rattle.session_guard.specs.declared.steps.Step.{Step}
use Rattle.session_guard.specs.declared.steps.Step.TheVariants as step
use Rattle.session_guard.specs.declared.steps.Visit.{Visit}
use Rattle.session_guard.specs.declared.steps.Visit.TheVariants.{Answered}

-- the entries, the passes by number, and the outcomes of the steps
pub record Roamed : Type 0 where
  pub entries : List Entry
  pub passes : List PassState
  pub outcomes : List Outcome

-- so many passes with which nothing was done
abbrev pub not_roamed : Setup → ℕ → Roamed
not_roamed setup passes = record { entries = []; passes = replicate passes (fresh_pass setup.replicas); outcomes = [] }

-- the replicas with what they did
abbrev pub network_in : Setup → Roamed → NetworkState
network_in setup before = record { setup = setup; entries = before.entries }

abbrev pub pass_at : List PassState → ℕ → PassState
pass_at passes pass = slice_index_or passes pass (fresh_pass 0)

-- a visit that is kept away makes no entry; another one makes the call that is due, and its reply changes the pass
abbrev pub visited : Setup → Roamed → ℕ → ℕ → ℕ → Request → Option Visit → Roamed
visited setup before moment pass replica request (Some lack) = record before { outcomes = before.outcomes ++ Visited lack ∷ [] }
visited setup before moment pass replica request None =
    let part = part_of before.entries replica in
    let given = reply_of setup replica part (moment_at part moment) request in
    record {
      entries = (after_call (network_in setup before) moment replica pass request).entries;
      passes = slice_set before.passes pass (pass_after (haves_of setup replica part) replica (pass_at before.passes pass) given);
      outcomes = before.outcomes ++ Visited (Answered given) ∷ [];
    }

-- a sending or a taking makes an entry
abbrev pub moved : Roamed → NetworkState → Roamed
moved before network = record before { entries = network.entries; outcomes = before.outcomes ++ Moved ∷ [] }

-- one more step
abbrev pub stepped : Setup → Roamed → ℕ → Step → Roamed
stepped setup before moment (step.Visit pass replica request) =
    visited setup before moment pass replica request (lack_of (haves_of setup replica (part_of before.entries replica)) (pass_at before.passes pass))
stepped setup before moment (step.Send from to) = moved before (after_send (network_in setup before) moment from to)
stepped setup before moment (step.Take message) = moved before (after_take (network_in setup before) moment message)

abbrev pub after_step : Setup → Roamed → Handed → Roamed
after_step setup before handed = stepped setup before handed.moment handed.step

-- all steps, one after another
abbrev pub roamed : Setup → ℕ → List Handed → Roamed
roamed setup passes steps = fold (after_step setup) (not_roamed setup passes) steps

-- a step that may follow entries: of passes and replicas that there are, a write or a read, a sending to another one, a
-- taking of what was sent
abbrev pub MayStep : Setup → ℕ → List Entry → Step → Type 0
MayStep setup passes entries (step.Visit pass replica request) =
    (pass < passes) × (replica < setup.replicas) × IsRequestInRange setup request × IsWriteOrRead request
MayStep setup passes entries (step.Send from to) = (from < setup.replicas) × (to < setup.replicas) × (to ≢ from)
MayStep setup passes entries (step.Take message) = message < length (sent_in entries)
