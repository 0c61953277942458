-- What a set stands for goes on being a run, with each entry that it makes.
use Rattle.std.proofs.Common.{◌≡◌, ℕ, ◌<◌, List, [], ◌∷◌, ◌++◌, length, get_or, Some, refl, subst, arith}
use Rattle.std.specs.List.{slice_get}
use Rattle.std.proofs.lemmas.Option.{slice_get-get_or}
use Rattle.run_model.specs.Histories.{part_of}
use Rattle.run_model.specs.Runs.{IsDue, MayFollow, IsPart, WasSent, IsLawful, IsRun}
use Rattle.run_model.specs.declared.entry.Entry.{Entry}
use Rattle.run_model.proofs.PartLemmas.{part_of-push_same}
use Rattle.run_model.proofs.PrefixLemmas.{EachAfter-push, EachAfter-last}
use Rattle.replica_core.specs.States.{Core}
use Rattle.replica_set.specs.Sets.{SetState, IsAt, IsSet, StandsFor}

there : (cores : List Core) (place : ℕ)
    → place < length cores
    → (core : Core) × (slice_get cores place ≡ Some core)
there [] place within = absurd (omega arith)
there (core ∷ cores) place within = (get_or (core ∷ cores) place core, slice_get-get_or (core ∷ cores) place core within)

-- there is a core for each replica
pub core_there : (state : SetState) (replica : ℕ)
    → IsSet state
    → replica < state.setup.replicas
    → (core : Core) × IsAt state replica core
core_there state replica set within = there state.cores replica (omega (arith, set.sized, within))

-- The last entry of what a set stands for is due.
module _ (history : List Entry) (entry : Entry) (state : SetState) (stands : StandsFor (history ++ entry ∷ []) state) (within : entry.replica < state.setup.replicas) where
  pub last_is_due : IsDue state.setup (part_of history entry.replica) entry
  last_is_due =
      let found = core_there state entry.replica stands.is_set within in
      let core = found.0 in
      let one = stands.is_set.each entry.replica core found.1 in
      let part : IsPart core.setup core.replica (part_of history entry.replica ++ entry ∷ []) =
      subst (IsPart core.setup core.replica) (part_of-push_same history entry entry.replica refl) (stands.parts entry.replica core found.1).is_part in
      subst (λ s. IsDue s (part_of history entry.replica) entry) one.setup (EachAfter-last (MayFollow core.setup core.replica) (part_of history entry.replica) entry part).1

  pub run_goes_on : IsRun state.setup history → WasSent history entry.act → IsRun state.setup (history ++ entry ∷ [])
  run_goes_on run sent = EachAfter-push (IsLawful state.setup) history entry run (record { due = last_is_due; sent = sent })
