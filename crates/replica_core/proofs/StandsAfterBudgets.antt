-- An entry that changes budgets and no writes: the replica stands for its part with the entry, whatever it counts.
use Rattle.std.proofs.Common.{◌≡◌, ℕ, ◌≤◌, false, List, [], ◌∷◌, ◌++◌, length, None, refl}
use Rattle.tact_base.specs.declared.limits.TheConstants.{CLIENTS, MOMENT_MAX}
use Rattle.run_model.specs.Histories.{moment_at, taken_by_act}
use Rattle.run_model.specs.OwnWrites.{accepted_by}
use Rattle.run_model.specs.Runs.{IsDue, FitsIfTaken}
use Rattle.run_model.specs.declared.entry.Act.{Act}
use Rattle.run_model.specs.declared.entry.Entry.{Entry}
use Rattle.split_budget.specs.Budgets.{BudgetState}
use Rattle.replica_core.specs.States.{Core, CountsKept, HasPlaces, entered, is_full}
use Rattle.replica_core.specs.Stands.{Stands, BudgetsStand}
use Rattle.replica_core.proofs.StandsAfterEntry.{AreCountsReady, Stands-entered}
use Rattle.replica_core.proofs.DueEntries.{entry_of, goes_on, has_grown}
use Rattle.replica_core.proofs.QuietEntries.{AreWritesReady-quiet}

module _ (part : List Entry) (core : Core) (stands : Stands part core) (free : is_full core ≡ false) (places : HasPlaces core) (handed : ℕ) (handed_in : handed ≤ MOMENT_MAX) where
  pub Stands-budgeted : (done : Act) (budgets : BudgetState) (counts : CountsKept)
      → IsDue core.setup part (entry_of core.replica part handed done)
      → FitsIfTaken core.setup core.replica part done
      → accepted_by core.replica (moment_at part handed) done ≡ None
      → taken_by_act done ≡ None
      → BudgetsStand core.setup core.replica (part ++ entry_of core.replica part handed done ∷ []) budgets
      → length counts.calls ≡ CLIENTS
      → AreCountsReady part (entry_of core.replica part handed done) counts
      → Stands (part ++ entry_of core.replica part handed done ∷ []) (entered (record core { budgets = budgets; counts = counts }) handed)
  Stands-budgeted done budgets counts due fits accepts takes budgeted sized ready =
      let entry = entry_of core.replica part handed done in
      let after : Core = record core { budgets = budgets; counts = counts } in
      let placed : HasPlaces after =
      record { among = places.among; bases_sized = places.bases_sized; logs_sized = places.logs_sized; covers_sized = places.covers_sized; known_sized = places.known_sized; calls_sized = sized } in
      Stands-entered part entry after handed
      (record {
        before = stands.is_part;
        is_part = goes_on part core stands free places.among handed handed_in done due fits;
        grows = has_grown part core stands free places.among handed handed_in done due;
        writes = AreWritesReady-quiet part entry after stands.writes placed accepts takes;
        budgets = budgeted;
        counts = ready;
      }) refl placed takes
