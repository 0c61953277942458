-- Induction over runs, entry by entry.
use Rattle.std.proofs.Common.{List, [], ◌∷◌, ◌++◌}
use Rattle.tact_base.proofs.ListLemmas.{from_right}
use Rattle.tact_base.specs.Setup.{Setup}
use Rattle.run_model.specs.Histories.{IsPrefix}
use Rattle.run_model.specs.Runs.{IsLawful, IsRun}
use Rattle.run_model.specs.declared.entry.Entry.{Entry}
use Rattle.run_model.proofs.PrefixLemmas.{IsPrefix-append, EachAfter-prefix, EachAfter-last}

-- a history that a run begins with is a run
pub IsRun-prefix : (setup : Setup) (front history : List Entry)
    → IsPrefix front history
    → IsRun setup history
    → IsRun setup front
IsRun-prefix setup front history prefix run = EachAfter-prefix (IsLawful setup) front history prefix run

-- what holds of the empty history, and goes on to hold after each entry that is lawful after a run, holds of every run
pub over_runs : (setup : Setup) (P : List Entry → Type 0)
    → P []
    → ((before : List Entry) (entry : Entry) → IsRun setup before → IsLawful setup before entry → P before → P (before ++ entry ∷ []))
    → (history : List Entry)
    → IsRun setup history
    → P history
over_runs setup P start more history = from_right (λ history. IsRun setup history → P history)
    (λ run. start)
    (λ before entry holds run.
    let earlier = IsRun-prefix setup before (before ++ entry ∷ []) (IsPrefix-append before (entry ∷ [])) run in
    more before entry earlier (EachAfter-last (IsLawful setup) before entry run) (holds earlier))
    history
