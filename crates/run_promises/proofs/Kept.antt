-- Every run keeps its promises: the invariants, joined.
use Rattle.std.proofs.Common.{ℕ, List}
use Rattle.tact_base.specs.Setup.{Setup, IsSetup}
use Rattle.run_model.specs.Histories.{part_of, IsPrefix}
use Rattle.run_model.specs.Promises.{IsWithin, IsExact, IsKept}
use Rattle.run_model.specs.Runs.{IsRun, IsPart}
use Rattle.run_model.specs.declared.entry.Entry.{Entry}
use Rattle.run_model.proofs.PartLemmas.{part_of-push_cases}
use Rattle.run_model.proofs.RunInduction.{IsRun-prefix, over_runs}
use Rattle.run_model.proofs.SoundRuns.{Sound-run}
use Rattle.run_model.proofs.Agreement.{IsAgreed-run}
use Rattle.run_promises.proofs.LoansAgree.{LoansAgree-run}
use Rattle.run_promises.proofs.KeepsHome.{KeepsHome-run}
use Rattle.run_promises.proofs.KeepsShares.{KeepsShares, KeepsShares-nil, KeepsShares-push}
use Rattle.run_promises.proofs.Exact.{IsExact-from}
use Rattle.run_promises.proofs.Within.{IsWithin-from}
use Rattle.run_promises.proofs.Fitting.{IsPart-from}
use Rattle.run_promises.proofs.Answered.{IsAnswered-from}

-- what each replica may leave unseen is within its shares
pub KeepsShares-run : (setup : Setup) (history : List Entry)
    → IsRun setup history
    → (replica : ℕ)
    → KeepsShares setup replica (part_of history replica)
KeepsShares-run setup =
    over_runs setup (λ history. (replica : ℕ) → KeepsShares setup replica (part_of history replica)) (KeepsShares-nil setup)
    (λ before entry run lawful keeps.
    part_of-push_cases before entry (KeepsShares setup) (KeepsShares-push setup (part_of before entry.replica) entry lawful.due (keeps entry.replica)) keeps)

pub IsWithin-run : (setup : Setup) (history : List Entry)
    → IsRun setup history
    → IsWithin setup history
IsWithin-run setup history run = IsWithin-from setup history (Sound-run setup history run) (KeepsShares-run setup history run)

pub IsExact-run : (setup : Setup) (history : List Entry)
    → IsSetup setup
    → IsRun setup history
    → IsExact setup history
IsExact-run setup history good run = IsExact-from setup history (LoansAgree-run setup history run) (KeepsHome-run setup history good run) (KeepsShares-run setup history run)

-- Each replica's entries are a part that can be.
pub IsPart-run : (setup : Setup) (history : List Entry)
    → IsRun setup history
    → (replica : ℕ)
    → IsPart setup replica (part_of history replica)
IsPart-run setup = IsPart-from setup (KeepsShares-run setup)

-- Every run is kept.
pub IsKept-run : (setup : Setup) (history : List Entry)
    → IsSetup setup
    → IsRun setup history
    → IsKept setup history
IsKept-run setup history good run =
    let front_runs : (front : List Entry) → IsPrefix front history → IsRun setup front = λ front prefix. IsRun-prefix setup front history prefix run in
    record {
      answered = IsAnswered-from setup history run (λ front prefix.
          let earlier = front_runs front prefix in
          (Sound-run setup front earlier, LoansAgree-run setup front earlier, IsWithin-run setup front earlier));
      agreed = IsAgreed-run setup history run;
      within = λ front prefix. IsWithin-run setup front (front_runs front prefix);
      exact = λ front prefix. IsExact-run setup front good (front_runs front prefix);
    }
