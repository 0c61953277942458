-- What is answered where the journal refuses to be read.
use Rattle.std.proofs.Common.{◌≡◌, ℕ, ◌-◌, ◌^◌, ◌<◌, ◌≤◌, List, Result, Ok, Err, inl, inr, refl, sym, subst, ◌∙◌, arith}
use Rattle.std.proofs.lemmas.Bool.{cases_lt}
use Rattle.tact_base.specs.Setup.{Setup}
use Rattle.tact_io.specs.Faults.{HasRisen}
use Rattle.tact_io.specs.declared.fault.OutFault.{OutFault}
use Rattle.tact_io.specs.declared.fault.OutFault.TheVariants as out
use Rattle.restart_journal.specs.declared.fault.RecoverFault.{RecoverFault}
use Rattle.restart_journal.specs.declared.fault.RecoverFault.TheVariants as fault
use Rattle.restart_journal.specs.declared.recovered.Recovered.{Recovered}
use Rattle.restart_journal.specs.Recovery.{IsAtPlace, TellsOf}
use Rattle.restart_journal.specs.StepFaults.{read_fault}

-- nothing is said of its pieces then
pub tells_nothing : (setup : Setup) (replica : ℕ) (pieces : List (List ℕ)) (given : OutFault)
    → TellsOf setup replica pieces (Err (read_fault given))
tells_nothing setup replica pieces out.Failed = tt
tells_nothing setup replica pieces out.NoMemory = tt

-- and no place
pub names_no_place : (given : OutFault) → IsAtPlace (read_fault given)
names_no_place out.Failed = tt
names_no_place out.NoMemory = tt

-- a result has one error
pub is_its_fault : {X : Type 0} (result : Result X RecoverFault) (given said : RecoverFault) → result ≡ Err given → result ≡ Err said → given ≡ said
is_its_fault result given said one other = cc

-- a count that rose from a later number rose from an earlier one
rose_from : (before between after : ℕ) → before ≤ between → between ≤ after → HasRisen between after → HasRisen before after
rose_from before between after up more rose =
    elim (cases_lt before after) [
      | inl lt ↦ inl lt
      | inr le ↦ inr (elim rose [
        | inl less ↦ absurd (omega (arith, le, up, less))
        | inr end ↦ omega (arith, le, up, more, end)
      ])
    ]

pub fault_rose : (given : OutFault) (before between after : ℕ)
    → before ≤ between
    → between ≤ after
    → (given ≡ out.Failed → HasRisen between after)
    → read_fault given ≡ fault.JournalReadFault
    → HasRisen before after
fault_rose out.Failed before between after up more failed is = rose_from before between after up more (failed refl)
fault_rose out.NoMemory before between after up more failed is = absurd cc
