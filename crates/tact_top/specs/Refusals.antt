-- Why a command makes nothing of an input.
use Rattle.std.specs.Prelude.{ℕ, List}
use Rattle.run_model.specs.declared.status.InputKind.{InputKind}
use Rattle.run_model.specs.declared.status.InputKind.TheVariants as input
use Rattle.run_record.specs.declared.fault.RecordFault.{RecordFault}
use Rattle.run_record.specs.declared.fault.RecordFault.TheVariants as fault
use Rattle.tact_top.specs.declared.job.Refusal.{Refusal}
use Rattle.tact_top.specs.declared.job.Refusal.TheVariants.{Bad, NoMemory}

-- the input has this fault, or memory ran out
abbrev pub IsRefusalBy : (List ℕ → ℕ → InputKind → Type 0) → List ℕ → Refusal → Type 0
IsRefusalBy Faults input (Bad place kind) = Faults input place kind
IsRefusalBy Faults input NoMemory = Unit {0}

-- the fault of a record's text or bytes as one of an input
abbrev pub refusal_of : RecordFault → Refusal
refusal_of (fault.Text place kind) = Bad place (input.Line kind)
refusal_of (fault.Bytes place kind) = Bad place (input.Bytes kind)
refusal_of fault.NoMemory = NoMemory
