-- What a reader of a part answers that may want memory.
use Rattle.std.specs.Prelude.{◌≡◌, ℕ, List, ◌++◌, Result, Ok, Err}
use Rattle.run_model.specs.Bytes.{◌>>=◌, Field}
use Rattle.run_record.specs.declared.fault.PartFault.{PartFault}
use Rattle.run_record.specs.declared.fault.PartFault.TheVariants as part

-- a fault is that of a reader, or want of memory
abbrev pub IsFaultOf : {A : Type 0} → Field A → PartFault → Type 0
IsFaultOf read (part.Field fault) = read ≡ Err fault
IsFaultOf read part.NoMemory = Unit {0}

-- the answer is what a reader reads or its fault, or want of memory
abbrev pub TellsPart : {A : Type 0} → Field A → Result (A × ℕ) PartFault → Type 0
TellsPart read (Ok found) = read ≡ Ok found
TellsPart read (Err fault) = IsFaultOf read fault

-- what is read, behind what there was
abbrev pub behind : {A : Type 0} → List A → Field (List A) → Field (List A)
behind front read = read >>= λ found. Ok (front ++ found.0, found.1)
