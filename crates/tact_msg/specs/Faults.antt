-- What a reader answers that may want memory.
use Rattle.std.specs.Prelude.{◌≡◌, ℕ, List, ◌++◌, Result, Ok, Err}
use Rattle.run_model.specs.declared.fields.FieldFault.{FieldFault}
use Rattle.run_model.specs.declared.fields.FieldFault.TheVariants as field
use Rattle.run_model.specs.Bytes.{◌>>=◌, Field}
use Rattle.tact_msg.specs.declared.fault.MsgFault.{MsgFault}
use Rattle.tact_msg.specs.declared.fault.MsgFault.TheVariants as fault

-- the same fault
abbrev pub of_field : FieldFault → MsgFault
of_field field.Short = fault.Short
of_field (field.BadField place) = fault.BadField place

-- a fault is that of a reader, or want of memory
abbrev pub IsFaultOf : {A : Type 0} → Field A → MsgFault → Type 0
IsFaultOf read fault.Short = read ≡ Err field.Short
IsFaultOf read (fault.BadField place) = read ≡ Err (field.BadField place)
IsFaultOf read fault.NoMemory = Unit {0}

-- the answer is what a reader reads or its fault, or want of memory
abbrev pub Tells : {A : Type 0} → Field A → Result (A × ℕ) MsgFault → Type 0
Tells read (Ok found) = read ≡ Ok found
Tells read (Err fault) = IsFaultOf read fault

-- what is read, behind what there was
abbrev pub behind : {A : Type 0} → List A → Field (List A) → Field (List A)
behind front read = read >>= λ found. Ok (front ++ found.0, found.1)
