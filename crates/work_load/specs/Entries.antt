-- Lists whose entries are judged one after the other: the first one at fault counts.
use Rattle.std.specs.Prelude.{◌≡◌, ℕ, ◌+◌, ◌++◌, List, [], ◌∷◌, length, Result, Ok, Err}
use Rattle.std.specs.List.{fold}
use Rattle.run_model.specs.declared.status.LoadKind.{LoadKind}
use Rattle.serde_json.specs.Data.{Data}
use Rattle.work_load.specs.Values.{Reading, ◌>>=◌}
use Rattle.work_load.specs.declared.fault.LoadFault.{LoadFault}
use Rattle.work_load.specs.declared.fault.LoadFault.TheVariants as fault
use Rattle.work_load.specs.declared.fault.EntryFault.{EntryFault}
use Rattle.work_load.specs.declared.fault.EntryFault.TheVariants as entry

-- what is read, or a fault and its place
abbrev pub Placed : Type 0 → Type 0
Placed A = Result A (ℕ × LoadKind)

abbrev pub at : {A : Type 0} → ℕ → Reading A → Placed A
at place (Ok x) = Ok x
at place (Err kind) = Err (place, kind)

abbrev pub unplaced : {A : Type 0} → Placed A → Reading A
unplaced (Ok x) = Ok x
unplaced (Err fault) = Err fault.1

-- Each entry is read by itself and by those before it. The place of a fault is the entry's position, counted from `first`.
abbrev pub with_entry : {A : Type 0} → ℕ → (List A → Data → Reading A) → Placed (List A) → Data → Placed (List A)
with_entry first read found value = do
  before ← found
  entry ← at (first + length before) (read before value)
  Ok (before ++ entry ∷ [])

abbrev pub entries : {A : Type 0} → ℕ → (List A → Data → Reading A) → List Data → Placed (List A)
entries first read values = fold (with_entry first read) (Ok []) values

-- each entry of a list fits after those before it
abbrev pub EachAfter : {A : Type 0} → (List A → A → Type 0) → List A → List A → Type 0
EachAfter fits before [] = Unit {0}
EachAfter fits before (entry ∷ rest) = fits before entry × EachAfter fits (before ++ entry ∷ []) rest

-- what a function answers is what reading gives, unless memory ran out
abbrev pub Fails : {A : Type 0} → Reading A → EntryFault → Type 0
Fails read (entry.Kind kind) = read ≡ Err kind
Fails read entry.NoMemory = Unit {0}

abbrev pub Tells : {A : Type 0} → Reading A → Result A EntryFault → Type 0
Tells read (Ok x) = read ≡ Ok x
Tells read (Err fault) = Fails read fault

abbrev pub FailsAt : {A : Type 0} → Placed A → LoadFault → Type 0
FailsAt read (fault.Bad place kind) = read ≡ Err (place, kind)
FailsAt read fault.NoMemory = Unit {0}

abbrev pub TellsAt : {A : Type 0} → Placed A → Result A LoadFault → Type 0
TellsAt read (Ok x) = read ≡ Ok x
TellsAt read (Err fault) = FailsAt read fault

-- the fault of an entry, at its place, and the other way round
abbrev pub placed_fault : ℕ → EntryFault → LoadFault
placed_fault place (entry.Kind kind) = fault.Bad place kind
placed_fault place entry.NoMemory = fault.NoMemory

abbrev pub kind_fault : LoadFault → EntryFault
kind_fault (fault.Bad place kind) = entry.Kind kind
kind_fault fault.NoMemory = entry.NoMemory
