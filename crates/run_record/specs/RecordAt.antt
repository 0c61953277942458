-- How a record in bytes is read: its fields from the left, up to the first fault.
use Rattle.std.specs.Prelude.{◌≡◌, ℕ, zero, suc, ◌*◌, ◌/◌, Bool, not, ◌==◌, nat_lt, List, [], ◌∷◌, length, map, sum, Result, Ok, Err, if◌then◌else◌}
use Rattle.std.specs.List.{flat_map}
use Rattle.tact_base.specs.Setup.{Setup, setup}
use Rattle.run_model.specs.declared.fields.FieldFault.{FieldFault}
use Rattle.run_model.specs.declared.fields.FieldFault.TheVariants as field
use Rattle.run_model.specs.declared.status.ByteKind.TheVariants as kind
use Rattle.run_model.specs.Bytes.{any_number_at}
use Rattle.run_record.specs.declared.fault.RecordFault.{RecordFault}
use Rattle.run_record.specs.declared.fault.RecordFault.TheVariants as fault
use Rattle.run_record.specs.declared.parts.Bound.{Bound}
use Rattle.run_record.specs.declared.parts.Counts.{Counts}
use Rattle.run_record.specs.declared.short.Short.{Short}
use Rattle.run_record.specs.Records.{Held}
use Rattle.run_record.specs.EntriesAt.{counts_at, bound_fields_at, shorts_at}

-- a value and the place after it, or the first fault
abbrev pub Part : Type 0 → Type 0
Part A = Result (A × ℕ) RecordFault

abbrev pub then_part : {A B : Type 0} → Result A RecordFault → (A → Result B RecordFault) → Result B RecordFault
then_part (Ok x) next = next x
then_part (Err fault) next = Err fault

infixl 10 ◌>>=◌
abbrev pub ◌>>=◌ : {A B : Type 0} → Result A RecordFault → (A → Result B RecordFault) → Result B RecordFault
read >>= next = then_part read next

-- the fault of a field of so many bytes: where they end too early, its place is behind the last
abbrev pub of_field : ℕ → FieldFault → RecordFault
of_field len field.Short = fault.Bytes len kind.Short
of_field len (field.BadField place) = fault.Bytes place kind.BadField

abbrev pub part_of : {A : Type 0} → ℕ → Result A FieldFault → Result A RecordFault
part_of len (Ok x) = Ok x
part_of len (Err fault) = Err (of_field len fault)

-- what is read, where it keeps a rule, and else a fault
abbrev pub keeping : {A : Type 0} → (A → Bool) → RecordFault → Part A → Part A
keeping rule fault (Ok x) = if rule x.0 then Ok x else Err fault
keeping rule fault (Err other) = Err other

-- the bound of an owner on a conit: once all its loans are there, they don't pass the alpha
unfoldable pub bound_at : ℕ → ℕ → List ℕ → ℕ → Part Bound
bound_at replicas owner bytes place =
    keeping (λ (b : Bound). not (nat_lt b.alpha (sum b.loans))) (fault.Bytes place kind.LoansOver)
    (part_of (length bytes) (bound_fields_at replicas owner bytes place))

-- so many bounds, by owner and then conit, from one on
unfoldable pub bounds_at : ℕ → ℕ → ℕ → ℕ → List ℕ → ℕ → Part (List Bound)
bounds_at replicas conits zero row bytes place = Ok ([], place)
bounds_at replicas conits (suc count) row bytes place = do
  bound ← bound_at replicas (row / conits) bytes place
  others ← bounds_at replicas conits count (suc row) bytes bound.1
  Ok (bound.0 ∷ others.0, others.1)

-- the setup of these bounds
abbrev pub setup_from : Counts → List Bound → Setup
setup_from counts bounds =
    setup counts.replicas counts.conits (map (λ (b : Bound). b.alpha) bounds) (flat_map (λ (b : Bound). b.loans) bounds)

unfoldable pub setup_at : List ℕ → ℕ → Part Setup
setup_at bytes place = do
  counts ← part_of (length bytes) (counts_at bytes place)
  bounds ← bounds_at counts.0.replicas counts.0.conits (counts.0.replicas * counts.0.conits) 0 bytes counts.1
  Ok (setup_from counts.0 bounds.0, bounds.1)

-- the count of the entries that were read
unfoldable pub count_at : List Short → List ℕ → ℕ → Part ℕ
count_at entries bytes place =
    keeping (λ count. count == length entries) (fault.Bytes place kind.WrongCount) (part_of (length bytes) (any_number_at bytes place))

-- a record, and the whole, which nothing follows
unfoldable pub body_at : List ℕ → ℕ → Part Held
body_at bytes place = do
  setup ← setup_at bytes place
  entries ← part_of (length bytes) (shorts_at setup.0.replicas setup.0.conits (length bytes) bytes setup.1)
  count ← count_at entries.0 bytes entries.1
  Ok (record { setup = setup.0; entries = entries.0 }, count.1)

unfoldable pub record_at : List ℕ → Result Held RecordFault
record_at bytes = do
  held ← body_at bytes 0
  if nat_lt held.1 (length bytes) then Err (fault.Bytes held.1 kind.AfterEnd) else Ok held.0

-- the answer is what is read or its fault, or want of memory
abbrev pub Tells : {A : Type 0} → Result A RecordFault → Result A RecordFault → Type 0
Tells read (Ok found) = read ≡ Ok found
Tells read (Err fault.NoMemory) = Unit {0}
Tells read (Err fault) = read ≡ Err fault
