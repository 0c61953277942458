-- A record that is read from bytes is never at fault by a line.
use Rattle.std.proofs.Common.{ℕ, zero, suc, ◌==◌, ◌*◌, ◌/◌, Bool, true, false, List, length, nat_lt, Result, Ok, Err, if◌then◌else◌, subst}
use Rattle.run_model.specs.declared.fields.FieldFault.{FieldFault}
use Rattle.run_model.specs.declared.fields.FieldFault.TheVariants as field
use Rattle.run_model.specs.declared.status.ByteKind.{ByteKind}
use Rattle.run_model.specs.declared.status.ByteKind.TheVariants as kind
use Rattle.run_model.specs.Bytes.{any_number_at}
use Rattle.run_record.specs.EntriesAt.{counts_at, bound_fields_at, shorts_at}
use Rattle.run_record.specs.RecordAt.{Part, Tells, ◌>>=◌, keeping, part_of, bound_at, bounds_at, setup_at, count_at, body_at, record_at}
use Rattle.run_record.specs.Records.{Held}
use Rattle.run_record.specs.declared.fault.RecordFault.{RecordFault}
use Rattle.run_record.specs.declared.fault.RecordFault.TheVariants as fault
use Rattle.run_record.specs.declared.short.Short.{Short}
use Rattle.tact_top.specs.RecordForms.{IsByteFault}
use Rattle.tact_top.specs.Refusals.{IsRefusalBy, refusal_of}

-- what was read has no fault, or one of bytes
abbrev OfBytes : {A : Type 0} → Result A RecordFault → Type 0
OfBytes (Ok x) = Unit {0}
OfBytes (Err (fault.Text place kind)) = ⊥
OfBytes (Err (fault.Bytes place kind)) = Unit {0}
OfBytes (Err fault.NoMemory) = ⊥

record IsOfBytes {A : Type 0} (read : Result A RecordFault) : Type 0 where
  is : OfBytes read

bind : {A B : Type 0} (read : Result A RecordFault) (next : A → Result B RecordFault)
    → IsOfBytes read
    → ((x : A) → IsOfBytes (next x))
    → IsOfBytes (read >>= next)
bind (Ok x) next here there = there x
bind (Err (fault.Text place kind)) next here there = absurd here.is
bind (Err (fault.Bytes place kind)) next here there = record { is = tt }
bind (Err fault.NoMemory) next here there = absurd here.is

part : {A : Type 0} (len : ℕ) (read : Result A FieldFault) → IsOfBytes (part_of len read)
part len (Ok x) = record { is = tt }
part len (Err field.Short) = record { is = tt }
part len (Err (field.BadField place)) = record { is = tt }

chosen : {A : Type 0} (b : Bool) (x : A) (place : ℕ) (k : ByteKind)
    → IsOfBytes (if b then Ok x else Err (fault.Bytes place k))
chosen true x place k = record { is = tt }
chosen false x place k = record { is = tt }

kept : {A : Type 0} (rule : A → Bool) (place : ℕ) (k : ByteKind) (read : Part A)
    → IsOfBytes read
    → IsOfBytes (keeping rule (fault.Bytes place k) read)
kept rule place k (Ok x) here = chosen (rule x.0) x place k
kept rule place k (Err (fault.Text at other)) here = absurd here.is
kept rule place k (Err (fault.Bytes at other)) here = record { is = tt }
kept rule place k (Err fault.NoMemory) here = absurd here.is

bound : (replicas owner : ℕ) (bytes : List ℕ) (place : ℕ) → IsOfBytes (bound_at replicas owner bytes place)
unfolding bound_at
bound replicas owner bytes place = kept _ place kind.LoansOver _ (part (length bytes) (bound_fields_at replicas owner bytes place))

bounds : (replicas conits count row : ℕ) (bytes : List ℕ) (place : ℕ)
    → IsOfBytes (bounds_at replicas conits count row bytes place)
unfolding bounds_at
bounds replicas conits zero row bytes place = record { is = tt }
bounds replicas conits (suc count) row bytes place =
    bind (bound_at replicas (row / conits) bytes place) _ (bound replicas (row / conits) bytes place)
    (λ b. bind (bounds_at replicas conits count (suc row) bytes b.1) _ (bounds replicas conits count (suc row) bytes b.1) (λ others. record { is = tt }))

setup : (bytes : List ℕ) (place : ℕ) → IsOfBytes (setup_at bytes place)
unfolding setup_at
setup bytes place =
    bind (part_of (length bytes) (counts_at bytes place)) _ (part (length bytes) (counts_at bytes place))
    (λ counts. bind (bounds_at counts.0.replicas counts.0.conits (counts.0.replicas * counts.0.conits) 0 bytes counts.1) _
    (bounds counts.0.replicas counts.0.conits (counts.0.replicas * counts.0.conits) 0 bytes counts.1) (λ all. record { is = tt }))

count : (entries : List Short) (bytes : List ℕ) (place : ℕ) → IsOfBytes (count_at entries bytes place)
unfolding count_at
count entries bytes place =
    kept (λ told. told == length entries) place kind.WrongCount _ (part (length bytes) (any_number_at bytes place))

body : (bytes : List ℕ) (place : ℕ) → IsOfBytes (body_at bytes place)
unfolding body_at
body bytes place =
    bind (setup_at bytes place) _ (setup bytes place)
    (λ s. bind (part_of (length bytes) (shorts_at s.0.replicas s.0.conits (length bytes) bytes s.1)) _
    (part (length bytes) (shorts_at s.0.replicas s.0.conits (length bytes) bytes s.1))
    (λ entries. bind (count_at entries.0 bytes entries.1) _ (count entries.0 bytes entries.1) (λ c. record { is = tt })))

whole : (bytes : List ℕ) → IsOfBytes (record_at bytes)
unfolding record_at
whole bytes = bind (body_at bytes 0) _ (body bytes 0) (λ held. choose (nat_lt held.1 (length bytes)) held)
  where
    choose : (b : Bool) (held : Held × ℕ) → IsOfBytes (if b then Err (fault.Bytes held.1 kind.AfterEnd) else Ok held.0)
    choose true held = record { is = tt }
    choose false held = record { is = tt }

-- so what its reader refuses is a fault of bytes, or comes of want of memory
pub byte_fault_is : (bytes : List ℕ) (told : RecordFault)
    → Tells (record_at bytes) (Err told)
    → IsRefusalBy IsByteFault bytes (refusal_of told)
byte_fault_is bytes (fault.Text place kind) is = absurd (subst (λ (read : Result Held RecordFault). IsOfBytes read) is (whole bytes)).is
byte_fault_is bytes (fault.Bytes place kind) is = is
byte_fault_is bytes fault.NoMemory is = tt
