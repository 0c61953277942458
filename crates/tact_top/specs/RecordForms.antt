-- The forms of a record: its text and its bytes, how each is read, and what is made of one.
use Rattle.std.specs.Prelude.{◌≡◌, ℕ, ◌==◌, Bool, true, false, List, [], ◌∷◌, Ok, Err}
use Rattle.run_model.specs.declared.status.InputKind.{InputKind}
use Rattle.run_model.specs.declared.status.InputKind.TheVariants as input
use Rattle.run_model.specs.declared.status.Status.{Status}
use Rattle.run_model.specs.declared.status.Status.TheVariants as status
use Rattle.run_record.specs.RecordAt.{record_at}
use Rattle.run_record.specs.RecordBytes.{record_bytes}
use Rattle.run_record.specs.RecordLines.{record_of}
use Rattle.run_record.specs.RecordText.{record_text}
use Rattle.run_record.specs.Records.{Held, IsHeld}
use Rattle.run_record.specs.declared.fault.RecordFault.TheVariants as fault

-- the first fault of an input that is no record's text, and of one that is no record's bytes
abbrev pub IsTextFault : List ℕ → ℕ → InputKind → Type 0
IsTextFault text place (input.Line kind) = record_of text ≡ Err (place, kind)
IsTextFault text place other = ⊥

abbrev pub IsByteFault : List ℕ → ℕ → InputKind → Type 0
IsByteFault bytes place (input.Bytes kind) = record_at bytes ≡ Err (fault.Bytes place kind)
IsByteFault bytes place other = ⊥

-- an input that begins with the letter T can be a record in bytes alone; any other, in text alone
abbrev pub is_in_bytes : List ℕ → Bool
is_in_bytes [] = false
is_in_bytes (byte ∷ rest) = byte == 84

-- the record that an input is, and the first fault of one that is none, in bytes or in text
abbrev pub IsRecordBy : Bool → List ℕ → Held → Type 0
IsRecordBy true input held = input ≡ record_bytes held
IsRecordBy false input held = record_of input ≡ Ok held

abbrev pub IsFaultBy : Bool → List ℕ → ℕ → InputKind → Type 0
IsFaultBy true = IsByteFault
IsFaultBy false = IsTextFault

abbrev pub IsRecordIn : List ℕ → Held → Type 0
IsRecordIn input held = IsRecordBy (is_in_bytes input) input held

abbrev pub IsRecordFault : List ℕ → ℕ → InputKind → Type 0
IsRecordFault input place kind = IsFaultBy (is_in_bytes input) input place kind

-- packing: the input is a record's text, and the record's bytes are written
abbrev pub IsPacked : List ℕ → Status → List ℕ → Type 0
IsPacked text answer bytes = (answer ≡ status.Done) × (held : Held) × IsHeld held × (record_of text ≡ Ok held) × (bytes ≡ record_bytes held)

-- unpacking: the input is a record's bytes, and the record's text is written
abbrev pub IsUnpacked : List ℕ → Status → List ℕ → Type 0
IsUnpacked bytes answer text = (answer ≡ status.Done) × (held : Held) × IsHeld held × (bytes ≡ record_bytes held) × (text ≡ record_text held)
