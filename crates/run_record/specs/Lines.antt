-- What is judged of every line, whatever it says, and which lines are skipped.
use Rattle.std.specs.Prelude.{ℕ, ◌==◌, Bool, true, false, ◌||◌, nat_lt, List, [], ◌∷◌, length, Option, Some, None, if◌then◌else◌}
use Rattle.std.specs.List.{list_any}
use Rattle.tact_base.specs.declared.limits.TheConstants.{LINE_MAX}
use Rattle.run_model.specs.declared.status.LineKind.{LineKind}
use Rattle.run_model.specs.declared.status.LineKind.TheVariants.{LongLine, BadByte}
use Rattle.run_record.specs.Fields.{Tokens}

-- bytes from 32 to 126 are the good ones
abbrev pub is_bad_byte : ℕ → Bool
is_bad_byte byte = nat_lt byte 32 || nat_lt 126 byte

-- what is judged of every line, a comment or a blank line too: its length, its bytes
unfoldable pub fault_of_bytes : List ℕ → Option LineKind
fault_of_bytes raw =
    if nat_lt LINE_MAX (length raw) then Some LongLine
    else if list_any is_bad_byte raw then Some BadByte
    else None

-- a line without tokens is skipped, and one whose first token begins with `#`
abbrev pub is_comment : List ℕ → Bool
is_comment [] = false
is_comment (byte ∷ bytes) = byte == 35

abbrev pub is_skipped : Tokens → Bool
is_skipped [] = true
is_skipped (token ∷ rest) = is_comment token
