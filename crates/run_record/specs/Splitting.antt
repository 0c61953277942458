-- A text in lines, and a line in tokens.
use Rattle.std.specs.Prelude.{ℕ, ◌==◌, Bool, true, false, List, [], ◌∷◌, filter, if◌then◌else◌}

-- a byte at the head of the first piece
abbrev pub with_front : ℕ → List (List ℕ) → List (List ℕ)
with_front byte [] = (byte ∷ []) ∷ []
with_front byte (piece ∷ pieces) = (byte ∷ piece) ∷ pieces

-- The pieces of a text that end at a separator. A last piece without it is one too; nothing follows a last separator.
abbrev pub pieces_of : ℕ → List ℕ → List (List ℕ)
pieces_of separator [] = []
pieces_of separator (byte ∷ bytes) = if byte == separator then [] ∷ pieces_of separator bytes else with_front byte (pieces_of separator bytes)

-- the lines of a text, which end at the byte 10
abbrev pub raw_lines : List ℕ → List (List ℕ)
raw_lines bytes = pieces_of 10 bytes

-- whether a piece has a byte
abbrev pub has_bytes : List ℕ → Bool
has_bytes [] = false
has_bytes (byte ∷ bytes) = true

-- the tokens of a line, which one or more spaces separate
unfoldable pub tokens : List ℕ → List (List ℕ)
tokens line = filter has_bytes (pieces_of 32 line)
