-- What a journal has: a list of pieces of bytes.
use Rattle.std.specs.Prelude.{◌≡◌, ℕ, List, [], ◌∷◌, ◌++◌, ◌⊎◌}

-- a piece more, at the end
abbrev pub with_piece : List (List ℕ) → List ℕ → List (List ℕ)
with_piece pieces piece = pieces ++ piece ∷ []

-- it has what it had, or that and the piece
abbrev pub MayHave : List (List ℕ) → List ℕ → List (List ℕ) → Type 0
MayHave before piece after = (after ≡ before) ⊎ (after ≡ with_piece before piece)

-- pieces in memory, and how many more there is room for, and how many more bytes
pub record Pieces : Type 0 where
  pub pieces : List (List ℕ)
  pub spare_pieces : ℕ
  pub spare_bytes : ℕ
