-- Pieces that lie one behind the other among bytes.
use Rattle.std.specs.Prelude.{ℕ, ◌≤◌, List, length, All}
use Rattle.std.specs.List.{between}
use Rattle.tact_base.specs.Roomy.{Roomy}
use Rattle.tact_io.specs.declared.piece_list.Reach.{Reach}

-- the piece of a reach
abbrev pub piece_of : List ℕ → Reach → List ℕ
piece_of bytes reach = between reach.start reach.end bytes

-- a reach among so many bytes
pub record IsIn (count : ℕ) (reach : Reach) : Type 0 where
  pub order : reach.start ≤ reach.end
  pub end : reach.end ≤ count

-- each reach is among the bytes, and there is room for what is spare
pub record KeepsPieces (reaches : Roomy Reach) (bytes : Roomy ℕ) (spare_pieces spare_bytes : ℕ) : Type 0 where
  pub within : All (IsIn (length bytes.items)) reaches.items
  pub pieces : spare_pieces ≤ reaches.room
  pub bytes_too : spare_bytes ≤ bytes.room
