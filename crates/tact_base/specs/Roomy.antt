-- A list whose memory can be taken ahead.
use Rattle.std.specs.Prelude.{ℕ, List}

-- the items, and how many more can surely be put in without taking memory
pub record Roomy (T : Type 0) : Type 0 where
  pub items : List T
  pub room : ℕ
