-- The real edge, of which little is told.
use Rattle.std.specs.Prelude.{ℕ}

-- a stream of the process, and how often it failed
pub record Edge (Stream : Type 0) : Type 0 where
  pub stream : Stream
  pub faults : ℕ
