-- Items of which twins are made (this project's own rule).
use Rattle.std.specs.Prelude.{◌≡◌, ◌↔◌}

-- the second item carries what the first one carries, and what fits the one fits the other
pub record IsAlike {T C W : Type 0} (carries : T → C) (fits : T → W → Type 0) (first second : T) : Type 0 where
  pub carried : carries second ≡ carries first
  pub fitting : (with : W) → fits first with ↔ fits second with
