-- The log of one origin, of which the first writes may be given up, and what told writes do to it.
use Rattle.std.specs.Prelude.{◌≡◌, ℕ, ◌+◌, ◌-◌, ◌<◌, ◌≤◌, ◌^◌, List, ◌++◌, drop, length}
use Rattle.tact_base.specs.declared.write.Write.{Write}
use Rattle.write_log.specs.declared.taken.Taken.{Taken}
use Rattle.write_log.specs.declared.taken.Taken.TheVariants.{Added, Gap}

-- all its writes, how many of the first were given up, and how many more can surely be held without taking memory
pub record OneLog : Type 0 where
  pub all : List Write
  pub base : ℕ
  pub room : ℕ

-- What is kept of the writes that aren't held and of those that are: how many the first are, that those given up are
-- they and some of the others, and few enough to be counted.
pub record KeepsLog (gone held : List Write) (dropped base : ℕ) : Type 0 where
  pub many : length gone ≡ dropped
  pub above : dropped ≤ base
  pub within : base ≤ dropped + length held
  pub counted : dropped + length held < 2 ^ 64

-- how many writes there are, those that were given up among them
abbrev pub have_of : OneLog → ℕ
have_of log = length log.all

-- what is answered to told writes, which begin at the index `first`, and what becomes of the log
abbrev pub TakesTold : OneLog → OneLog → ℕ → List Write → Taken → Type 0
TakesTold old new first told (Added count) =
    (first ≤ have_of old) × (count ≡ length told - (have_of old - first))
    × (new.all ≡ old.all ++ drop (have_of old - first) told)
    × (new.base ≡ old.base)
    × (old.room ≤ new.room + count)
TakesTold old new first told (Gap have at) =
    (have_of old < first) × (have ≡ have_of old) × (at ≡ first) × (new ≡ old)
