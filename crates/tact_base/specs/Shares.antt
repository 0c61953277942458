-- How an amount meets a share (this project's own rule).
use Rattle.std.specs.Prelude.{ℕ, ◌+◌, nat_lt, if◌then◌else◌}
use Rattle.tact_base.specs.declared.fit.Fit.{Fit}
use Rattle.tact_base.specs.declared.fit.Fit.TheVariants.{Fits, TooHeavy, WaitHeld, WaitShare}

-- What an amount gets of a peer of whose bound there is a share: too heavy, where it passes the share by itself;
-- waiting for what is held, where with what is reserved; waiting for the share, where with what the peer may miss, too.
abbrev pub fit_of : ℕ → ℕ → ℕ → ℕ → ℕ → Fit
fit_of peer share reserved missing amount =
    if nat_lt share amount then TooHeavy peer amount share
    else if nat_lt share (reserved + amount) then WaitHeld peer reserved amount share
    else if nat_lt share (missing + reserved + amount) then WaitShare peer missing reserved amount share
    else Fits
