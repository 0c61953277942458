-- How an amount meets a share: each answer where it comes, and what it means that the amount fits.
use Rattle.std.proofs.Common.{◌≡◌, ℕ, ◌+◌, ◌≤◌, nat_lt, Bool, true, false, cond, refl, arith}
use Rattle.std.proofs.lemmas.Bool.{le-ltb, ltb-false}
use Rattle.tact_base.specs.Shares.{fit_of}
use Rattle.tact_base.specs.declared.fit.Fit.TheVariants.{Fits, TooHeavy, WaitHeld, WaitShare}

module _ (peer share reserved missing amount : ℕ) where
  -- an amount that fits a share fits it with all that is beside it
  pub fit_of-Fits : fit_of peer share reserved missing amount ≡ Fits
      → missing + reserved + amount ≤ share
  fit_of-Fits = go (nat_lt share amount) (nat_lt share (reserved + amount)) (nat_lt share (missing + reserved + amount)) refl
    where
      go : (heavy held short : Bool)
          → nat_lt share (missing + reserved + amount) ≡ short
          → cond heavy (TooHeavy peer amount share) (cond held (WaitHeld peer reserved amount share) (cond short (WaitShare peer missing reserved amount share) Fits)) ≡ Fits
          → missing + reserved + amount ≤ share
      go true held short is fit = cc
      go false true short is fit = cc
      go false false true is fit = cc
      go false false false is fit = ltb-false share (missing + reserved + amount) is

  pub fit_of-all : missing + reserved + amount ≤ share
      → fit_of peer share reserved missing amount ≡ Fits
  fit_of-all less =
      rw (le-ltb share amount (omega arith), le-ltb share (reserved + amount) (omega arith), le-ltb share (missing + reserved + amount) less) refl
