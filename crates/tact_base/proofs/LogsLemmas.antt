-- A log after told writes.
use Rattle.std.proofs.Common.{◌≡◌, ℕ, ◌-◌, ◌≤◌, min, Bool, true, false, cond, nat_le, List, ◌++◌, length, take, drop, ap, ◌∙◌, sym, refl, arith}
use Rattle.std.proofs.lemmas.List.{length-append, take_rest, drop_min}
use Rattle.std.proofs.lemmas.Bool.{leb-true, le-leb}
use Rattle.tact_base.specs.Logs.{log_after}

module _ {T : Type 0} (log : List T) (first : ℕ) (told : List T) where
  -- what is told from its end on is added
  pub log_after-added : first ≤ length log
      → log_after log first told ≡ log ++ drop (length log - first) told
  log_after-added begins = rw (le-leb first (length log) begins) refl

  -- the same, where the told writes that the log has are counted
  pub log_after-held : (held : ℕ)
      → first ≤ length log
      → held ≡ min (length log - first) (length told)
      → log ++ take (length told - held) (drop held told) ≡ log_after log first told
  log_after-held held begins count =
      let rest = take_rest told held in
      let same : drop held told ≡ drop (length log - first) told = rw count (drop_min (length log - first) told) in
      ap (λ more. log ++ more) (rest ∙ same) ∙ sym (log_after-added begins)

-- a log doesn't get shorter
pub log_after-le : {T : Type 0} (log : List T) (first : ℕ) (told : List T)
    → length log ≤ length (log_after log first told)
log_after-le log first told = go (nat_le first (length log))
  where
    go : (fits : Bool) → length log ≤ length (cond fits (log ++ drop (length log - first) told) log)
    go true = omega (arith, length-append log (drop (length log - first) told))
    go false = omega arith

-- a log after told writes has those past its end, or is as it was
pub log_after-cases : {T : Type 0} (P : List T → Type 0) (log : List T) (first : ℕ) (told : List T)
    → (first ≤ length log → P (log ++ drop (length log - first) told))
    → P log
    → P (log_after log first told)
log_after-cases P log first told of_more of_log = go (nat_le first (length log)) refl
  where
    go : (fits : Bool)
        → nat_le first (length log) ≡ fits
        → P (cond fits (log ++ drop (length log - first) told) log)
    go true is = of_more (leb-true first (length log) is)
    go false is = of_log
