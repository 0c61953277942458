-- What a sound history says of the logs and the covers of a replica, its own among them.
use Rattle.std.proofs.Common.{◌≡◌, ℕ, ◌≤◌, cond, List, length, All, refl, ap, ⊎_elim, arith}
use Rattle.std.proofs.lemmas.Bool.{cases_eq, eq-eqb, ne_eqb}
use Rattle.tact_base.specs.declared.write.Cover.{Cover}
use Rattle.tact_base.specs.declared.write.Write.{Write}
use Rattle.tact_base.specs.Setup.{Setup}
use Rattle.run_model.specs.Histories.{part_of, last_moment, IsPrefix}
use Rattle.run_model.specs.OwnWrites.{own}
use Rattle.run_model.specs.Taking.{origin_state, log_of, have, clock, cover_of}
use Rattle.run_model.specs.declared.entry.Entry.{Entry}
use Rattle.run_model.proofs.PrefixLemmas.{IsPrefix-same, IsPrefix-length, IsPrefix-All}
use Rattle.run_model.proofs.Accepted.{log_of-same, log_of-other}
use Rattle.run_model.proofs.Sound.{IsNumbered, Vouches, Sound}

-- the cover that a replica tells of itself, and of another
abbrev pub own_cover : List Entry → ℕ → Cover
own_cover part at = record { count = length (own part); stamp = clock part; moment = at }

pub cover_of-same : (replica : ℕ) (part : List Entry) (at : ℕ)
    → cover_of replica part at replica ≡ own_cover part at
cover_of-same replica part at = ap (λ yes. cond yes (own_cover part at) (origin_state part replica).cover) (eq-eqb replica replica refl)

pub cover_of-other : (replica : ℕ) (part : List Entry) (at origin : ℕ)
    → (origin ≡ replica → ⊥)
    → cover_of replica part at origin ≡ (origin_state part origin).cover
cover_of-other replica part at origin other = ap (λ yes. cond yes (own_cover part at) (origin_state part origin).cover) (ne_eqb origin replica other)

-- a part's own cover vouches for it, at a moment that isn't past its last
pub Vouches-own : (replica : ℕ) (part : List Entry) (at : ℕ)
    → IsNumbered replica part
    → at ≤ last_moment part
    → Vouches part (own_cover part at)
Vouches-own replica part at sound within = record {
  count = omega arith;
  stamp = omega arith;
  moment = within;
  later = λ place d inside past. absurd (omega (arith, sound.indices place d inside, past));
}

-- What a sound history says of a replica and an origin.
module _ (setup : Setup) (history : List Entry) (sound : Sound setup history) (replica origin : ℕ) where
  -- the log is a beginning of what the origin accepted
  pub Sound-log : IsPrefix (log_of replica (part_of history replica) origin) (own (part_of history origin))
  Sound-log = ⊎_elim
      (λ (same : origin ≡ replica). rw same (IsPrefix-same (log_of replica (part_of history replica) replica) (own (part_of history replica)) (log_of-same replica (part_of history replica))))
      (λ (other : origin ≡ replica → ⊥). rw (log_of-other replica (part_of history replica) origin other) (sound.kept replica origin).log)
      (cases_eq origin replica)

  pub Sound-have : have replica (part_of history replica) origin ≤ length (own (part_of history origin))
  Sound-have = IsPrefix-length (log_of replica (part_of history replica) origin) (own (part_of history origin)) Sound-log

  -- so its writes are the origin's
  pub Sound-origins : All (λ (write : Write). write.origin ≡ origin) (log_of replica (part_of history replica) origin)
  Sound-origins = IsPrefix-All (λ (write : Write). write.origin ≡ origin) (log_of replica (part_of history replica) origin) (own (part_of history origin)) Sound-log (sound.own origin).origins

  -- the clock is above what was seen
  pub Sound-stamps : All (λ (write : Write). write.stamp ≤ clock (part_of history replica)) (log_of replica (part_of history replica) origin)
  Sound-stamps = ⊎_elim
      (λ (same : origin ≡ replica). rw (same, log_of-same replica (part_of history replica)) (sound.own replica).stamps_most)
      (λ (other : origin ≡ replica → ⊥). rw (log_of-other replica (part_of history replica) origin other) (sound.kept replica origin).stamps)
      (cases_eq origin replica)

  -- a cover is within the log
  pub Sound-count : (at : ℕ)
      → (cover_of replica (part_of history replica) at origin).count ≤ have replica (part_of history replica) origin
  Sound-count at = ⊎_elim
      (λ (same : origin ≡ replica). rw (same, cover_of-same replica (part_of history replica) at, log_of-same replica (part_of history replica)) (omega arith))
      (λ (other : origin ≡ replica → ⊥). rw (
        cover_of-other replica (part_of history replica) at origin other,
        log_of-other replica (part_of history replica) origin
            other,
      ) (sound.kept replica origin).count)
      (cases_eq origin replica)

  -- and vouches for its origin
  pub Sound-cover : (at : ℕ)
      → at ≤ last_moment (part_of history replica)
      → Vouches (part_of history origin) (cover_of replica (part_of history replica) at origin)
  Sound-cover at within = ⊎_elim
      (λ (same : origin ≡ replica). rw (same, cover_of-same replica (part_of history replica) at) (Vouches-own replica (part_of history replica) at (sound.own replica) within))
      (λ (other : origin ≡ replica → ⊥). rw (cover_of-other replica (part_of history replica) at origin other) (sound.kept replica origin).cover)
      (cases_eq origin replica)
