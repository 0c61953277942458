-- What a part that can be says of each log and each cover, its own among them.
use Rattle.std.proofs.Common.{◌≡◌, ℕ, ◌<◌, ◌≤◌, List, length, All, sym, ap, subst, ⊎_elim, arith}
use Rattle.std.proofs.lemmas.Bool.{cases_eq}
use Rattle.tact_base.specs.declared.limits.TheConstants.{MOMENT_MAX}
use Rattle.tact_base.specs.Setup.{Setup}
use Rattle.run_model.specs.OwnWrites.{own}
use Rattle.run_model.specs.Taking.{log_of, have, clock, cover_of}
use Rattle.run_model.specs.Ranges.{IsWriteInRange}
use Rattle.run_model.specs.declared.entry.Entry.{Entry}
use Rattle.run_model.proofs.PartLemmas.{accepted_in}
use Rattle.tact_base.proofs.ListLemmas.{length-filter_map}
use Rattle.run_model.proofs.Accepted.{log_of-same, log_of-other}
use Rattle.run_model.proofs.SoundViews.{cover_of-same, cover_of-other}
use Rattle.run_promises.proofs.PartSound.{IsSoundLog, IsSoundCover, PartSound}

module _ (setup : Setup) (replica : ℕ) (part : List Entry) (sound : PartSound setup replica part) where
  -- its own writes are in range
  own_in_range : All (IsWriteInRange setup) (own part)
  own_in_range place d within = record {
    stamp_least = sound.in_order.stamps_least place d within;
    stamp_most = omega (arith, sound.in_order.stamps_most place d within, sound.clock_most);
    moment = omega (arith, sound.in_order.moments_most place d within, sound.last_most);
    weights = (sound.asked place d within).weights;
    op = (sound.asked place d within).op;
  }

  own_log : IsSoundLog setup (clock part) replica (own part)
  own_log = record {
    origins = sound.in_order.origins;
    indices = sound.in_order.indices;
    in_range = own_in_range;
    stamps = sound.in_order.stamps_most;
    few = omega (arith, length-filter_map accepted_in part, sound.few);
  }

  -- each log
  pub PartSound-log : (origin : ℕ)
      → origin < setup.replicas
      → IsSoundLog setup (clock part) origin (log_of replica part origin)
  PartSound-log origin within = ⊎_elim
      (λ (same : origin ≡ replica).
      subst (λ o. IsSoundLog setup (clock part) o (log_of replica part o)) (sym same)
      (subst (IsSoundLog setup (clock part) replica) (sym (log_of-same replica part)) own_log))
      (λ (other : origin ≡ replica → ⊥).
      subst (IsSoundLog setup (clock part) origin) (sym (log_of-other replica part origin other)) (sound.logs origin within other))
      (cases_eq origin replica)

  -- each cover
  pub PartSound-cover : (at : ℕ)
      → at ≤ MOMENT_MAX
      → (origin : ℕ)
      → origin < setup.replicas
      → IsSoundCover (clock part) (have replica part origin) (cover_of replica part at origin)
  PartSound-cover at at_most origin within = ⊎_elim
      (λ (same : origin ≡ replica).
      subst (λ o. IsSoundCover (clock part) (have replica part o) (cover_of replica part at o)) (sym same)
      (subst (IsSoundCover (clock part) (have replica part replica)) (sym (cover_of-same replica part at))
      (record { count = omega (arith, ap length (log_of-same replica part)); stamp = omega arith; moment = at_most })))
      (λ (other : origin ≡ replica → ⊥).
      let cover = sound.covers origin within other in
      subst (IsSoundCover (clock part) (have replica part origin)) (sym (cover_of-other replica part at origin other))
      (record { count = omega (arith, cover.count, ap length (log_of-other replica part origin other)); stamp = cover.stamp; moment = cover.moment }))
      (cases_eq origin replica)
