-- An entry that a replica makes where it isn't full is due, and the part goes on with it.
use Rattle.std.proofs.Common.{◌≡◌, ℕ, ◌<◌, ◌≤◌, Bool, true, false, ◌||◌, nat_le, List, [], ◌∷◌, ◌++◌, None, refl, ap, ap₂, cond, ◌==◌, arith}
use Rattle.std.proofs.lemmas.Bool.{leb-false}
use Rattle.tact_base.proofs.ListLemmas.{flat_map_agree}
use Rattle.tact_base.specs.WriteOrder.{in_order}
use Rattle.tact_base.specs.declared.limits.TheConstants.{HISTORY_MAX, STAMP_MAX, MOMENT_MAX}
use Rattle.tact_base.specs.declared.write.Write.{Write}
use Rattle.tact_base.specs.Setup.{Setup, replicas_of}
use Rattle.run_model.specs.Histories.{moment_at}
use Rattle.run_model.specs.Taking.{OriginState, log_of}
use Rattle.run_model.specs.Order.{seen}
use Rattle.run_model.specs.Ranges.{IsActInRange}
use Rattle.run_model.specs.Runs.{IsActDue, IsDue, FitsIfTaken, MayFollow, IsPart}
use Rattle.run_model.specs.declared.entry.Act.{Act}
use Rattle.run_model.specs.declared.entry.Entry.{Entry}
use Rattle.run_model.proofs.PrefixLemmas.{EachAfter-push}
use Rattle.run_model.proofs.PartLemmas.{accepted_in, taken_by, own-push_none, origin_state-push_none}
use Rattle.run_model.proofs.Growth.{Grows, Grows-push}
use Rattle.run_promises.proofs.PartSound.{PartSound, PartSound-part}
use Rattle.replica_core.specs.States.{Core, is_full}
use Rattle.replica_core.specs.Stands.{Stands}

-- a replica that isn't full
pub not_full : (core : Core)
    → is_full core ≡ false
    → (core.counts.count < HISTORY_MAX) × (core.writes.clock < STAMP_MAX)
not_full core free = go (nat_le HISTORY_MAX core.counts.count) (nat_le STAMP_MAX core.writes.clock) refl refl free
  where
    go : (counted clocked : Bool)
        → nat_le HISTORY_MAX core.counts.count ≡ counted
        → nat_le STAMP_MAX core.writes.clock ≡ clocked
        → (counted || clocked) ≡ false
        → (core.counts.count < HISTORY_MAX) × (core.writes.clock < STAMP_MAX)
    go false false one other free = (leb-false HISTORY_MAX core.counts.count one, leb-false STAMP_MAX core.writes.clock other)
    go true clocked one other free = cc
    go false true one other free = cc

-- the entry of an act at the moment that follows a handed one
abbrev pub entry_of : ℕ → List Entry → ℕ → Act → Entry
entry_of replica part handed done = record { replica = replica; moment = moment_at part handed; act = done }

-- A replica that stands for a part and isn't full, and an act that is in range and due there.
module _ (part : List Entry) (core : Core) (stands : Stands part core) (free : is_full core ≡ false) (among : core.replica < core.setup.replicas) (handed : ℕ)
    (handed_in : handed ≤ MOMENT_MAX) (done : Act) where
  abbrev entry : Entry
  entry = entry_of core.replica part handed done

  pub sound : PartSound core.setup core.replica part
  sound = PartSound-part core.setup core.replica part stands.is_part

  pub moment_in : moment_at part handed ≤ MOMENT_MAX
  moment_in = omega (arith, sound.last_most, handed_in)

  pub is_due : IsActInRange core.setup core.replica done
      → IsActDue core.setup core.replica part (moment_at part handed) done
      → IsDue core.setup part entry
  is_due in_range due =
      let room = not_full core free in
      record {
        room = omega (arith, stands.counts.count, room.0);
        moment = omega arith;
        clock_below = omega (arith, stands.writes.clock, room.1);
        in_range = record { replica = among; moment = moment_in; act = in_range };
        act = due;
      }

  pub goes_on : IsDue core.setup part entry
      → FitsIfTaken core.setup core.replica part done
      → IsPart core.setup core.replica (part ++ entry ∷ [])
  goes_on due fits = EachAfter-push (MayFollow core.setup core.replica) part entry stands.is_part (refl, due, fits)

  pub has_grown : IsDue core.setup part entry → Grows core.replica part (part ++ entry ∷ [])
  has_grown = Grows-push core.setup part entry

-- What stays where an entry accepts and takes nothing.
module _ (setup : Setup) (replica : ℕ) (part : List Entry) (entry : Entry) (accepts : accepted_in entry ≡ None) (takes : taken_by entry ≡ None) where
  pub log_of-without_write : (origin : ℕ)
      → log_of replica (part ++ entry ∷ []) origin ≡ log_of replica part origin
  log_of-without_write origin =
      ap₂ (λ (own_log : List Write) (kept : OriginState). cond (origin == replica) own_log kept.log) (own-push_none part entry accepts) (origin_state-push_none part entry origin takes)

  pub seen-without_write : seen setup replica (part ++ entry ∷ []) ≡ seen setup replica part
  seen-without_write =
      ap in_order (flat_map_agree (log_of replica (part ++ entry ∷ [])) (log_of replica part) (replicas_of setup) (λ k d within. log_of-without_write _))
