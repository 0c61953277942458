-- What a replica keeps of an origin stays sound while the origin goes on, and when a sound message is taken.
use Rattle.std.proofs.Common.{ℕ, ◌-◌, ◌<◌, ◌≤◌, List, length, drop, All, sym, ap, subst, arith}
use Rattle.std.proofs.lemmas.List.{length-append}
use Rattle.std.proofs.lemmas.List.Elements.{All-append, All-weaker, All-drop}
use Rattle.tact_base.specs.Logs.{log_after}
use Rattle.tact_base.specs.declared.write.Cover.{Cover}
use Rattle.tact_base.specs.declared.write.Write.{Write}
use Rattle.tact_base.proofs.LogsLemmas.{log_after-le, log_after-cases}
use Rattle.tact_base.proofs.CoversLemmas.{cover_after-cases}
use Rattle.run_model.specs.Histories.{IsPrefix}
use Rattle.run_model.specs.OwnWrites.{own}
use Rattle.tact_base.specs.Covers.{no_cover}
use Rattle.run_model.specs.Taking.{OriginState, after_taking, told_cover, told_first, told_writes, clock}
use Rattle.run_model.specs.declared.entry.Entry.{Entry}
use Rattle.run_model.specs.declared.entry.Message.{Message}
use Rattle.run_model.proofs.PrefixLemmas.{IsPrefix-trans, IsPrefix-stretch}
use Rattle.run_model.proofs.Growth.{IsLater, Grows}
use Rattle.run_model.proofs.Sound.{IsNumbered, Vouches, IsSoundKeeping, IsSoundTold}

-- what a part has stands at the beginning of what it goes on to
pub own-prefix : (replica : ℕ) (before after : List Entry)
    → Grows replica before after
    → IsPrefix (own before) (own after)
own-prefix replica before after grows = (grows.new, grows.own)

-- the empty cover vouches for any part
pub Vouches-empty : (replica : ℕ) (part : List Entry)
    → IsNumbered replica part
    → Vouches part no_cover
Vouches-empty replica part sound = record {
  count = omega arith;
  stamp = omega arith;
  moment = omega arith;
  later = All-weaker (λ (write : Write). 1 ≤ write.stamp) (λ (write : Write). 0 ≤ write.index → (0 < write.stamp) × (0 ≤ write.moment))
      (λ write least index. (omega (arith, least), omega arith)) (own part) sound.stamps_least;
}

-- a cover that vouches goes on doing so
pub Vouches-grows : (replica : ℕ) (before after : List Entry) (cover : Cover)
    → Grows replica before after
    → Vouches before cover
    → Vouches after cover
Vouches-grows replica before after cover grows vouches =
    let P = λ (write : Write). cover.count ≤ write.index → (cover.stamp < write.stamp) × (cover.moment ≤ write.moment) in
    let new : All P grows.new =
    All-weaker (IsLater before) P (λ write later index. (omega (arith, later.stamp, vouches.stamp), omega (arith, later.moment, vouches.moment))) grows.new grows.later in
    record {
      count = omega (arith, vouches.count, ap length grows.own, length-append (own before) grows.new);
      stamp = omega (arith, vouches.stamp, grows.clock);
      moment = omega (arith, vouches.moment, grows.last);
      later = subst (All P) (sym grows.own) (All-append P (own before) grows.new vouches.later new);
    }

pub IsSoundKeeping-grows : (low high : ℕ) (kept : OriginState) (origin : ℕ) (before after : List Entry)
    → low ≤ high
    → Grows origin before after
    → IsSoundKeeping low kept before
    → IsSoundKeeping high kept after
IsSoundKeeping-grows low high kept origin before after rises grows sound = record {
  log = IsPrefix-trans kept.log (own before) (own after) sound.log (own-prefix origin before after grows);
  stamps = All-weaker (λ (write : Write). write.stamp ≤ low) (λ (write : Write). write.stamp ≤ high) (λ write below. omega (arith, below)) kept.log sound.stamps;
  cover = Vouches-grows origin before after kept.cover grows sound.cover;
  count = sound.count;
}

-- A sound message is taken.
pub IsSoundKeeping-after : (clock : ℕ) (origin : ℕ) (kept : OriginState) (message : Message) (had : ℕ) (part : List Entry)
    → IsSoundTold message origin had part
    → All (λ (write : Write). write.stamp ≤ clock) (told_writes message origin)
    → IsSoundKeeping clock kept part
    → IsSoundKeeping clock (after_taking origin kept message) part
IsSoundKeeping-after clock origin kept message had part told below sound =
    let first = told_first message origin in
    let writes = told_writes message origin in
    let IsBelow = λ (write : Write). write.stamp ≤ clock in
    let log = log_after kept.log first writes in
    record {
      log = log_after-cases (λ log. IsPrefix log (own part)) kept.log first writes
          (λ fits. IsPrefix-stretch kept.log writes (own part) first sound.log told.writes fits) sound.log;
      stamps = log_after-cases (All IsBelow) kept.log first writes
          (λ fits. All-append IsBelow kept.log (drop (length kept.log - first) writes) sound.stamps (All-drop IsBelow (length kept.log - first) writes below)) sound.stamps;
      cover = cover_after-cases (Vouches part) (length log) kept.cover (told_cover message origin) (λ within. told.cover) sound.cover;
      count = cover_after-cases (λ cover. cover.count ≤ length log) (length log) kept.cover (told_cover message origin) (λ within. within)
          (omega (arith, sound.count, log_after-le kept.log first writes));
    }
