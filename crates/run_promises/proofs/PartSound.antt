-- What a part that can be keeps: its logs have their writes in their places and within their limits, and its covers
-- stand within its logs.
use Rattle.std.proofs.Common.{◌≡◌, ℕ, ◌+◌, ◌-◌, ◌<◌, ◌≤◌, ◌==◌, true, List, [], ◌∷◌, ◌++◌, length, get_or, drop, All, Option, None, Some, refl, sym, ap, ◌∙◌, subst, ⊎_elim, le_trans, arith}
use Rattle.std.proofs.lemmas.Bool.{cases_lt, eqb-true}
use Rattle.std.proofs.lemmas.List.{length_push, length-append, length-drop, get_or_append_left, get_or-append-add, get_or-drop, get_or-map, get_or_past}
use Rattle.std.proofs.lemmas.List.Elements.{All-nil, All-push, All-append, All-weaker, All-filter, All-drop, filter_passes}
use Rattle.std.proofs.lemmas.List.FromFn.{get_or-range_with_len}
use Rattle.std.proofs.lemmas.Option.{same_Some}
use Rattle.tact_base.proofs.LogsLemmas.{log_after-le, log_after-cases}
use Rattle.tact_base.proofs.CoversLemmas.{cover_after-cases}
use Rattle.tact_base.proofs.ListLemmas.{from_right}
use Rattle.tact_base.specs.Covers.{no_cover, cover_after}
use Rattle.tact_base.specs.Logs.{log_after}
use Rattle.tact_base.specs.declared.limits.TheConstants.{MOMENT_MAX, STAMP_MAX, HISTORY_MAX}
use Rattle.tact_base.specs.declared.write.Cover.{Cover}
use Rattle.tact_base.specs.declared.write.Write.{Write}
use Rattle.tact_base.specs.Setup.{Setup}
use Rattle.run_model.specs.Histories.{last_moment, taken_by_act}
use Rattle.run_model.specs.OwnWrites.{own}
use Rattle.run_model.specs.Taking.{OriginState, origin_state, told_cover, told_first, told_writes, have, clock}
use Rattle.run_model.specs.Order.{point}
use Rattle.run_model.specs.Ranges.{IsWriteInRange, IsMessageInRange, IsEntryInRange}
use Rattle.run_model.specs.Runs.{IsDue, Fits, FitsIfTaken, MayFollow, IsPart}
use Rattle.run_model.specs.declared.entry.Act.{Act}
use Rattle.run_model.specs.declared.entry.Act.TheVariants as act
use Rattle.run_model.specs.declared.entry.Entry.{Entry}
use Rattle.run_model.specs.declared.entry.Message.{Message}
use Rattle.run_model.proofs.PrefixLemmas.{IsPrefix-append, EachAfter-prefix, EachAfter-last}
use Rattle.run_model.proofs.PartLemmas.{accepted_in, taken_by, own-push_none, own-push_some, origin_state-push_none, origin_state-push_some, last_moment-push}
use Rattle.run_model.proofs.Accepted.{log_of-other, accepted_is_next}
use Rattle.run_model.proofs.ClockLemmas.{clock-le-push, told-le-clock}
use Rattle.run_model.proofs.ClockBound.{clock-push-within}
use Rattle.run_model.proofs.EntriesInRange.{IsAskedInRange, acted_is_asked}
use Rattle.run_model.proofs.Sound.{IsNumbered}
use Rattle.run_model.proofs.SoundOwn.{IsNumbered-push}
use Rattle.run_model.proofs.SoundRuns.{IsNumbered-nil}
use Rattle.run_promises.proofs.Fitting.{taken_in_range}

-- a log of an origin, at a replica with this clock
pub record IsSoundLog (setup : Setup) (clock origin : ℕ) (log : List Write) : Type 0 where
  pub origins : All (λ (write : Write). write.origin ≡ origin) log
  pub indices : (place : ℕ) (d : Write) → place < length log → (get_or log place d).index ≡ place
  pub in_range : All (IsWriteInRange setup) log
  pub stamps : All (λ (write : Write). write.stamp ≤ clock) log
  pub few : length log ≤ HISTORY_MAX

-- a cover, where the log has so many writes
pub record IsSoundCover (clock has : ℕ) (cover : Cover) : Type 0 where
  pub count : cover.count ≤ has
  pub stamp : cover.stamp ≤ clock
  pub moment : cover.moment ≤ MOMENT_MAX

-- a part whose logs and covers are so
pub record PartSound (setup : Setup) (replica : ℕ) (part : List Entry) : Type 0 where
  pub in_order : IsNumbered replica part
  pub asked : All (IsAskedInRange setup) (own part)
  pub clock_most : clock part ≤ STAMP_MAX
  pub last_most : last_moment part ≤ MOMENT_MAX
  pub few : length part ≤ HISTORY_MAX
  pub entries : All (IsEntryInRange setup) part
  pub logs : (origin : ℕ)
      → origin < setup.replicas
      → (origin ≡ replica → ⊥)
      → IsSoundLog setup (clock part) origin (origin_state part origin).log
  pub covers : (origin : ℕ)
      → origin < setup.replicas
      → (origin ≡ replica → ⊥)
      → IsSoundCover (clock part) (length (origin_state part origin).log) (origin_state part origin).cover

-- a log goes on being so while the clock rises
IsSoundLog-rises : (setup : Setup) (low high origin : ℕ) (log : List Write)
    → low ≤ high
    → IsSoundLog setup low origin log
    → IsSoundLog setup high origin log
IsSoundLog-rises setup low high origin log rises sound = record {
  origins = sound.origins;
  indices = sound.indices;
  in_range = sound.in_range;
  stamps = All-weaker (λ (write : Write). write.stamp ≤ low) (λ (write : Write). write.stamp ≤ high) (λ write below. le_trans below rises) log sound.stamps;
  few = sound.few;
}

-- the covers of a message in range, those past its replicas among them
told_stamps : (setup : Setup) (message : Message)
    → IsMessageInRange setup message
    → (origin : ℕ)
    → (told_cover message origin).stamp ≤ STAMP_MAX
told_stamps setup message in_range origin = ⊎_elim
    (λ (within : origin < setup.replicas). (in_range.told origin within).stamp)
    (λ (past : setup.replicas ≤ origin).
    let none : told_cover message origin ≡ no_cover = get_or_past message.covers origin no_cover (omega (arith, past, in_range.covers)) in
    omega (arith, ap (λ (c : Cover). c.stamp) none))
    (cases_lt origin setup.replicas)

-- An entry that may follow a part that is so.
module _ (setup : Setup) (part : List Entry) (entry : Entry) (sound : PartSound setup entry.replica part) (due : IsDue setup part entry) (fits : FitsIfTaken setup entry.replica part entry.act) where
  abbrev longer : List Entry
  longer = part ++ entry ∷ []

  asked_more : (accepted : Option Write)
      → accepted_in entry ≡ accepted
      → All (IsAskedInRange setup) (own longer)
  asked_more None none = subst (All (IsAskedInRange setup)) (sym (own-push_none part entry none)) sound.asked
  asked_more (Some write) some =
      subst (All (IsAskedInRange setup)) (sym (own-push_some part entry write some))
      (All-push (IsAskedInRange setup) (own part) write sound.asked (acted_is_asked setup entry.replica entry.moment entry.act write due.in_range.act some))

  clock_within : clock longer ≤ STAMP_MAX
  clock_within =
      clock-push-within STAMP_MAX part entry sound.clock_most
      (λ write some. omega (arith, (accepted_is_next setup part entry write due some).stamp, due.clock_below))
      (λ message some. told_stamps setup message (taken_in_range setup entry.replica entry.act message due.in_range.act some))

  fits_taken : (message : Message)
      → taken_by entry ≡ Some message
      → Fits setup entry.replica part message
  fits_taken message some = go entry.act fits some
    where
      go : (done : Act)
          → FitsIfTaken setup entry.replica part done
          → taken_by_act done ≡ Some message
          → Fits setup entry.replica part message
      go (act.Take taken) fits some = subst (Fits setup entry.replica part) (same_Some taken message some) fits
      go (act.Call client number asked given) fits some = cc
      go (act.Send sent) fits some = cc
      go (act.Lend to conit amount) fits some = cc
      go (act.Back owner conit amount) fits some = cc
      go act.Restart fits some = cc

  -- What is kept of another origin.
  module _ (origin : ℕ) (within : origin < setup.replicas) (other : origin ≡ entry.replica → ⊥) where
    abbrev kept : OriginState
    kept = origin_state part origin

    log_before : IsSoundLog setup (clock longer) origin kept.log
    log_before = IsSoundLog-rises setup (clock part) (clock longer) origin kept.log (clock-le-push part entry) (sound.logs origin within other)

    -- a message that is taken
    module _ (message : Message) (takes : taken_by entry ≡ Some message) where
      abbrev told : List Write
      told = told_writes message origin

      abbrev held : ℕ
      held = length kept.log - told_first message origin

      in_range : IsMessageInRange setup message
      in_range = (fits_taken message takes).in_range

      has : have entry.replica part origin ≡ length kept.log
      has = ap length (log_of-other entry.replica part origin other)

      log_more : told_first message origin ≤ length kept.log
          → IsSoundLog setup (clock longer) origin (kept.log ++ drop held told)
      log_more reaches = record {
        origins = All-append IsOfOrigin kept.log (drop held told) log_before.origins
            (All-drop IsOfOrigin held told
            (All-weaker (λ (write : Write). (write.origin == origin) ≡ true) IsOfOrigin (λ write is. eqb-true write.origin origin is) told
            (filter_passes (λ (write : Write). write.origin == origin) message.writes)));
        indices = λ place d inside. ⊎_elim
            (λ (early : place < length kept.log). rw (get_or_append_left kept.log (drop held told) d place early) (log_before.indices place d early))
            (λ (late : length kept.log ≤ place).
            let at : place ≡ length kept.log + (place - length kept.log) = omega (arith, late) in
            let k = place - length kept.log in
            let few : held + k < length told = omega (arith, inside, late, length-append kept.log (drop held told), length-drop held told) in
            let reads : get_or (kept.log ++ drop held told) place d ≡ get_or told (held + k) d =
            ap (λ i. get_or (kept.log ++ drop held told) i d) at ∙ get_or-append-add kept.log (drop held told) k d ∙ get_or-drop held told k d in
            let placed : (get_or told (held + k) d).index ≡ told_first message origin + (held + k) =
            sym (get_or-map index told (held + k) d 0 few) ∙ ap (λ places. get_or places (held + k) 0) (in_range.told origin within).indices
            ∙ get_or-range_with_len (told_first message origin) (length told) (held + k) 0 few in
            omega (arith, ap index reads, placed, reaches, at))
            (cases_lt place (length kept.log));
        in_range = All-append (IsWriteInRange setup) kept.log (drop held told) log_before.in_range
            (All-drop (IsWriteInRange setup) held told (All-filter (λ (write : Write). write.origin == origin) (IsWriteInRange setup) message.writes in_range.writes));
        stamps = All-append IsBelow kept.log (drop held told) log_before.stamps new_stamps;
        few = ⊎_elim
            (λ (nothing : length told < held). omega (arith, log_before.few, length-append kept.log (drop held told), length-drop held told, nothing))
            (λ (some : held ≤ length told).
            omega (
              arith,
              length-append kept.log (drop held told),
              length-drop held told,
              some,
              reaches,
              (in_range.told origin within).told,
              (in_range.told origin within).first,
              (in_range.told origin within).have,
            ))
            (cases_lt (length told) held);
      }
        where
          IsOfOrigin : Write → Type 0
          IsOfOrigin write = write.origin ≡ origin

          IsBelow : Write → Type 0
          IsBelow write = write.stamp ≤ clock longer

          index : Write → ℕ
          index write = write.index

          new_stamps : All IsBelow (drop held told)
          new_stamps =
              let heard = told-le-clock part entry message takes message.from in
              let added = (fits_taken message takes).stamps origin within (omega (arith, reaches, has)) in
              let same : have entry.replica part origin - told_first message origin ≡ held = omega (arith, has) in
              let here = subst (λ n. All (λ (write : Write). (point setup entry.replica part < write.stamp) × (write.stamp ≤ (told_cover message message.from).stamp)) (drop n told)) same added in
              λ k d inside. le_trans (here k d inside).1 heard

      log_after_take : IsSoundLog setup (clock longer) origin (log_after kept.log (told_first message origin) told)
      log_after_take = log_after-cases (IsSoundLog setup (clock longer) origin) kept.log (told_first message origin) told log_more log_before

      cover_after_take : IsSoundCover (clock longer) (length (log_after kept.log (told_first message origin) told))
          (cover_after (length (log_after kept.log (told_first message origin) told)) kept.cover (told_cover message origin))
      cover_after_take =
          let has = length (log_after kept.log (told_first message origin) told) in
          let before = sound.covers origin within other in
          cover_after-cases (IsSoundCover (clock longer) has) has kept.cover (told_cover message origin)
          (λ fits. record { count = fits; stamp = told-le-clock part entry message takes origin; moment = (in_range.told origin within).moment })
          (record { count = le_trans before.count (log_after-le kept.log (told_first message origin) told); stamp = le_trans before.stamp (clock-le-push part entry); moment = before.moment })

    kept_log : (taken : Option Message)
        → taken_by entry ≡ taken
        → IsSoundLog setup (clock longer) origin (origin_state longer origin).log
    kept_log None none = subst (λ (k : OriginState). IsSoundLog setup (clock longer) origin k.log) (sym (origin_state-push_none part entry origin none)) log_before
    kept_log (Some message) some = subst (λ (k : OriginState). IsSoundLog setup (clock longer) origin k.log) (sym (origin_state-push_some part entry origin message some)) (log_after_take message some)

    kept_cover : (taken : Option Message)
        → taken_by entry ≡ taken
        → IsSoundCover (clock longer) (length (origin_state longer origin).log) (origin_state longer origin).cover
    kept_cover None none =
        let before = sound.covers origin within other in
        subst (λ (k : OriginState). IsSoundCover (clock longer) (length k.log) k.cover) (sym (origin_state-push_none part entry origin none))
        (record { count = before.count; stamp = le_trans before.stamp (clock-le-push part entry); moment = before.moment })
    kept_cover (Some message) some =
        subst (λ (k : OriginState). IsSoundCover (clock longer) (length k.log) k.cover) (sym (origin_state-push_some part entry origin message some)) (cover_after_take message some)

  PartSound-push : PartSound setup entry.replica longer
  PartSound-push = record {
    in_order = IsNumbered-push setup part entry due sound.in_order;
    asked = asked_more (accepted_in entry) refl;
    clock_most = clock_within;
    last_most = omega (arith, last_moment-push part entry, due.in_range.moment);
    few = omega (arith, length_push part entry, due.room);
    entries = All-push (IsEntryInRange setup) part entry sound.entries due.in_range;
    logs = λ origin within other. kept_log origin within other (taken_by entry) refl;
    covers = λ origin within other. kept_cover origin within other (taken_by entry) refl;
  }

PartSound-nil : (setup : Setup) (replica : ℕ) → PartSound setup replica []
PartSound-nil setup replica = record {
  in_order = IsNumbered-nil replica;
  asked = All-nil (IsAskedInRange setup);
  clock_most = omega arith;
  last_most = omega arith;
  few = omega arith;
  entries = All-nil (IsEntryInRange setup);
  logs = λ origin within other. record {
    origins = All-nil (λ (write : Write). write.origin ≡ origin);
    indices = λ place d inside. absurd (omega arith);
    in_range = All-nil (IsWriteInRange setup);
    stamps = All-nil (λ (write : Write). write.stamp ≤ 0);
    few = omega arith;
  };
  covers = λ origin within other. record { count = omega arith; stamp = omega arith; moment = omega arith };
}

-- Every part that can be is so.
pub PartSound-part : (setup : Setup) (replica : ℕ) (part : List Entry)
    → IsPart setup replica part
    → PartSound setup replica part
PartSound-part setup replica part = from_right (λ part. IsPart setup replica part → PartSound setup replica part)
    (λ is. PartSound-nil setup replica)
    (λ before entry sound is.
    let (here, due, fits) = EachAfter-last (MayFollow setup replica) before entry is in
    let earlier = sound (EachAfter-prefix (MayFollow setup replica) before (before ++ entry ∷ []) (IsPrefix-append before (entry ∷ [])) is) in
    subst (λ r. PartSound setup r (before ++ entry ∷ [])) here
    (PartSound-push setup before entry (subst (λ r. PartSound setup r before) (sym here) earlier) due
    (subst (λ r. FitsIfTaken setup r before entry.act) (sym here) fits)))
    part
