-- What one more entry of a part that can be does to its order: the logs go on with writes past the point, so what is
-- committed stays, and the point doesn't fall.
use Rattle.std.proofs.Common.{◌≡◌, ℕ, ◌-◌, ◌<◌, ◌≤◌, false, nat_le, List, [], ◌∷◌, ◌++◌, length, drop, filter, flat_map}
use Rattle.std.proofs.Common.{All, Option, None, Some, refl, sym, ap, ◌∙◌, subst, ⊎_elim, le_of_eq, le_trans, arith}
use Rattle.std.specs.List.{cons_option}
use Rattle.std.proofs.lemmas.Bool.{cases_eq, lt-leb}
use Rattle.std.proofs.lemmas.List.{append-nil, length-map}
use Rattle.std.proofs.lemmas.List.Elements.{All-nil, All-weaker, filter-append}
use Rattle.std.proofs.lemmas.List.FromFn.{length-range_with_len}
use Rattle.std.proofs.lemmas.Option.{same_Some}
use Rattle.tact_base.proofs.CommitLemmas.{committed_to-in_order}
use Rattle.tact_base.proofs.CoversLemmas.{least_stamp-ge}
use Rattle.tact_base.proofs.ListLemmas.{All-one, All-range, filter_none, filter-flat_map, flat_map_agree, get_or-map_range}
use Rattle.tact_base.proofs.LogsLemmas.{log_after-cases}
use Rattle.tact_base.specs.Covers.{no_cover}
use Rattle.tact_base.specs.Setup.{Setup, replicas_of}
use Rattle.tact_base.specs.WriteOrder.{in_order, committed_to}
use Rattle.tact_base.specs.declared.write.Cover.{Cover}
use Rattle.tact_base.specs.declared.write.Write.{Write}
use Rattle.run_model.specs.Histories.{taken_by_act}
use Rattle.run_model.specs.Order.{point, seen, committed}
use Rattle.run_model.specs.OwnWrites.{own}
use Rattle.run_model.specs.Runs.{Fits, FitsIfTaken, MayFollow, IsPart}
use Rattle.run_model.specs.Taking.{OriginState, origin_state, log_of, clock, cover_of, covers_of, told_cover, told_first, told_writes}
use Rattle.run_model.specs.declared.entry.Act.{Act}
use Rattle.run_model.specs.declared.entry.Act.TheVariants as act
use Rattle.run_model.specs.declared.entry.Entry.{Entry}
use Rattle.run_model.specs.declared.entry.Message.{Message}
use Rattle.run_model.proofs.Accepted.{log_of-same, log_of-other, accepted_is_next}
use Rattle.run_model.proofs.Agreement.{point-le}
use Rattle.run_model.proofs.ClockLemmas.{clock-le-push}
use Rattle.run_model.proofs.PartLemmas.{accepted_in, taken_by, own-push, origin_state-push_none, origin_state-push_some}
use Rattle.run_model.proofs.PrefixLemmas.{EachAfter-last}
use Rattle.run_model.proofs.SoundViews.{cover_of-same, cover_of-other}
use Rattle.replica_core.proofs.TakenParts.{cover_after-stamp}

-- a message that an act takes fits, where the act does
pub fits_taken : (setup : Setup) (replica : ℕ) (part : List Entry) (message : Message) (done : Act)
    → FitsIfTaken setup replica part done
    → taken_by_act done ≡ Some message
    → Fits setup replica part message
fits_taken setup replica part message (act.Take taken) fits some = subst (Fits setup replica part) (same_Some taken message some) fits
fits_taken setup replica part message (act.Call client number asked given) fits some = cc
fits_taken setup replica part message (act.Send sent) fits some = cc
fits_taken setup replica part message (act.Lend to conit amount) fits some = cc
fits_taken setup replica part message (act.Back owner conit amount) fits some = cc
fits_taken setup replica part message act.Restart fits some = cc

-- a log goes on with writes past a point
pub record GoesOnPast (point : ℕ) (log after : List Write) : Type 0 where
  pub more : List Write
  pub is : after ≡ log ++ more
  pub past : All (λ (write : Write). point < write.stamp) more

GoesOnPast-refl : (point : ℕ) (log : List Write) → GoesOnPast point log log
GoesOnPast-refl point log = record { more = []; is = sym (append-nil log); past = All-nil (λ (write : Write). point < write.stamp) }

-- what is committed of it stays
GoesOnPast-committed : (point : ℕ) (log after : List Write)
    → GoesOnPast point log after
    → committed_to point after ≡ committed_to point log
GoesOnPast-committed point log after goes_on =
    let test = λ (write : Write). nat_le write.stamp point in
    let none : filter test goes_on.more ≡ [] =
    filter_none test goes_on.more
    (All-weaker (λ (write : Write). point < write.stamp) (λ (write : Write). test write ≡ false) (λ write past. lt-leb write.stamp point past) goes_on.more goes_on.past) in
    ap (filter test) goes_on.is ∙ filter-append test log goes_on.more
    ∙ ap (λ (end : List Write). filter test log ++ end) none
    ∙ append-nil (filter test log)

module _ (setup : Setup) (replica : ℕ) (part : List Entry) (entry : Entry) (is_part : IsPart setup replica (part ++ entry ∷ [])) where
  abbrev further : List Entry
  further = part ++ entry ∷ []

  abbrev before : ℕ
  before = point setup replica part

  pub follows : MayFollow setup replica part entry
  follows = EachAfter-last (MayFollow setup replica) part entry is_part

  pub among : replica < setup.replicas
  among = omega (arith, follows.0, follows.1.in_range.replica)

  point-le-clock : before ≤ clock part
  point-le-clock = omega (arith, point-le setup replica part replica among, ap (λ (cover : Cover). cover.stamp) (cover_of-same replica part 0))

  -- its own log
  own_on : (accepted : Option Write)
      → accepted_in entry ≡ accepted
      → GoesOnPast before (own part) (own part ++ cons_option accepted [])
  own_on None none = record { more = []; is = refl; past = All-nil (λ (write : Write). before < write.stamp) }
  own_on (Some write) some = record {
    more = write ∷ [];
    is = refl;
    past = All-one (λ (write : Write). before < write.stamp) write (omega (arith, (accepted_is_next setup part entry write follows.1 some).stamp, point-le-clock));
  }

  own_goes_on : GoesOnPast before (own part) (own further)
  own_goes_on =
      subst (GoesOnPast before (own part)) (sym (own-push part entry)) (own_on (accepted_in entry) refl)

  -- the log of another origin
  module _ (origin : ℕ) (within : origin < setup.replicas) (other : origin ≡ replica → ⊥) where
    abbrev log : List Write
    log = (origin_state part origin).log

    told_on : (message : Message)
        → Fits setup replica part message
        → told_first message origin ≤ length log
        → GoesOnPast before log (log ++ drop (length log - told_first message origin) (told_writes message origin))
    told_on message fits reaches =
        let count = ap length (log_of-other replica part origin other) in
        let AreAbove = λ (writes : List Write). All (λ (write : Write). (before < write.stamp) × (write.stamp ≤ (told_cover message message.from).stamp)) writes in
        let above = subst (λ (n : ℕ). AreAbove (drop (n - told_first message origin) (told_writes message origin))) count (fits.stamps origin within (omega (arith, count, reaches))) in
        record {
          more = drop (length log - told_first message origin) (told_writes message origin);
          is = refl;
          past = λ k d inside. (above k d inside).0;
        }

    kept_on : (taken : Option Message)
        → taken_by entry ≡ taken
        → GoesOnPast before log (origin_state further origin).log
    kept_on None none = subst (λ (kept : OriginState). GoesOnPast before log kept.log) (sym (origin_state-push_none part entry origin none)) (GoesOnPast-refl before log)
    kept_on (Some message) some =
        subst (λ (kept : OriginState). GoesOnPast before log kept.log) (sym (origin_state-push_some part entry origin message some))
        (log_after-cases (GoesOnPast before log) log (told_first message origin) (told_writes message origin)
        (told_on message (fits_taken setup replica part message entry.act follows.2 some)) (GoesOnPast-refl before log))

    other_goes_on : GoesOnPast before (log_of replica part origin) (log_of replica further origin)
    other_goes_on =
        rw (log_of-other replica part origin other, log_of-other replica further origin other)
        (kept_on (taken_by entry) refl)

  -- each log goes on with writes past the point
  pub log_goes_on : (origin : ℕ)
      → origin < setup.replicas
      → GoesOnPast before (log_of replica part origin) (log_of replica further origin)
  log_goes_on origin within = ⊎_elim
      (λ (same : origin ≡ replica). rw (same, log_of-same replica part, log_of-same replica further) own_goes_on)
      (λ (other : origin ≡ replica → ⊥). other_goes_on origin within other)
      (cases_eq origin replica)

  -- what was committed is what is so far up to that point
  pub committed-kept : committed_to before (seen setup replica further) ≡ committed setup replica part
  committed-kept =
      let test = λ (write : Write). nat_le write.stamp before in
      let log = λ (origin : ℕ). log_of replica part origin in
      let longer = λ (origin : ℕ). log_of replica further origin in
      let same : filter test (flat_map longer (replicas_of setup)) ≡ filter test (flat_map log (replicas_of setup)) =
      filter-flat_map test longer (replicas_of setup)
      ∙ flat_map_agree (λ origin. filter test (longer origin)) (λ origin. filter test (log origin)) (replicas_of setup)
      (All-range (λ origin. filter test (longer origin) ≡ filter test (log origin)) 0 setup.replicas
      (λ origin low high. GoesOnPast-committed before (log origin) (longer origin) (log_goes_on origin (omega (arith, high)))))
      ∙ sym (filter-flat_map test log (replicas_of setup)) in
      committed_to-in_order before (flat_map longer (replicas_of setup)) ∙ ap in_order same ∙ sym (committed_to-in_order before (flat_map log (replicas_of setup)))

  -- no stamp of a cover falls
  kept_stamp : (origin : ℕ) (taken : Option Message)
      → taken_by entry ≡ taken
      → (origin_state part origin).cover.stamp ≤ (origin_state further origin).cover.stamp
  kept_stamp origin None none = le_of_eq (ap (λ (kept : OriginState). kept.cover.stamp) (sym (origin_state-push_none part entry origin none)))
  kept_stamp origin (Some message) some =
      le_trans (cover_after-stamp _ (origin_state part origin).cover _)
      (le_of_eq (ap (λ (kept : OriginState). kept.cover.stamp) (sym (origin_state-push_some part entry origin message some))))

  cover_stamp : (origin : ℕ)
      → (cover_of replica part 0 origin).stamp ≤ (cover_of replica further 0 origin).stamp
  cover_stamp origin = ⊎_elim
      (λ (same : origin ≡ replica). rw (same, cover_of-same replica part 0, cover_of-same replica further 0) (clock-le-push part entry))
      (λ (other : origin ≡ replica → ⊥). rw (cover_of-other replica part 0 origin other, cover_of-other replica further 0 origin other) (kept_stamp origin (taken_by entry) refl))
      (cases_eq origin replica)

  -- nor the point
  pub point-rises : before ≤ point setup replica further
  point-rises =
      let size : length (covers_of setup replica further 0) ≡ setup.replicas = length-map (replicas_of setup) (cover_of replica further 0) ∙ length-range_with_len 0 setup.replicas in
      least_stamp-ge before (covers_of setup replica further 0) no_cover (omega (arith, size, among))
      (λ origin inside.
      let within : origin < setup.replicas = omega (arith, size, inside) in
      let reads = get_or-map_range (cover_of replica further 0) setup.replicas origin no_cover within in
      omega (arith, point-le setup replica part origin within, cover_stamp origin, ap (λ (cover : Cover). cover.stamp) reads))
