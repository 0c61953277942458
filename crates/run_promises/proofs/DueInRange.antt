-- The message that is due after a part that can be is in range.
use Rattle.std.proofs.Common.{◌≡◌, ◌≢◌, ℕ, ◌-◌, ◌*◌, ◌<◌, ◌≤◌, ◌==◌, nat_lt, Bool, true, false, cond, List, [], ◌∷◌}
use Rattle.std.proofs.Common.{length, take, drop, map, filter, flat_map, sum_by, slice_index, max, min, All, refl, sym}
use Rattle.std.proofs.Common.{ap, ◌∙◌, subst, arith}
use Rattle.std.specs.List.{range_with_len}
use Rattle.std.proofs.lemmas.Bool.{eq-eqb, lt-ltb, ltb-true}
use Rattle.std.proofs.lemmas.List.{length-take, length-drop}
use Rattle.std.proofs.lemmas.List.Elements.{All-nil, All-map, All-take, All-drop, All-weaker}
use Rattle.std.proofs.lemmas.List.FromFn.{length-map-range_with_len}
use Rattle.std.proofs.lemmas.List.Sums.{sum_by-le}
use Rattle.tact_base.proofs.ListLemmas.{All-flat_map, All-range, flat_map_agree, get_or-map_range, length-filter_map}
use Rattle.tact_base.specs.Covers.{no_cover}
use Rattle.tact_base.specs.declared.limits.TheConstants.{MOMENT_MAX, LENT_MAX, HISTORY_MAX, MESSAGE_WRITES}
use Rattle.tact_base.specs.declared.write.Cover.{Cover}
use Rattle.tact_base.specs.declared.write.Write.{Write}
use Rattle.tact_base.specs.Setup.{Setup, IsSetup, replicas_of, conits_of}
use Rattle.run_model.specs.Histories.{IsPrefix}
use Rattle.run_model.specs.Taking.{told_have, told_cover, told_first, told_writes, log_of, have, cover_of, known}
use Rattle.run_model.specs.Loans.{lent, returned, lent_by_act, returned_by_act}
use Rattle.run_model.specs.Messages.{first_for, message_of}
use Rattle.run_model.specs.Ranges.{IsWriteInRange, IsToldInRange, IsMessageInRange, IsEntryInRange}
use Rattle.run_model.specs.declared.entry.Entry.{Entry}
use Rattle.run_model.specs.declared.entry.Message.{Message}
use Rattle.run_model.proofs.PrefixLemmas.{IsPrefix-take, IsPrefix-filter, IsPrefix-length}
use Rattle.run_model.proofs.PartLemmas.{sent_by}
use Rattle.run_model.proofs.SoundMessages.{joined-within}
use Rattle.run_model.proofs.WritesByOrigin.{front_is_placed, stretch_has_places}
use Rattle.run_model.proofs.EntriesInRange.{loan_of-most, lent_by-most, returned_by-most}
use Rattle.run_promises.proofs.PartSound.{PartSound}
use Rattle.run_promises.proofs.PartViews.{PartSound-log, PartSound-cover}

-- A replica sends to another after a part that can be.
module _ (setup : Setup) (good : IsSetup setup) (replica : ℕ) (part : List Entry) (sound : PartSound setup replica part) (replica_in : replica < setup.replicas) (room : length part < HISTORY_MAX)
    (at : ℕ) (at_most : at ≤ MOMENT_MAX) (to : ℕ) (to_in : to < setup.replicas) (others : replica ≢ to) (given : List ℕ) where
  abbrev message : Message
  message = message_of setup replica part at to given

  -- what it has of an origin from the first on, and nothing of what is no replica
  abbrev onward : ℕ → List Write
  onward origin = drop (first_for replica part to given origin) (log_of replica part origin)

  abbrev bounded : ℕ → List Write
  bounded origin = cond (nat_lt origin setup.replicas) (onward origin) []

  bounded_is : (origin : ℕ) → origin < setup.replicas → bounded origin ≡ onward origin
  bounded_is origin within = ap (λ yes. cond yes (onward origin) []) (lt-ltb origin setup.replicas within)

  bounded_all : (P : ℕ → Write → Type 0)
      → ((origin : ℕ) → origin < setup.replicas → All (P origin) (onward origin))
      → (origin : ℕ)
      → All (P origin) (bounded origin)
  bounded_all P each origin = go (nat_lt origin setup.replicas) refl
    where
      go : (yes : Bool)
          → nat_lt origin setup.replicas ≡ yes
          → All (P origin) (cond yes (onward origin) [])
      go true is = each origin (ltb-true origin setup.replicas is)
      go false is = All-nil (P origin)

  joined : flat_map onward (replicas_of setup) ≡ flat_map bounded (replicas_of setup)
  joined =
      flat_map_agree onward bounded (replicas_of setup)
      (All-range (λ origin. onward origin ≡ bounded origin) 0 setup.replicas (λ origin low high. sym (bounded_is origin (omega (arith, high)))))

  origins : (origin : ℕ) → All (λ (write : Write). write.origin ≡ origin) (bounded origin)
  origins =
      bounded_all (λ origin write. write.origin ≡ origin) (λ origin within.
      All-drop (λ (write : Write). write.origin ≡ origin) (first_for replica part to given origin) (log_of replica part origin) (PartSound-log setup replica part sound origin within).origins)

  first-le : (origin : ℕ) → first_for replica part to given origin ≤ have replica part origin
  first-le origin = go (origin == to)
    where
      go : (own : Bool)
          → cond own (have replica part origin) (min (have replica part origin) (max (slice_index given origin) (known part to origin))) ≤ have replica part origin
      go true = omega arith
      go false = omega arith

  sent_writes : All (IsWriteInRange setup) message.writes
  sent_writes =
      All-take (IsWriteInRange setup) MESSAGE_WRITES (flat_map onward (replicas_of setup))
      (All-flat_map (IsWriteInRange setup) onward (replicas_of setup)
      (All-range (λ origin. All (IsWriteInRange setup) (onward origin)) 0 setup.replicas
      (λ origin low high.
      All-drop (IsWriteInRange setup) (first_for replica part to given origin) (log_of replica part origin) (PartSound-log setup replica part sound origin (omega (arith, high))).in_range)))

  -- What it tells of an origin.
  module _ (origin : ℕ) (within : origin < setup.replicas) where
    has : told_have message origin ≡ have replica part origin
    has = get_or-map_range (have replica part) setup.replicas origin 0 within

    first : told_first message origin ≡ first_for replica part to given origin
    first = get_or-map_range (first_for replica part to given) setup.replicas origin 0 within

    cover : told_cover message origin ≡ cover_of replica part at origin
    cover = get_or-map_range (cover_of replica part at) setup.replicas origin no_cover within

    front : IsPrefix (told_writes message origin) (onward origin)
    front =
        let is_here = λ (write : Write). write.origin == origin in
        let whole = flat_map onward (replicas_of setup) in
        let of_origin : filter is_here whole ≡ onward origin =
        ap (filter is_here) joined ∙ joined-within bounded origins setup.replicas origin within ∙ bounded_is origin within in
        subst (IsPrefix (told_writes message origin)) of_origin
        (IsPrefix-filter is_here (take MESSAGE_WRITES whole) whole (IsPrefix-take MESSAGE_WRITES whole))

    told_few : length (told_writes message origin) ≤ have replica part origin - first_for replica part to given origin
    told_few =
        omega (arith, IsPrefix-length (told_writes message origin) (onward origin) front, length-drop (first_for replica part to given origin) (log_of replica part origin))

    first_of_own : origin ≡ to → first_for replica part to given origin ≡ have replica part origin
    first_of_own same = rw (eq-eqb origin to same) refl

    told_none : origin ≡ to → told_writes message origin ≡ []
    told_none same = nil (told_writes message origin) (omega (arith, told_few, first_of_own same))
      where
        nil : (writes : List Write) → length writes ≤ 0 → writes ≡ []
        nil [] few = refl
        nil (write ∷ writes) few = absurd (omega (arith, few))

    told_places : map (λ (write : Write). write.index) (told_writes message origin) ≡ range_with_len (told_first message origin) (length (told_writes message origin))
    told_places =
        stretch_has_places (log_of replica part origin) (told_writes message origin) (told_first message origin) (PartSound-log setup replica part sound origin within).indices
        (subst (λ k. IsPrefix (told_writes message origin) (drop k (log_of replica part origin))) (sym first) front)

    told_in_range : IsToldInRange message origin
    told_in_range =
        let sound_cover = PartSound-cover setup replica part sound at at_most origin within in
        record {
          have = omega (arith, has, (PartSound-log setup replica part sound origin within).few);
          count = omega (arith, has, ap (λ (c : Cover). c.count) cover, sound_cover.count);
          stamp = omega (arith, ap (λ (c : Cover). c.stamp) cover, sound_cover.stamp, sound.clock_most);
          moment = omega (arith, ap (λ (c : Cover). c.moment) cover, sound_cover.moment);
          first = omega (arith, has, first, first-le origin);
          told = omega (arith, has, first, told_few);
          receiver = told_none;
          indices = told_places;
        }

  -- all that was lent and returned
  lent_within : (conit : ℕ) → conit < setup.conits → lent setup replica part to conit ≤ LENT_MAX
  lent_within conit conit_in =
      let amount = λ (entry : Entry). lent_by_act to conit entry.act in
      let most : sum_by amount part ≤ length part * 1000000000000 =
      sum_by-le amount 1000000000000 part
      (All-weaker (IsEntryInRange setup) (λ entry. amount entry ≤ 1000000000000) (λ entry within. lent_by-most setup entry.replica to conit entry.act within.act) part sound.entries) in
      omega (arith, most, room, loan_of-most setup good replica conit to replica_in conit_in to_in)

  returned_within : (conit : ℕ) → returned part to conit ≤ LENT_MAX
  returned_within conit =
      let amount = λ (entry : Entry). returned_by_act to conit entry.act in
      let most : sum_by amount part ≤ length part * 1000000000000 =
      sum_by-le amount 1000000000000 part
      (All-weaker (IsEntryInRange setup) (λ entry. amount entry ≤ 1000000000000) (λ entry within. returned_by-most setup entry.replica to conit entry.act within.act) part sound.entries) in
      omega (arith, most, room)

  pub due_message_in_range : IsMessageInRange setup message
  due_message_in_range = record {
    from = replica_in;
    to = to_in;
    others = others;
    number = omega (arith, length-filter_map sent_by part, room);
    haves = length-map-range_with_len (have replica part) 0 setup.replicas;
    covers = length-map-range_with_len (cover_of replica part at) 0 setup.replicas;
    firsts = length-map-range_with_len (first_for replica part to given) 0 setup.replicas;
    lent = length-map-range_with_len (lent setup replica part to) 0 setup.conits;
    returned = length-map-range_with_len (returned part to) 0 setup.conits;
    told = told_in_range;
    lent_most = All-map (λ number. number ≤ LENT_MAX) (lent setup replica part to) (conits_of setup)
        (All-range (λ conit. lent setup replica part to conit ≤ LENT_MAX) 0 setup.conits (λ conit low high. lent_within conit (omega (arith, high))));
    returned_most = All-map (λ number. number ≤ LENT_MAX) (returned part to) (conits_of setup)
        (All-range (λ conit. returned part to conit ≤ LENT_MAX) 0 setup.conits (λ conit low high. returned_within conit));
    few = omega (arith, length-take MESSAGE_WRITES (flat_map onward (replicas_of setup)));
    placed =
        subst (λ (whole : List Write). take MESSAGE_WRITES whole ≡ flat_map (λ origin. filter (λ (write : Write). write.origin == origin) (take MESSAGE_WRITES whole)) (replicas_of setup)) (sym joined)
        (front_is_placed bounded origins MESSAGE_WRITES 0 setup.replicas);
    writes = sent_writes;
  }
