-- What a sent message tells is so, and stays so.
use Rattle.std.proofs.Common.{◌≡◌, ◌≢◌, ℕ, ◌<◌, ◌≤◌, ◌==◌, min, max, Bool, true, false, cond, slice_index, List, []}
use Rattle.std.proofs.Common.{length, take, drop, filter, flat_map, All, refl, sym, ap, ap₂, ◌∙◌, subst, ⊎_elim, arith}
use Rattle.std.specs.List.{range_with_len}
use Rattle.std.proofs.lemmas.Bool.{cases_eq, cases_lt, eq-eqb, ne_eqb}
use Rattle.std.proofs.lemmas.List.Elements.{All-weaker, All-take, All-drop}
use Rattle.tact_base.proofs.ListLemmas.{All-flat_map, All-range, filter_all, filter_none, filter-flat_map, flat_map_none, flat_map_at, get_or-map_range, get_or-map_range_past}
use Rattle.tact_base.specs.declared.limits.TheConstants.{MESSAGE_WRITES}
use Rattle.tact_base.specs.declared.write.Cover.{Cover}
use Rattle.tact_base.specs.declared.write.Write.{Write}
use Rattle.tact_base.specs.Setup.{Setup, replicas_of}
use Rattle.run_model.specs.Histories.{part_of, last_moment, IsPrefix}
use Rattle.run_model.specs.OwnWrites.{own}
use Rattle.tact_base.specs.Covers.{no_cover}
use Rattle.run_model.specs.Taking.{origin_state, told_have, told_cover, told_first, told_writes, log_of, have, clock, cover_of, known}
use Rattle.run_model.specs.Messages.{first_for, message_of}
use Rattle.run_model.specs.declared.entry.Entry.{Entry}
use Rattle.run_model.specs.declared.entry.Message.{Message}
use Rattle.run_model.proofs.PrefixLemmas.{IsPrefix-nil, IsPrefix-trans, IsPrefix-take, IsPrefix-filter, IsPrefix-drop}
use Rattle.run_model.proofs.Growth.{Grows}
use Rattle.run_model.proofs.Sound.{IsNumbered, Vouches, IsSoundTold, IsSoundMessage, Sound}
use Rattle.run_model.proofs.SoundKeeping.{own-prefix, Vouches-empty, Vouches-grows}
use Rattle.run_model.proofs.SoundViews.{own_cover, cover_of-same, cover_of-other, Vouches-own, Sound-log, Sound-origins, Sound-stamps, Sound-count}

-- what was told stays so
pub IsSoundTold-grows : (message : Message) (origin had has : ℕ) (before after : List Entry)
    → had ≤ has
    → Grows origin before after
    → IsSoundTold message origin had before
    → IsSoundTold message origin has after
IsSoundTold-grows message origin had has before after more grows told = record {
  have = omega (arith, told.have);
  first = omega (arith, told.first);
  writes = IsPrefix-trans (told_writes message origin) (drop (told_first message origin) (own before)) (drop (told_first message origin) (own after)) told.writes
      (IsPrefix-drop (told_first message origin) (own before) (own after) (own-prefix origin before after grows));
  cover = Vouches-grows origin before after (told_cover message origin) grows told.cover;
  count = told.count;
}

pub IsSoundMessage-grows : (history further : List Entry) (sender : ℕ) (message : Message)
    → ((replica : ℕ) → Grows replica (part_of history replica) (part_of further replica))
    → IsSoundMessage history sender message
    → IsSoundMessage further sender message
IsSoundMessage-grows history further sender message grows sound = record {
  from = sound.from;
  told = λ origin. IsSoundTold-grows message origin (have sender (part_of history sender) origin) (have sender (part_of further sender) origin) (part_of history origin)
      (part_of further origin) ((grows sender).have origin) (grows origin) (sound.told origin);
  stamps = sound.stamps;
}

-- Of lists of writes of one origin each, joined by origin, the writes of one.
module _ (writes_of : ℕ → List Write) (each : (origin : ℕ) → All (λ (write : Write). write.origin ≡ origin) (writes_of origin)) (len : ℕ) (origin : ℕ) where
  of_other : (other : ℕ)
      → other ≢ origin
      → filter (λ (write : Write). write.origin == origin) (writes_of other) ≡ []
  of_other other differ =
      filter_none (λ (write : Write). write.origin == origin) (writes_of other)
      (All-weaker (λ (write : Write). write.origin ≡ other) (λ (write : Write). (write.origin == origin) ≡ false)
      (λ write is. ne_eqb write.origin origin (λ same. differ (sym is ∙ same))) (writes_of other) (each other))

  of_same : filter (λ (write : Write). write.origin == origin) (writes_of origin) ≡ writes_of origin
  of_same =
      filter_all (λ (write : Write). write.origin == origin) (writes_of origin)
      (All-weaker (λ (write : Write). write.origin ≡ origin) (λ (write : Write). (write.origin == origin) ≡ true) (λ write is. eq-eqb write.origin origin is) (writes_of origin) (each origin))

  pub joined-within : origin < len
      → filter (λ (write : Write). write.origin == origin) (flat_map writes_of (range_with_len 0 len)) ≡ writes_of origin
  joined-within within =
      filter-flat_map (λ (write : Write). write.origin == origin) writes_of (range_with_len 0 len)
      ∙ flat_map_at (λ other. filter (λ (write : Write). write.origin == origin) (writes_of other)) 0 len origin (omega arith) (omega arith) of_other
      ∙ of_same

  pub joined-past : len ≤ origin
      → filter (λ (write : Write). write.origin == origin) (flat_map writes_of (range_with_len 0 len)) ≡ []
  joined-past past =
      filter-flat_map (λ (write : Write). write.origin == origin) writes_of (range_with_len 0 len)
      ∙ flat_map_none (λ other. filter (λ (write : Write). write.origin == origin) (writes_of other)) (range_with_len 0 len)
      (All-range (λ other. filter (λ (write : Write). write.origin == origin) (writes_of other) ≡ []) 0 len (λ other low high. of_other other (λ same. absurd (omega arith))))

-- The message that a replica sends after a sound history, at a moment.
module _ (setup : Setup) (history : List Entry) (sound : Sound setup history) (replica : ℕ) (at to : ℕ) (given : List ℕ) where
  abbrev part : List Entry
  part = part_of history replica

  abbrev message : Message
  message = message_of setup replica part at to given

  -- what it has of an origin, before it is cut to its room
  abbrev pub onward : ℕ → List Write
  onward origin = drop (first_for replica part to given origin) (log_of replica part origin)

  pub onward-origins : (origin : ℕ) → All (λ (write : Write). write.origin ≡ origin) (onward origin)
  onward-origins origin =
      All-drop (λ (write : Write). write.origin ≡ origin) (first_for replica part to given origin) (log_of replica part origin) (Sound-origins setup history sound replica origin)

  pub first_for-le : (origin : ℕ)
      → first_for replica part to given origin ≤ have replica part origin
  first_for-le origin = go (origin == to)
    where
      go : (own : Bool)
          → cond own (have replica part origin) (min (have replica part origin) (max (slice_index given origin) (known part to origin))) ≤ have replica part origin
      go true = omega arith
      go false = omega arith

  -- the clock that it tells is above its writes
  sent_stamps : replica < setup.replicas
      → All (λ (write : Write). write.stamp ≤ (told_cover message replica).stamp) message.writes
  sent_stamps within =
      let IsBelow = λ (write : Write). write.stamp ≤ clock part in
      let told : told_cover message replica ≡ own_cover part at =
      get_or-map_range (cover_of replica part at) setup.replicas replica no_cover within ∙ cover_of-same replica part at in
      let below : All IsBelow message.writes =
      All-take IsBelow MESSAGE_WRITES (flat_map onward (replicas_of setup))
      (All-flat_map IsBelow onward (replicas_of setup)
      (All-range (λ origin. All IsBelow (onward origin)) 0 setup.replicas
      (λ origin low high. All-drop IsBelow (first_for replica part to given origin) (log_of replica part origin) (Sound-stamps setup history sound replica origin)))) in
      subst (λ cover. All (λ (write : Write). write.stamp ≤ cover.stamp) message.writes) (sym told) below

  -- its writes of an origin are a front of what it has onward
  pub told_writes-within : (origin : ℕ)
      → origin < setup.replicas
      → IsPrefix (told_writes message origin) (onward origin)
  told_writes-within origin within =
      let whole = flat_map onward (replicas_of setup) in
      subst (IsPrefix (told_writes message origin)) (joined-within onward onward-origins setup.replicas origin within)
      (IsPrefix-filter (λ (write : Write). write.origin == origin) (take MESSAGE_WRITES whole) whole (IsPrefix-take MESSAGE_WRITES whole))

  told_writes-past : (origin : ℕ)
      → setup.replicas ≤ origin
      → IsPrefix (told_writes message origin) []
  told_writes-past origin past =
      let whole = flat_map onward (replicas_of setup) in
      subst (IsPrefix (told_writes message origin)) (joined-past onward onward-origins setup.replicas origin past)
      (IsPrefix-filter (λ (write : Write). write.origin == origin) (take MESSAGE_WRITES whole) whole (IsPrefix-take MESSAGE_WRITES whole))

  -- What it tells of an origin, where the sender has at least as many of its writes later on, and the origin's part
  -- goes on.
  module _ (origin had : ℕ) (later : List Entry) where
    told_within : origin < setup.replicas
        → have replica part origin ≤ had
        → IsPrefix (own (part_of history origin)) (own later)
        → Vouches later (cover_of replica part at origin)
        → IsSoundTold message origin had later
    told_within within more prefix vouches =
        let has : told_have message origin ≡ have replica part origin = get_or-map_range (have replica part) setup.replicas origin 0 within in
        let first : told_first message origin ≡ first_for replica part to given origin = get_or-map_range (first_for replica part to given) setup.replicas origin 0 within in
        let cover : told_cover message origin ≡ cover_of replica part at origin = get_or-map_range (cover_of replica part at) setup.replicas origin no_cover within in
        let log : IsPrefix (log_of replica part origin) (own later) =
        IsPrefix-trans (log_of replica part origin) (own (part_of history origin)) (own later) (Sound-log setup history sound replica origin) prefix in
        let front : IsPrefix (told_writes message origin) (drop (first_for replica part to given origin) (own later)) =
        IsPrefix-trans (told_writes message origin) (onward origin) (drop (first_for replica part to given origin) (own later)) (told_writes-within origin within)
        (IsPrefix-drop (first_for replica part to given origin) (log_of replica part origin) (own later) log) in
        record {
          have = omega (arith, has);
          first = omega (arith, first, first_for-le origin);
          writes = subst (λ k. IsPrefix (told_writes message origin) (drop k (own later))) (sym first) front;
          cover = subst (Vouches later) (sym cover) vouches;
          count = omega (arith, has, ap (λ (c : Cover). c.count) cover, Sound-count setup history sound replica origin at);
        }

    -- of what is no replica it tells nothing
    told_past : setup.replicas ≤ origin
        → IsNumbered origin later
        → IsSoundTold message origin had later
    told_past past in_order =
        let has : told_have message origin ≡ 0 = get_or-map_range_past (have replica part) setup.replicas origin 0 past in
        let first : told_first message origin ≡ 0 = get_or-map_range_past (first_for replica part to given) setup.replicas origin 0 past in
        let cover : told_cover message origin ≡ no_cover = get_or-map_range_past (cover_of replica part at) setup.replicas origin no_cover past in
        record {
          have = omega (arith, has);
          first = omega (arith, first);
          writes = IsPrefix-trans (told_writes message origin) [] (drop (told_first message origin) (own later)) (told_writes-past origin past)
              (IsPrefix-nil (drop (told_first message origin) (own later)));
          cover = subst (Vouches later) (sym cover) (Vouches-empty origin later in_order);
          count = omega (arith, has, ap (λ (c : Cover). c.count) cover);
        }

  -- It is sound in a history that goes on with no write and no higher clock of its sender, whose last moment is that of
  -- the message.
  pub IsSoundMessage-sent : (further : List Entry)
      → replica < setup.replicas
      → ((other : ℕ) → Grows other (part_of history other) (part_of further other))
      → own (part_of further replica) ≡ own part
      → clock (part_of further replica) ≡ clock part
      → last_moment (part_of further replica) ≡ at
      → ((other : ℕ) → IsNumbered other (part_of further other))
      → IsSoundMessage further replica message
  IsSoundMessage-sent further within grows same_own same_clock last in_order = record {
    from = refl;
    told = λ origin. ⊎_elim
        (λ (inside : origin < setup.replicas).
        told_within origin (have replica (part_of further replica) origin) (part_of further origin) inside ((grows replica).have origin)
        (own-prefix origin (part_of history origin) (part_of further origin) (grows origin)) (vouches origin))
        (λ (past : setup.replicas ≤ origin). told_past origin (have replica (part_of further replica) origin) (part_of further origin) past (in_order origin))
        (cases_lt origin setup.replicas);
    stamps = sent_stamps within;
  }
    where
      vouches : (origin : ℕ) → Vouches (part_of further origin) (cover_of replica part at origin)
      vouches origin = ⊎_elim
          (λ (same : origin ≡ replica).
          let own_one : Vouches (part_of further replica) (own_cover (part_of further replica) at) = Vouches-own replica (part_of further replica) at (in_order replica) (omega (arith, last)) in
          let is : own_cover (part_of further replica) at ≡ own_cover part at = ap₂ (λ writes stamp. record { count = length writes; stamp = stamp; moment = at }) same_own same_clock in
          rw (same, cover_of-same replica part at) (subst (Vouches (part_of further replica)) is own_one))
          (λ (other : origin ≡ replica → ⊥).
          rw (cover_of-other replica part at origin other)
          (Vouches-grows origin (part_of history origin) (part_of further origin) (origin_state part origin).cover (grows origin) (sound.kept replica origin).cover))
          (cases_eq origin replica)
