-- Each event leaves a network sound.
use Rattle.std.proofs.Common.{◌≡◌, ◌≢◌, ◌⊎◌, inl, inr, ℕ, ◌+◌, ◌-◌, ◌<◌, ◌≤◌, ◌==◌, Bool, true, false, List, [], ◌∷◌, ◌++◌, All, drop, filter, flat_map, get_or, get_or-set_other, get_or-set_same, length, map, set, take, refl, sym, ap, ap₂, ◌∙◌, subst, ⊎_elim, arith}
use Rattle.std.specs.Prelude.{nat_le}
use Rattle.std.specs.List.{range_with_len}
use Rattle.std.proofs.lemmas.Bool.{cases_eq, cases_lt, cond-false, cond-true, eq-eqb, eqb-true, leb-true, ne_eqb}
use Rattle.std.proofs.lemmas.List.{append-nil, get_or-drop, get_or_append_left, get_or_past, get_or_push, length-drop, length-append, length-map, length-set, length-take, length_push, map-append, nil_from_length}
use Rattle.std.proofs.lemmas.List.Elements.{All-drop, All-take, All-weaker, filter-append, filter_passes}
use Rattle.std.proofs.lemmas.List.FromFn.{length-range_with_len}
use Rattle.tact_base.proofs.ListLemmas.{All-flat_map, All-one, filter-flat_map, filter_all, filter_none, flat_map_at, flat_map_none, get_or-map_range, get_or-map_range_past, All-range}
use Rattle.tact_base.specs.declared.write.Op.{Op}
use Rattle.run_model.specs.Histories.{IsPrefix}
use Rattle.run_model.proofs.PrefixLemmas.{IsPrefix-append, IsPrefix-drop, IsPrefix-filter, IsPrefix-length, IsPrefix-reads, IsPrefix-refl, IsPrefix-same, IsPrefix-stretch, IsPrefix-take, IsPrefix-trans}
use Rattle.primary_commit.specs.Networks.{Network, peer_at}
use Rattle.primary_commit.specs.Peers.{IsFor, PeerState, accepted_item, added, after_accept, after_post, after_take, all_added, first_told, items_of, log_of, notice_of, origins, pick_of, place_told, primary, told_on}
use Rattle.primary_commit.specs.declared.items.Item.{Item}
use Rattle.primary_commit.specs.declared.items.Notice.{Notice}
use Rattle.primary_commit.specs.declared.items.Pick.{Pick}
use Rattle.primary_commit.proofs.SoundNetworks.{ArePlaced, IsSound, IsSoundNotice, MayBecome, is_from, order, own_log}

-- what is picked of the items of an origin
filter-picks : (origin : ℕ) (items : List Item)
    → filter (is_from origin) (map pick_of items) ≡ map pick_of (filter (λ (item : Item). item.origin == origin) items)
filter-picks origin [] = refl
filter-picks origin (item ∷ items) = go (item.origin == origin) refl (filter-picks origin items)
  where
    go : (is : Bool)
        → (item.origin == origin) ≡ is
        → filter (is_from origin) (map pick_of items) ≡ map pick_of (filter (λ (one : Item). one.origin == origin) items)
        → filter (is_from origin) (map pick_of (item ∷ items)) ≡ map pick_of (filter (λ (one : Item). one.origin == origin) (item ∷ items))
    go true is rest = rw (is, rest) refl
    go false is rest = rw (is, rest) refl

abbrev AreFrom : ℕ → List Item → Type 0
AreFrom origin items = All (λ (item : Item). item.origin ≡ origin) items

-- of items of one origin, those of an origin
own_ones : (origin : ℕ) (items : List Item) → AreFrom origin items → filter (λ (item : Item). item.origin == origin) items ≡ items
own_ones origin items from =
    filter_all (λ (item : Item). item.origin == origin) items
    (All-weaker (λ (item : Item). item.origin ≡ origin) (λ (item : Item). item.origin == origin ≡ true) (λ item is. eq-eqb item.origin origin is) items from)

no_others : (origin other : ℕ) (items : List Item) → AreFrom other items → other ≢ origin → filter (λ (item : Item). item.origin == origin) items ≡ []
no_others origin other items from apart =
    filter_none (λ (item : Item). item.origin == origin) items
    (All-weaker (λ (item : Item). item.origin ≡ other) (λ (item : Item). item.origin == origin ≡ false) (λ item is. ne_eqb item.origin origin (λ same. apart (sym is ∙ same))) items from)

-- of what all origins give, what one gives
one_of_all : (f : ℕ → List Item) (n origin : ℕ)
    → ((other : ℕ) → AreFrom other (f other))
    → origin < n
    → filter (λ (item : Item). item.origin == origin) (flat_map f (range_with_len 0 n)) ≡ f origin
one_of_all f n origin from among =
    let mine = λ (item : Item). item.origin == origin in
    filter-flat_map mine f (range_with_len 0 n)
    ∙ flat_map_at (λ o. filter mine (f o)) 0 n origin (omega arith) (omega (arith, among)) (λ other apart. no_others origin other (f other) (from other) apart)
    ∙ own_ones origin (f origin) (from origin)

none_of_all : (f : ℕ → List Item) (n origin : ℕ)
    → ((other : ℕ) → AreFrom other (f other))
    → n ≤ origin
    → filter (λ (item : Item). item.origin == origin) (flat_map f (range_with_len 0 n)) ≡ []
none_of_all f n origin from past =
    let mine = λ (item : Item). item.origin == origin in
    filter-flat_map mine f (range_with_len 0 n)
    ∙ flat_map_none (λ o. filter mine (f o)) (range_with_len 0 n)
    (All-range (λ o. filter mine (f o) ≡ []) 0 n (λ other low high. no_others origin other (f other) (from other) (omega (arith, high, past))))

-- items that are placed are of their origin
AreFrom-placed : (origin : ℕ) (log : List Item) → ArePlaced origin log → AreFrom origin log
AreFrom-placed origin log placed index none within = (placed index none within).0

pub ArePlaced-front : (origin : ℕ) (front whole : List Item) → IsPrefix front whole → ArePlaced origin whole → ArePlaced origin front
ArePlaced-front origin front whole (rest, is) placed index none within =
    let there = placed index none (omega (arith, within, ap length is, length-append front rest)) in
    subst (λ (item : Item). (item.origin ≡ origin) × (item.index ≡ index)) (ap (λ (list : List Item). get_or list index none) is ∙ get_or_append_left front rest none index within) there

ArePlaced-push : (origin : ℕ) (log : List Item) (item : Item)
    → ArePlaced origin log
    → item.origin ≡ origin
    → item.index ≡ length log
    → ArePlaced origin (log ++ item ∷ [])
ArePlaced-push origin log item placed from at index none within =
    ⊎_elim
    (λ (before : index < length log).
    subst (λ (one : Item). (one.origin ≡ origin) × (one.index ≡ index)) (sym (get_or_append_left log (item ∷ []) none index before)) (placed index none before))
    (λ (not_before : length log ≤ index).
    let last : index ≡ length log = omega (arith, within, not_before, length_push log item) in
    subst (λ (one : Item). (one.origin ≡ origin) × (one.index ≡ index)) (sym (get_or_push log item none index (sym last))) (from, at ∙ sym last))
    (cases_lt index (length log))

-- a list that goes on within itself doesn't
within_itself : {A : Type 0} (front more : List A) → IsPrefix (front ++ more) front → more ≡ []
within_itself front more (rest, is) = nil_from_length more (omega (arith, ap length is, length-append (front ++ more) rest, length-append front more))

module _ (n : ℕ) (network : Network) (sound : IsSound n network) where
  -- what a peer has of any origin is of that origin
  pub from_origin : (peer : ℕ) → peer < n → (origin : ℕ) → AreFrom origin (log_of (peer_at network peer) origin)
  from_origin peer among origin =
      ⊎_elim
      (λ (within : origin < n).
      AreFrom-placed origin (log_of (peer_at network peer) origin)
      (ArePlaced-front origin (log_of (peer_at network peer) origin) (own_log network origin) (sound.fronts peer origin among within) (sound.placed origin within)))
      (λ (past : n ≤ origin).
      subst (AreFrom origin) (sym (get_or_past (peer_at network peer).logs origin [] (omega (arith, past, sound.logs peer among)))) (λ k d within. absurd (omega (arith, within))))
      (cases_lt origin n)

  -- a peer that accepts
  module _ (peer : ℕ) (among : peer < n) (op : Op) where
    abbrev was : PeerState
    was = peer_at network peer

    abbrev item : Item
    item = accepted_item was op

    abbrev then_accepted : PeerState
    then_accepted = after_accept was op

    pub mine : log_of then_accepted peer ≡ own_log network peer ++ item ∷ []
    mine =
        ap (λ (place : ℕ). get_or (set was.logs place (log_of was place ++ item ∷ [])) peer []) (sound.replica peer among)
        ∙ get_or-set_same was.logs peer (log_of was peer ++ item ∷ []) [] (omega (arith, among, sound.logs peer among))

    others : (origin : ℕ) → origin ≢ peer → log_of then_accepted origin ≡ log_of was origin
    others origin apart =
        ap (λ (place : ℕ). get_or (set was.logs place (log_of was place ++ item ∷ [])) origin []) (sound.replica peer among)
        ∙ get_or-set_other was.logs peer origin (log_of was peer ++ item ∷ []) [] apart

    placed_now : ArePlaced peer (log_of then_accepted peer)
    placed_now =
        subst (ArePlaced peer) (sym mine)
        (ArePlaced-push peer (own_log network peer) item (sound.placed peer among) (sound.replica peer among)
        (ap (λ (place : ℕ). length (log_of was place)) (sound.replica peer among)))

    told_if : peer ≡ 0 → then_accepted.told ≡ order network ++ pick_of item ∷ []
    told_if same =
        cond-true (was.replica == primary) (was.told ++ pick_of item ∷ []) was.told (eq-eqb was.replica 0 (sound.replica peer among ∙ same))
        ∙ ap (λ (p : ℕ). (peer_at network p).told ++ pick_of item ∷ []) same

    ordered_now : peer ≡ 0 → (origin : ℕ) → filter (is_from origin) then_accepted.told ≡ map pick_of (log_of then_accepted origin)
    ordered_now same origin =
        ap (filter (is_from origin)) (told_if same)
        ∙ filter-append (is_from origin) (order network) (pick_of item ∷ [])
        ∙ ap (λ (picks : List Pick). picks ++ filter (is_from origin) (pick_of item ∷ [])) (sound.ordered origin)
        ∙ ⊎_elim
        (λ (here : origin ≡ peer).
        ap (λ (picks : List Pick). map pick_of (log_of (peer_at network 0) origin) ++ picks)
        (filter_all (is_from origin) (pick_of item ∷ [])
        (All-one (λ (pick : Pick). is_from origin pick ≡ true) (pick_of item) (eq-eqb item.origin origin (sound.replica peer among ∙ sym here))))
        ∙ ap (λ (p : ℕ). map pick_of (log_of (peer_at network p) origin) ++ pick_of item ∷ []) (sym same)
        ∙ sym (map-append pick_of (log_of was origin) (item ∷ []))
        ∙ ap (map pick_of) (ap (λ (o : ℕ). log_of was o ++ item ∷ []) here ∙ sym mine ∙ ap (log_of then_accepted) (sym here)))
        (λ (apart : origin ≢ peer).
        ap (λ (picks : List Pick). map pick_of (log_of (peer_at network 0) origin) ++ picks)
        (filter_none (is_from origin) (pick_of item ∷ [])
        (All-one (λ (pick : Pick). is_from origin pick ≡ false) (pick_of item) (ne_eqb item.origin origin (λ is. apart (sym is ∙ sound.replica peer among)))))
        ∙ append-nil (map pick_of (log_of (peer_at network 0) origin))
        ∙ ap (λ (p : ℕ). map pick_of (log_of (peer_at network p) origin)) (sym same)
        ∙ ap (map pick_of) (sym (others origin apart)))
        (cases_eq origin peer)

    pub MayBecome-accept : MayBecome n network peer then_accepted
    MayBecome-accept = record {
      replica = sound.replica peer among;
      logs = length-set was.logs was.replica (log_of was was.replica ++ item ∷ []) ∙ sound.logs peer among;
      own = subst (IsPrefix (own_log network peer)) (sym mine) (IsPrefix-append (own_log network peer) (item ∷ []));
      placed = placed_now;
      others = λ origin within apart. subst (λ (log : List Item). IsPrefix log (own_log network origin)) (sym (others origin apart)) (sound.fronts peer origin among within);
      told = λ apart.
          subst (λ (picks : List Pick). IsPrefix picks (order network))
          (sym (cond-false (was.replica == primary) (was.told ++ pick_of item ∷ []) was.told (ne_eqb was.replica 0 (λ is. apart (sym (sound.replica peer among) ∙ is)))))
          (sound.told peer among);
      goes_on = λ same. subst (IsPrefix (order network)) (sym (told_if same)) (IsPrefix-append (order network) (pick_of item ∷ []));
      ordered = ordered_now;
    }

  -- a peer that posts stays as it is, and its notice is sound
  module _ (peer : ℕ) (among : peer < n) where
    abbrev poster : PeerState
    poster = peer_at network peer

    pub MayBecome-post : MayBecome n network peer (after_post poster)
    MayBecome-post = record {
      replica = sound.replica peer among;
      logs = sound.logs peer among;
      own = IsPrefix-refl (own_log network peer);
      placed = sound.placed peer among;
      others = λ origin within apart. sound.fronts peer origin among within;
      told = λ apart. sound.told peer among;
      goes_on = λ same. IsPrefix-same (order network) poster.told (ap (λ (p : ℕ). (peer_at network p).told) (sym same));
      ordered = λ same origin.
          subst (λ (p : ℕ). filter (is_from origin) (peer_at network p).told ≡ map pick_of (log_of (peer_at network p) origin)) (sym same) (sound.ordered origin);
    }

    module _ (to : ℕ) (firsts : List ℕ) (place : ℕ) (addressed : to < n) where
      abbrev notice : Notice
      notice = notice_of poster to firsts place

      first_is : (origin : ℕ) → origin < n → get_or notice.firsts origin 0 ≡ first_told poster firsts origin
      first_is origin within = get_or-map_range (first_told poster firsts) (length poster.logs) origin 0 (omega (arith, within, sound.logs peer among))

      abbrev given : ℕ → List Item
      given origin = drop (first_told poster firsts origin) (log_of poster origin)

      items_told : (origin : ℕ) → origin < n → IsPrefix (items_of notice origin) (given origin)
      items_told origin within =
          subst (IsPrefix (items_of notice origin))
          (one_of_all given (length poster.logs) origin
          (λ other. All-drop (λ (item : Item). item.origin ≡ other) (first_told poster firsts other) (log_of poster other) (from_origin peer among other))
          (omega (arith, within, sound.logs peer among)))
          (IsPrefix-filter (λ (item : Item). item.origin == origin) (take 64 (flat_map given (origins poster))) (flat_map given (origins poster)) (IsPrefix-take 64 (flat_map given (origins poster))))

      all_among : All (λ (item : Item). item.origin < n) (flat_map given (origins poster))
      all_among =
          All-flat_map (λ (item : Item). item.origin < n) given (origins poster)
          (All-range (λ o. All (λ (item : Item). item.origin < n) (given o)) 0 (length poster.logs)
          (λ o low high.
          All-weaker (λ (item : Item). item.origin ≡ o) (λ (item : Item). item.origin < n) (λ item is. omega (arith, is, high, sound.logs peer among)) (given o)
          (All-drop (λ (item : Item). item.origin ≡ o) (first_told poster firsts o) (log_of poster o) (from_origin peer among o))))

      pub IsSoundNotice-post : IsSoundNotice n network notice
      IsSoundNotice-post = record {
        to = addressed;
        counted = length-map (origins poster) (first_told poster firsts) ∙ length-range_with_len 0 (length poster.logs) ∙ sound.logs peer among;
        among = All-take (λ (item : Item). item.origin < n) 64 (flat_map given (origins poster)) all_among;
        few_items = omega (arith, length-take 64 (flat_map given (origins poster)));
        few_picks = omega (arith, length-take 256 (drop (place_told poster place) poster.told));
        firsts = λ origin within.
            omega (arith, first_is origin within, IsPrefix-length (log_of poster origin) (own_log network origin) (sound.fronts peer origin among within));
        items = λ origin within.
            subst (λ (first : ℕ). IsPrefix (items_of notice origin) (drop first (own_log network origin))) (sym (first_is origin within))
            (IsPrefix-trans (items_of notice origin) (given origin) (drop (first_told poster firsts origin) (own_log network origin)) (items_told origin within)
            (IsPrefix-drop (first_told poster firsts origin) (log_of poster origin) (own_log network origin) (sound.fronts peer origin among within)));
        place = omega (arith, IsPrefix-length poster.told (order network) (sound.told peer among));
        picks = IsPrefix-trans (take 256 (drop (place_told poster place) poster.told)) (drop (place_told poster place) poster.told) (drop (place_told poster place) (order network))
            (IsPrefix-take 256 (drop (place_told poster place) poster.told))
            (IsPrefix-drop (place_told poster place) poster.told (order network) (sound.told peer among));
      }

  -- a peer that takes a sound notice
  module _ (notice : Notice) (is_sound : IsSoundNotice n network notice) where
    abbrev taker : PeerState
    taker = peer_at network notice.to

    abbrev then_taken : PeerState
    then_taken = after_take taker notice

    log_is : (origin : ℕ) → origin < n → log_of then_taken origin ≡ log_of taker origin ++ added taker notice origin
    log_is origin within =
        get_or-map_range (λ o. log_of taker o ++ added taker notice o) (length taker.logs) origin [] (omega (arith, within, sound.logs notice.to is_sound.to))

    front_now : (origin : ℕ) → origin < n → IsPrefix (log_of taker origin ++ added taker notice origin) (own_log network origin)
    front_now origin within = go (nat_le first (length log)) refl
      where
        first : ℕ
        first = get_or notice.firsts origin 0

        log : List Item
        log = log_of taker origin

        go : (reached : Bool) → nat_le first (length log) ≡ reached → IsPrefix (log ++ added taker notice origin) (own_log network origin)
        go true reached =
            rw (reached)
            (IsPrefix-stretch log (items_of notice origin) (own_log network origin) first (sound.fronts notice.to origin is_sound.to within) (is_sound.items origin within)
            (leb-true first (length log) reached))
        go false reached = rw (reached, append-nil) (sound.fronts notice.to origin is_sound.to within)

    pub mine_same : log_of then_taken notice.to ≡ own_log network notice.to
    mine_same =
        log_is notice.to is_sound.to
        ∙ ap (λ (items : List Item). own_log network notice.to ++ items) (within_itself (own_log network notice.to) (added taker notice notice.to) (front_now notice.to is_sound.to))
        ∙ append-nil (own_log network notice.to)

    added_from : (origin : ℕ) → AreFrom origin (added taker notice origin)
    added_from origin = go (nat_le first (length (log_of taker origin))) refl
      where
        first : ℕ
        first = get_or notice.firsts origin 0

        go : (reached : Bool) → nat_le first (length (log_of taker origin)) ≡ reached → AreFrom origin (added taker notice origin)
        go true reached =
            rw (reached)
            (All-drop (λ (item : Item). item.origin ≡ origin) (length (log_of taker origin) - first) (items_of notice origin)
            (All-weaker (λ (item : Item). item.origin == origin ≡ true) (λ (item : Item). item.origin ≡ origin) (λ item is. eqb-true item.origin origin is) (items_of notice origin)
            (filter_passes (λ (item : Item). item.origin == origin) notice.items)))
        go false reached = rw (reached) (λ k d within. absurd (omega (arith, within)))

    told_now : notice.to ≢ 0 → IsPrefix then_taken.told (order network)
    told_now apart =
        subst (λ (picks : List Pick). IsPrefix picks (order network))
        (sym (cond-false (taker.replica == primary) (taker.told ++ map pick_of (all_added taker notice)) (told_on taker notice)
        (ne_eqb taker.replica 0 (λ is. apart (sym (sound.replica notice.to is_sound.to) ∙ is)))))
        (go (nat_le notice.place (length taker.told)) refl)
      where
        go : (reached : Bool) → nat_le notice.place (length taker.told) ≡ reached → IsPrefix (told_on taker notice) (order network)
        go true reached =
            rw (reached)
            (IsPrefix-stretch taker.told notice.picks (order network) notice.place (sound.told notice.to is_sound.to) is_sound.picks (leb-true notice.place (length taker.told) reached))
        go false reached = rw (reached) (sound.told notice.to is_sound.to)

    told_if_primary : notice.to ≡ 0 → then_taken.told ≡ order network ++ map pick_of (all_added taker notice)
    told_if_primary same =
        cond-true (taker.replica == primary) (taker.told ++ map pick_of (all_added taker notice)) (told_on taker notice) (eq-eqb taker.replica 0 (sound.replica notice.to is_sound.to ∙ same))
        ∙ ap (λ (p : ℕ). (peer_at network p).told ++ map pick_of (all_added taker notice)) same

    log_past : (origin : ℕ) → n ≤ origin → log_of taker origin ≡ []
    log_past origin past = get_or_past taker.logs origin [] (omega (arith, past, sound.logs notice.to is_sound.to))

    new_past : (origin : ℕ) → n ≤ origin → log_of then_taken origin ≡ []
    new_past origin past =
        get_or-map_range_past (λ o. log_of taker o ++ added taker notice o) (length taker.logs) origin [] (omega (arith, past, sound.logs notice.to is_sound.to))

    ordered_taken : notice.to ≡ 0 → (origin : ℕ) → filter (is_from origin) then_taken.told ≡ map pick_of (log_of then_taken origin)
    ordered_taken same origin =
        ap (filter (is_from origin)) (told_if_primary same)
        ∙ filter-append (is_from origin) (order network) (map pick_of (all_added taker notice))
        ∙ ap₂ (λ (one other : List Pick). one ++ other) (sound.ordered origin ∙ ap (λ (p : ℕ). map pick_of (log_of (peer_at network p) origin)) (sym same))
        (filter-picks origin (all_added taker notice))
        ∙ ⊎_elim
        (λ (within : origin < n).
        ap (λ (items : List Item). map pick_of (log_of taker origin) ++ map pick_of items)
        (one_of_all (added taker notice) (length taker.logs) origin added_from (omega (arith, within, sound.logs notice.to is_sound.to)))
        ∙ sym (map-append pick_of (log_of taker origin) (added taker notice origin))
        ∙ ap (map pick_of) (sym (log_is origin within)))
        (λ (past : n ≤ origin).
        ap₂ (λ (log items : List Item). map pick_of log ++ map pick_of items) (log_past origin past)
        (none_of_all (added taker notice) (length taker.logs) origin added_from (omega (arith, past, sound.logs notice.to is_sound.to)))
        ∙ ap (map pick_of) (sym (new_past origin past)))
        (cases_lt origin n)

    pub MayBecome-take : MayBecome n network notice.to then_taken
    MayBecome-take = record {
      replica = sound.replica notice.to is_sound.to;
      logs = length-map (origins taker) (λ o. log_of taker o ++ added taker notice o) ∙ length-range_with_len 0 (length taker.logs) ∙ sound.logs notice.to is_sound.to;
      own = IsPrefix-same (own_log network notice.to) (log_of then_taken notice.to) (sym mine_same);
      placed = subst (ArePlaced notice.to) (sym mine_same) (sound.placed notice.to is_sound.to);
      others = λ origin within apart. subst (λ (log : List Item). IsPrefix log (own_log network origin)) (sym (log_is origin within)) (front_now origin within);
      told = told_now;
      goes_on = λ same. subst (IsPrefix (order network)) (sym (told_if_primary same)) (IsPrefix-append (order network) (map pick_of (all_added taker notice)));
      ordered = ordered_taken;
    }

    -- which the peer may
    pub IsFor-sound : IsFor taker notice
    IsFor-sound = record {
      addressed = sym (sound.replica notice.to is_sound.to);
      counted = is_sound.counted ∙ sym (sound.logs notice.to is_sound.to);
      in_order = λ origin index none within. in_order origin (cases_lt origin n) index none within;
      few_items = is_sound.few_items;
      few_picks = is_sound.few_picks;
    }
      where
        in_order : (origin : ℕ)
            → (origin < n) ⊎ (n ≤ origin)
            → (index : ℕ) (none : Item) → index < length (items_of notice origin)
            → (get_or (items_of notice origin) index none).index ≡ get_or notice.firsts origin 0 + index
        in_order origin (inl within) index none inside =
            let first = get_or notice.firsts origin 0 in
            let whole = own_log network origin in
            let told = is_sound.items origin within in
            let there : index < length (drop first whole) = omega (arith, inside, IsPrefix-length (items_of notice origin) (drop first whole) told) in
            let placed = sound.placed origin within (first + index) none (omega (arith, there, length-drop first whole)) in
            sym (ap (λ (item : Item). item.index) (IsPrefix-reads (items_of notice origin) (drop first whole) index none told inside))
            ∙ ap (λ (item : Item). item.index) (get_or-drop first whole index none) ∙ placed.1
        in_order origin (inr past) index none inside =
            absurd (omega (
              arith,
              inside,
              ap length
                  (filter_none (λ (item : Item). item.origin == origin) notice.items
                  (All-weaker (λ (item : Item). item.origin < n) (λ (item : Item). item.origin == origin ≡ false) (λ item below. ne_eqb item.origin origin (omega (arith, below, past))) notice.items is_sound.among)),
            ))
