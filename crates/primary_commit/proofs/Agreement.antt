-- That the orders of all peers agree, whatever happens.
use Rattle.std.proofs.Common.{◌≡◌, ◌≢◌, ℕ, suc, ◌+◌, ◌<◌, ◌≤◌, ◌==◌, Bool, true, false, List, [], ◌∷◌, ◌++◌, All, AllPairs, Contains, cond, drop, filter, get_or, length, map, take, take_while, refl, sym, ap, ap₂, ◌∙◌, subst, subst₂, inl, inr, ⊎_elim, arith}
use Rattle.std.specs.List.{prefix_len, range_with_len}
use Rattle.std.proofs.lemmas.Bool.{cases_eq, cases_lt, cond-true, eq-eqb, lt-ltb, ne_eqb}
use Rattle.std.proofs.lemmas.List.{append-nil, append_assoc, get_or-map, get_or_append_left, get_or_at, get_or_past, length-append, length-map, length-take, take-append-drop, take-take, get_or-take, take_more}
use Rattle.std.proofs.lemmas.List.Elements.{All-head, All-nil, All-push, All-tail, All-weaker, Contains-get_or, filter-append}
use Rattle.std.proofs.lemmas.List.FromFn.{length-range_with_len}
use Rattle.std.proofs.lemmas.List.Sums.{take_while-cons}
use Rattle.tact_base.proofs.ElementLemmas.{Contains-from_filter}
use Rattle.tact_base.proofs.ListLemmas.{fold-push, get_or-map_range, get_or-map_range_past}
use Rattle.run_model.specs.Histories.{IsPrefix}
use Rattle.run_model.proofs.PrefixLemmas.{EachAfter-prefix, IsPrefix-All, IsPrefix-length, IsPrefix-nil, IsPrefix-refl, IsPrefix-take, IsPrefix-trans}
use Rattle.run_model.specs.Promises.{AreAgreed}
use Rattle.primary_commit.specs.Networks.{AreEvents, MayFollow, Network, after_event, committed_at, fresh_network, network_after, no_notice, notice_at, peer_at, with_peer}
use Rattle.primary_commit.specs.Orders.{IsAccepted, IsAgreed, IsOrder, StandsAfter, accepts}
use Rattle.primary_commit.specs.Peers.{PeerState, after_accept, after_post, after_take, committed, fresh_peer, has, log_of, no_item, notice_of, pick_of}
use Rattle.primary_commit.specs.declared.items.Item.{Item}
use Rattle.primary_commit.specs.declared.items.Notice.{Notice}
use Rattle.primary_commit.specs.declared.items.Pick.{Pick}
use Rattle.primary_commit.specs.declared.primary.Event.{Event}
use Rattle.primary_commit.specs.declared.primary.Event.TheVariants as event
use Rattle.primary_commit.proofs.SoundNetworks.{ArePlaced, Grows, Grows-same, Grows-trans, Grows-with, IsSound, IsSound-with, IsSoundNotice, IsSoundNotice-on, MayBecome, at_itself, at_other, is_from, order, own_log}
use Rattle.primary_commit.proofs.SoundSteps.{ArePlaced-front, IsSoundNotice-post, MayBecome-accept, MayBecome-post, MayBecome-take, mine, mine_same}

-- a network in which nothing happened is sound
log_fresh : (n peer origin : ℕ) → log_of (fresh_peer n peer) origin ≡ []
log_fresh n peer origin =
    ⊎_elim
    (λ (within : origin < n). get_or-map_range (λ (o : ℕ). let none : List Item = [] in none) n origin [] within)
    (λ (past : n ≤ origin). get_or-map_range_past (λ (o : ℕ). let none : List Item = [] in none) n origin [] past)
    (cases_lt origin n)

IsSound-fresh : (n : ℕ) → 0 < n → IsSound n (fresh_network n)
IsSound-fresh n some =
    let is = λ (peer : ℕ) (among : peer < n). get_or-map_range (fresh_peer n) n peer (fresh_peer 0 peer) among in
    let empty = λ (peer : ℕ) (among : peer < n) (origin : ℕ). ap (λ (p : PeerState). log_of p origin) (is peer among) ∙ log_fresh n peer origin in
    let untold = λ (peer : ℕ) (among : peer < n). ap (λ (p : PeerState). p.told) (is peer among) in
    record {
      some = some;
      count = length-map (range_with_len 0 n) (fresh_peer n) ∙ length-range_with_len 0 n;
      replica = λ peer among. ap (λ (p : PeerState). p.replica) (is peer among);
      logs = λ peer among. ap (λ (p : PeerState). length p.logs) (is peer among) ∙ length-map (range_with_len 0 n) (λ (o : ℕ). let none : List Item = [] in none) ∙ length-range_with_len 0 n;
      placed = λ origin among index none within. absurd (omega (arith, within, ap length (empty origin among origin)));
      fronts = λ peer origin among within. subst (λ (log : List Item). IsPrefix log (own_log (fresh_network n) origin)) (sym (empty peer among origin)) (IsPrefix-nil (own_log (fresh_network n) origin));
      told = λ peer among. subst (λ (picks : List Pick). IsPrefix picks (order (fresh_network n))) (sym (untold peer among)) (IsPrefix-nil (order (fresh_network n)));
      ordered = λ origin. ap (filter (is_from origin)) (untold 0 some) ∙ ap (map pick_of) (sym (empty 0 some origin));
      notices = All-nil (IsSoundNotice n (fresh_network n));
    }

-- one more notice
module _ (n : ℕ) (network : Network) (sound : IsSound n network) where
  abbrev with_notice : Notice → Network
  with_notice notice = record network { notices = network.notices ++ notice ∷ [] }

  Grows-notice : (notice : Notice) → Grows n network (with_notice notice)
  Grows-notice notice = record { logs = λ origin among. IsPrefix-refl (own_log network origin); order = IsPrefix-refl (order network) }

  IsSound-notice : (notice : Notice) → IsSoundNotice n network notice → IsSound n (with_notice notice)
  IsSound-notice notice is = record {
    some = sound.some;
    count = sound.count;
    replica = sound.replica;
    logs = sound.logs;
    placed = sound.placed;
    fronts = sound.fronts;
    told = sound.told;
    ordered = sound.ordered;
    notices = All-push (IsSoundNotice n (with_notice notice)) network.notices notice
        (All-weaker (IsSoundNotice n network) (IsSoundNotice n (with_notice notice)) (λ one it. IsSoundNotice-on n network (with_notice notice) one (Grows-notice notice) it) network.notices sound.notices)
        (IsSoundNotice-on n network (with_notice notice) notice (Grows-notice notice) is);
  }

-- what an event leaves: it is sound, has grown, and each origin has one more item for each that it accepted
pub record IsLeft (n : ℕ) (before after : Network) (done : Event) : Type 0 where
  pub sound : IsSound n after
  pub grows : Grows n before after
  pub more : (origin : ℕ) → origin < n → length (own_log after origin) ≡ length (own_log before origin) + length (filter (accepts origin) (done ∷ []))
  pub busy : (peer : ℕ) → peer < n → (peer_at after peer).events ≤ (peer_at before peer).events + 1

module _ (n : ℕ) (before : List Event) (sound : IsSound n (network_after n before)) where
  abbrev here : Network
  here = network_after n before

  -- of a peer that became another one
  more_at : (peer : ℕ) (among : peer < n) (after : PeerState) (may : MayBecome n here peer after) (count : ℕ → ℕ)
      → length (log_of after peer) ≡ length (own_log here peer) + count peer
      → ((origin : ℕ) → origin ≢ peer → count origin ≡ 0)
      → (origin : ℕ) → origin < n → length (own_log (with_peer here after) origin) ≡ length (own_log here origin) + count origin
  more_at peer among after may count mine none origin within =
      ⊎_elim
      (λ (same : origin ≡ peer).
      ap (λ (o : ℕ). length (own_log (with_peer here after) o)) same
      ∙ ap (λ (p : PeerState). length (log_of p peer)) (at_itself n here sound peer among after may)
      ∙ mine ∙ ap (λ (o : ℕ). length (own_log here o) + count o) (sym same))
      (λ (apart : origin ≢ peer).
      let zero_is = none origin apart in
      let stays = ap (λ (p : PeerState). length (log_of p origin)) (at_other n here sound peer among after may origin apart) in
      omega (arith, zero_is, stays))
      (cases_eq origin peer)

  busy_at : (peer : ℕ) (among : peer < n) (after : PeerState) (may : MayBecome n here peer after)
      → after.events ≡ (peer_at here peer).events + 1
      → (other : ℕ) → other < n → (peer_at (with_peer here after) other).events ≤ (peer_at here other).events + 1
  busy_at peer among after may one other within =
      ⊎_elim
      (λ (same : other ≡ peer).
      omega (
        arith,
        one,
        ap (λ (o : ℕ). (peer_at here o).events) same,
        ap (λ (o : ℕ). (peer_at (with_peer here after) o).events) same,
        ap (λ (p : PeerState). p.events) (at_itself n here sound peer among after may),
      ))
      (λ (apart : other ≢ peer). omega (arith, ap (λ (p : PeerState). p.events) (at_other n here sound peer among after may other apart)))
      (cases_eq other peer)

  accepted_once : (replica origin : ℕ) (op : _) → length (filter (accepts origin) (event.Accept replica op ∷ [])) ≡ cond (replica == origin) 1 0
  accepted_once replica origin op = go (replica == origin) refl
    where
      go : (is : Bool) → (replica == origin) ≡ is → length (filter (accepts origin) (event.Accept replica op ∷ [])) ≡ cond is 1 0
      go true is = rw (is) refl
      go false is = rw (is) refl

  pub IsLeft-event : (done : Event) → MayFollow n before done → IsLeft n here (after_event here done) done
  IsLeft-event (event.Accept replica op) among =
      let may = MayBecome-accept n here sound replica among op in
      let after = after_accept (peer_at here replica) op in
      let count = λ (origin : ℕ). length (filter (accepts origin) (event.Accept replica op ∷ [])) in
      record {
        sound = IsSound-with n here sound replica among after may;
        grows = Grows-with n here sound replica among after may;
        more = more_at replica among after may count
            (ap length (mine n here sound replica among op) ∙ length-append (own_log here replica) _
            ∙ ap (λ (k : ℕ). length (own_log here replica) + k) (sym (accepted_once replica replica op ∙ cond-true (replica == replica) 1 0 (eq-eqb replica replica refl))))
            (λ origin apart. accepted_once replica origin op ∙ ap (λ (is : Bool). cond is 1 0) (ne_eqb replica origin (λ same. apart (sym same))));
        busy = busy_at replica among after may refl;
      }
  IsLeft-event (event.Post from to firsts place) (among, addressed, apart, counted) =
      let may = MayBecome-post n here sound from among in
      let after = after_post (peer_at here from) in
      let posted = with_peer here after in
      let notice = notice_of (peer_at here from) to firsts place in
      let then_sound = IsSound-with n here sound from among after may in
      let grown = Grows-with n here sound from among after may in
      record {
        sound = IsSound-notice n posted then_sound notice (IsSoundNotice-on n here posted notice grown (IsSoundNotice-post n here sound from among to firsts place addressed));
        grows = record { logs = grown.logs; order = grown.order };
        more = more_at from among after may (λ origin. 0) (omega arith) (λ origin other. refl);
        busy = busy_at from among after may refl;
      }
  IsLeft-event (event.Take number) within =
      let notice = notice_at here number in
      let is = sound.notices number no_notice within in
      let may = MayBecome-take n here sound notice is in
      let after = after_take (peer_at here notice.to) notice in
      record {
        sound = IsSound-with n here sound notice.to is.to after may;
        grows = Grows-with n here sound notice.to is.to after may;
        more = more_at notice.to is.to after may (λ origin. 0) (omega (arith, ap length (mine_same n here sound notice is))) (λ origin other. refl);
        busy = busy_at notice.to is.to after may refl;
      }

-- so after any events
pub record Holds (n : ℕ) (events : List Event) : Type 0 where
  pub sound : IsSound n (network_after n events)
  pub counts : (origin : ℕ) → origin < n → length (own_log (network_after n events) origin) ≡ length (filter (accepts origin) events)
  pub busy : (peer : ℕ) → peer < n → (peer_at (network_after n events) peer).events ≤ length events

pub Holds-none : (n : ℕ) → 0 < n → Holds n []
Holds-none n some =
    let sound = IsSound-fresh n some in
    record {
      sound = sound;
      counts = λ origin among. ap length (ap (λ (p : PeerState). log_of p origin) (get_or-map_range (fresh_peer n) n origin (fresh_peer 0 origin) among) ∙ log_fresh n origin origin);
      busy = λ peer among. omega (arith, ap (λ (p : PeerState). p.events) (get_or-map_range (fresh_peer n) n peer (fresh_peer 0 peer) among));
    }

pub Holds-on : (n : ℕ) (before rest : List Event)
    → AreEvents n (before ++ rest)
    → Holds n before
    → Holds n (before ++ rest) × Grows n (network_after n before) (network_after n (before ++ rest))
Holds-on n before [] are holds =
    subst (λ (events : List Event). Holds n events × Grows n (network_after n before) (network_after n events)) (sym (append-nil before))
    (holds, Grows-same n (network_after n before))
Holds-on n before (done ∷ rest) are holds =
    let here = network_after n before in
    let next : network_after n (before ++ done ∷ []) ≡ after_event here done = fold-push after_event (fresh_network n) before done in
    let left = IsLeft-event n before holds.sound done (are before rest done refl) in
    let whole : (before ++ done ∷ []) ++ rest ≡ before ++ done ∷ rest = append_assoc before (done ∷ []) rest in
    let now : Holds n (before ++ done ∷ []) = record {
      sound = subst (IsSound n) (sym next) left.sound;
      counts = λ origin among.
          ap (λ (network : Network). length (own_log network origin)) next ∙ left.more origin among
          ∙ ap (λ (k : ℕ). k + length (filter (accepts origin) (done ∷ []))) (holds.counts origin among)
          ∙ sym (ap length (filter-append (accepts origin) before (done ∷ [])) ∙ length-append (filter (accepts origin) before) (filter (accepts origin) (done ∷ [])));
      busy = λ peer among.
          omega (arith, ap (λ (network : Network). (peer_at network peer).events) next, left.busy peer among, holds.busy peer among, length-append before (done ∷ []));
    } in
    let onward = Holds-on n (before ++ done ∷ []) rest (subst (AreEvents n) (sym whole) are) now in
    subst (λ (events : List Event). Holds n events × Grows n here (network_after n events)) whole (
      onward.0,
      Grows-trans n here (network_after n (before ++ done ∷ [])) (network_after n ((before ++ done ∷ []) ++ rest))
          (subst (Grows n here) (sym next) left.grows) onward.1,
    )

-- two fronts of one list agree
fronts_agree : (one other whole : List Pick) → IsPrefix one whole → IsPrefix other whole → AreAgreed one other
fronts_agree [] other whole first second = inl (other, refl)
fronts_agree (x ∷ one) [] whole first second = inr (x ∷ one, refl)
fronts_agree (x ∷ one) (y ∷ other) whole (rest, is) (more, is_more) =
    let both : x ∷ (one ++ rest) ≡ y ∷ (other ++ more) = sym is ∙ is_more in
    let head : x ≡ y = cc in
    ⊎_elim
    (λ (front : IsPrefix one other). inl (front.0, ap₂ (λ (z : Pick) (picks : List Pick). z ∷ picks) (sym head) front.1))
    (λ (front : IsPrefix other one). inr (front.0, ap₂ (λ (z : Pick) (picks : List Pick). z ∷ picks) head front.1))
    (fronts_agree one other (one ++ rest) (rest, refl) (more, ap (λ (picks : List Pick). drop 1 picks) both))

-- a list at one of its places
split_at : (picks : List Pick) (place : ℕ) (none : Pick)
    → place < length picks
    → picks ≡ take place picks ++ get_or picks place none ∷ drop (place + 1) picks
split_at picks place none within =
    sym (take-append-drop (place + 1) picks)
    ∙ ap (λ (front : List Pick). front ++ drop (place + 1) picks) (take_more picks place none within)
    ∙ append_assoc (take place picks) (get_or picks place none ∷ []) (drop (place + 1) picks)

-- a front of a list at one of its places
split_take : (picks : List Pick) (i j : ℕ) (none : Pick)
    → i < j
    → j < length picks
    → take j picks ≡ take i picks ++ get_or picks i none ∷ drop (i + 1) (take j picks)
split_take picks i j none less within =
    split_at (take j picks) i none (omega (arith, less, within, length-take j picks))
    ∙ ap₂ (λ (front : List Pick) (pick : Pick). front ++ pick ∷ drop (i + 1) (take j picks)) (take-take i j picks (omega (arith, less))) (get_or-take j picks i none less)

-- what holds of each two of a list holds of each two of a front of it
AllPairs-front : (front whole : List Pick) → IsPrefix front whole → AllPairs (λ (one other : Pick). one ≢ other) whole → AllPairs (λ (one other : Pick). one ≢ other) front
AllPairs-front front whole (rest, is) all i j none less within =
    subst₂ (λ (one other : Pick). one ≢ other)
    (ap (λ (picks : List Pick). get_or picks i none) is ∙ get_or_append_left front rest none i (omega (arith, less, within)))
    (ap (λ (picks : List Pick). get_or picks j none) is ∙ get_or_append_left front rest none j within)
    (all i j none less (omega (arith, within, ap length is, length-append front rest)))

-- the primary's order in a sound network
module _ (n : ℕ) (network : Network) (sound : IsSound n network) where
  abbrev log : ℕ → List Item
  log origin = log_of (peer_at network 0) origin

  placed_all : (origin : ℕ) → ArePlaced origin (log origin)
  placed_all origin =
      ⊎_elim
      (λ (within : origin < n). ArePlaced-front origin (log origin) (own_log network origin) (sound.fronts 0 origin sound.some within) (sound.placed origin within))
      (λ (past : n ≤ origin) index none inside.
      absurd (omega (arith, inside, ap length (get_or_past (peer_at network 0).logs origin [] (omega (arith, past, sound.logs 0 sound.some))))))
      (cases_lt origin n)

  below : (origin index : ℕ) → index < length (log origin) → origin < n
  below origin index inside =
      ⊎_elim
      (λ (within : origin < n). within)
      (λ (past : n ≤ origin). absurd (omega (arith, inside, ap length (get_or_past (peer_at network 0).logs origin [] (omega (arith, past, sound.logs 0 sound.some))))))
      (cases_lt origin n)

  -- the pick of a place of a log
  pick_at : (origin index : ℕ) (none : Pick) → index < length (log origin) → get_or (map pick_of (log origin)) index none ≡ record { origin = origin; index = index }
  pick_at origin index none inside =
      get_or-map pick_of (log origin) index no_item none inside
      ∙ ap₂ (λ (o i : ℕ). let pick : Pick = record { origin = o; index = i } in pick) (placed_all origin index no_item inside).0 (placed_all origin index no_item inside).1

  -- Where a pick stands in the order: behind as many of its origin as its index tells, which are those before it.
  module _ (before after : List Pick) (pick : Pick) (whole : order network ≡ before ++ pick ∷ after) where
    abbrev front : List Pick
    front = filter (is_from pick.origin) before

    all_from : map pick_of (log pick.origin) ≡ front ++ pick ∷ filter (is_from pick.origin) after
    all_from =
        sym (sound.ordered pick.origin)
        ∙ ap (filter (is_from pick.origin)) whole
        ∙ filter-append (is_from pick.origin) before (pick ∷ after)
        ∙ ap (λ (picks : List Pick). front ++ picks)
        (cond-true (is_from pick.origin pick) (pick ∷ filter (is_from pick.origin) after) (filter (is_from pick.origin) after) (eq-eqb pick.origin pick.origin refl))

    inside : length front < length (log pick.origin)
    inside = omega (arith, sym (length-map (log pick.origin) pick_of) ∙ ap length all_from, length-append front (pick ∷ filter (is_from pick.origin) after))

    index_is : pick.index ≡ length front
    index_is =
        ap (λ (p : Pick). p.index)
        (sym (ap (λ (picks : List Pick). get_or picks (length front) pick) all_from ∙ get_or_at front pick (filter (is_from pick.origin) after) pick (length front) refl)
        ∙ pick_at pick.origin (length front) pick inside)

    pub IsBelow : pick.index < length (log pick.origin)
    IsBelow = omega (arith, index_is, inside)

    pub StandsAfter-order : StandsAfter before pick
    StandsAfter-order index less =
        let within : index < length front = omega (arith, less, index_is) in
        let there : get_or front index pick ≡ record { origin = pick.origin; index = index } =
        sym (ap (λ (picks : List Pick). get_or picks index pick) all_from ∙ get_or_append_left front (pick ∷ filter (is_from pick.origin) after) pick index within)
        ∙ pick_at pick.origin index pick (omega (arith, within, inside)) in
        Contains-from_filter (is_from pick.origin) before (record { origin = pick.origin; index = index })
        (subst (Contains front) there (Contains-get_or front index pick within))

  -- no pick stands twice
  once : AllPairs (λ (one other : Pick). one ≢ other) (order network)
  once i j none less within same =
      let picks = order network in
      let x = get_or picks i none in
      let y = get_or picks j none in
      let first = split_at picks i none (omega (arith, less, within)) in
      let second = split_at picks j none within in
      let is_x = index_is (take i picks) (drop (i + 1) picks) x first in
      let is_y = index_is (take j picks) (drop (j + 1) picks) y second in
      let behind : take j picks ≡ take i picks ++ x ∷ drop (i + 1) (take j picks) = split_take picks i j none less within in
      let count : length (filter (is_from x.origin) (take j picks)) ≡ length (filter (is_from x.origin) (take i picks)) + suc (length (filter (is_from x.origin) (drop (i + 1) (take j picks)))) =
      ap (λ (list : List Pick). length (filter (is_from x.origin) list)) behind
      ∙ ap length (filter-append (is_from x.origin) (take i picks) (x ∷ drop (i + 1) (take j picks)))
      ∙ length-append (filter (is_from x.origin) (take i picks)) (filter (is_from x.origin) (x ∷ drop (i + 1) (take j picks)))
      ∙ ap (λ (list : List Pick). length (filter (is_from x.origin) (take i picks)) + length list)
      (cond-true (is_from x.origin x) (x ∷ filter (is_from x.origin) (drop (i + 1) (take j picks))) (filter (is_from x.origin) (drop (i + 1) (take j picks))) (eq-eqb x.origin x.origin refl)) in
      let also = subst (λ (p : Pick). p.index ≡ length (filter (is_from p.origin) (take j picks))) (sym same) is_y in
      omega (arith, is_x, also, count)

  -- the primary has all that it numbered
  has_all : (picks : List Pick) → All (λ (pick : Pick). pick.index < length (log pick.origin)) picks → take_while (has (peer_at network 0)) picks ≡ picks
  has_all [] all = refl
  has_all (pick ∷ picks) all =
      take_while-cons (has (peer_at network 0)) pick picks
      ∙ cond-true (has (peer_at network 0) pick) (pick ∷ take_while (has (peer_at network 0)) picks) []
      (lt-ltb pick.index (length (log pick.origin)) (All-head (λ (p : Pick). p.index < length (log p.origin)) pick picks all))
      ∙ ap (λ (rest : List Pick). pick ∷ rest) (has_all picks (All-tail (λ (p : Pick). p.index < length (log p.origin)) pick picks all))

  all_below : All (λ (pick : Pick). pick.index < length (log pick.origin)) (order network)
  all_below place none within = IsBelow (take place (order network)) (drop (place + 1) (order network)) (get_or (order network) place none) (split_at (order network) place none within)

  committed_all : committed (peer_at network 0) ≡ order network
  committed_all = has_all (order network) all_below

  pub Contains-order : (origin index : ℕ) → index < length (log origin) → Contains (committed (peer_at network 0)) (record { origin = origin; index = index })
  Contains-order origin index inside =
      let wanted : Pick = record { origin = origin; index = index } in
      subst (λ (picks : List Pick). Contains picks wanted) (sym committed_all)
      (Contains-from_filter (is_from origin) (order network) wanted
      (subst (λ (picks : List Pick). Contains picks wanted) (sym (sound.ordered origin))
      (subst (Contains (map pick_of (log origin))) (pick_at origin index wanted inside)
      (Contains-get_or (map pick_of (log origin)) index wanted (omega (arith, inside, length-map (log origin) pick_of))))))

  -- the committed picks of any peer are a front of it
  pub committed-front : (peer : ℕ) → peer < n → IsPrefix (committed (peer_at network peer)) (order network)
  committed-front peer among =
      IsPrefix-trans (committed (peer_at network peer)) (peer_at network peer).told (order network)
      (IsPrefix-take (prefix_len (has (peer_at network peer)) (peer_at network peer).told) (peer_at network peer).told) (sound.told peer among)

  -- so the committed picks of any peer are an order
  pub IsOrder-committed : (events : List Event) (peer : ℕ)
      → ((origin : ℕ) → origin < n → length (own_log network origin) ≡ length (filter (accepts origin) events))
      → peer < n
      → IsOrder events (committed (peer_at network peer))
  IsOrder-committed events peer counts among =
      let front : IsPrefix (committed (peer_at network peer)) (order network) = committed-front peer among in
      record {
        accepted = IsPrefix-All (IsAccepted events) (committed (peer_at network peer)) (order network) front
            (λ place none within.
            let pick = get_or (order network) place none in
            let index = all_below place none within in
            let origin = below pick.origin pick.index index in
            omega (arith, index, counts pick.origin origin, IsPrefix-length (log pick.origin) (own_log network pick.origin) (sound.fronts 0 pick.origin sound.some origin)));
        once = AllPairs-front (committed (peer_at network peer)) (order network) front once;
        in_order = EachAfter-prefix StandsAfter (committed (peer_at network peer)) (order network) front
            (λ before after pick whole. StandsAfter-order before after pick whole);
      }

-- what is agreed on
pub IsAgreed-events : (n : ℕ) (events : List Event) → 0 < n → AreEvents n events → IsAgreed n events
IsAgreed-events n events some are =
    let holds = λ (front : List Event) (is : IsPrefix front events).
    (Holds-on n [] front (EachAfter-prefix (MayFollow n) front events is are) (Holds-none n some)).0 in
    let grown = λ (front : List Event) (is : IsPrefix front events).
    subst (λ (whole : List Event). IsPrefix (order (network_after n front)) (order (network_after n whole))) (sym is.1)
    (Holds-on n front is.0 (subst (AreEvents n) is.1 are) (holds front is)).1.order in
    let fronts = λ (front : List Event) (peer : ℕ) (is : IsPrefix front events) (among : peer < n).
    IsPrefix-trans (committed_at n front peer) (order (network_after n front)) (order (network_after n events))
    (committed-front n (network_after n front) (holds front is).sound peer among) (grown front is) in
    record {
      agreed = λ one other replica peer is_one is_other among within.
          fronts_agree (committed_at n one replica) (committed_at n other peer) (order (network_after n events)) (fronts one replica is_one among) (fronts other peer is_other within);
      orders = λ front replica is among. IsOrder-committed n (network_after n front) (holds front is).sound front replica (holds front is).counts among;
      all = λ front is origin index among within. Contains-order n (network_after n front) (holds front is).sound origin index within;
    }
