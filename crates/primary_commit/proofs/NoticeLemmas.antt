-- What a peer keeps where it takes a notice.
use Rattle.std.proofs.Common.{◌≡◌, ◌==◌, ℕ, zero, suc, ◌+◌, ◌-◌, ◌<◌, ◌≤◌, Bool, true, false, nat_le, nat_lt, List, [], ◌∷◌, ◌++◌, All, drop, filter, flat_map, get_or, if◌then◌else◌, length, map, refl, sym, ap, ap₂, ◌∙◌, subst, ⊎_elim, arith}
use Rattle.std.proofs.lemmas.Bool.{cases_lt}
use Rattle.std.proofs.lemmas.List.{append-nil, get_or-drop, get_or_past, ext_get_or, length-append, length-drop, length-map}
use Rattle.std.proofs.lemmas.Bool.Decides.{eqb_tells}
use Rattle.std.proofs.lemmas.List.Elements.{All-nil, All-cons}
use Rattle.std.proofs.lemmas.List.Sums.{count_by-le-length, length-filter}
use Rattle.std.proofs.lemmas.List.FromFn.{get_or-map-range_with_len, length-map-range_with_len}
use Rattle.std.proofs.Math.Seq.{drop-append_seam}
use Rattle.std.specs.List.{range_with_len}
use Rattle.tact_base.proofs.ListLemmas.{All-range, flat_map_agree}
use Rattle.tact_base.proofs.RangeLists.{flat_map_range_more}
use Rattle.primary_commit.specs.Kept.{gained, log_after, order_after}
use Rattle.primary_commit.specs.Peers.{AreNext, IsFor, PeerState, added, after_take, all_added, have, items_of, log_of, origins, pick_of, primary, told_after}
use Rattle.primary_commit.specs.declared.items.Item.{Item}
use Rattle.primary_commit.specs.declared.items.Notice.{Notice}
use Rattle.primary_commit.specs.declared.items.Pick.{Pick}
use Rattle.primary_commit.proofs.AcceptLemmas.{none_at}
use Rattle.primary_commit.proofs.SettledLemmas.{AreAt, Grows}

-- an order goes on, whichever way it does
told_rest : {X : Type 0} (own reaches : Bool) (told mine theirs : List X)
    → (rest : List X) × ((if own then told ++ mine else (if reaches then told ++ theirs else told)) ≡ told ++ rest)
told_rest true reaches told mine theirs = (mine, refl)
told_rest false true told mine theirs = (theirs, refl)
told_rest false false told mine theirs = ([], sym (append-nil told))

joined_fits : {X : Type 0} (own reaches : Bool) (told mine theirs : List X) (most : ℕ)
    → length mine ≤ most
    → length theirs ≤ most
    → length (if own then told ++ mine else (if reaches then told ++ theirs else told)) ≤ length told + most
joined_fits true reaches told mine theirs most low high = omega (arith, low, length-append told mine)
joined_fits false true told mine theirs most low high = omega (arith, high, length-append told theirs)
joined_fits false false told mine theirs most low high = omega arith

-- the items of an origin are of that origin
are_of : (origin : ℕ) (items : List Item) → All (λ (item : Item). item.origin == origin ≡ true) (filter (λ (item : Item). item.origin == origin) items)
are_of origin [] = All-nil (λ (item : Item). item.origin == origin ≡ true)
are_of origin (item ∷ items) =
    ⊎_elim
    (λ same. rw same.0 (All-cons (λ (i : Item). i.origin == origin ≡ true) item (filter (λ (i : Item). i.origin == origin) items) same.0 (are_of origin items)))
    (λ other. rw other.0 (are_of origin items))
    (eqb_tells item.origin origin)

-- those below a number and those of it
below_more : (n : ℕ) (items : List Item)
    → length (filter (λ (item : Item). nat_lt item.origin n) items) + length (filter (λ (item : Item). item.origin == n) items)
    ≡ length (filter (λ (item : Item). nat_lt item.origin (n + 1)) items)
below_more n [] = refl
below_more n (item ∷ items) =
    ⊎_elim
    (λ low.
    let below : nat_lt item.origin n ≡ true = grind (arith, low) in
    let of : (item.origin == n) ≡ false = grind (arith, low) in
    let next : nat_lt item.origin (n + 1) ≡ true = grind (arith, low) in
    rw (below, of, next) (omega (arith, below_more n items)))
    (λ high.
    let below : nat_lt item.origin n ≡ false = grind (arith, high) in
    ⊎_elim
    (λ same.
    let next : nat_lt item.origin (n + 1) ≡ true = grind (arith, same.1) in
    rw (below, same.0, next) (omega (arith, below_more n items)))
    (λ other.
    let next : nat_lt item.origin (n + 1) ≡ false = grind (arith, high, other.1) in
    rw (below, other.0, next) (omega (arith, below_more n items)))
    (eqb_tells item.origin n))
    (cases_lt item.origin n)

filter_fits : {X : Type 0} (p : X → Bool) (xs : List X) → length (filter p xs) ≤ length xs
filter_fits p xs = omega (arith, length-filter p xs, count_by-le-length p xs)

-- A notice for a peer.
module _ (peer : PeerState) (notice : Notice) (meant : IsFor peer notice) where
  added_gap : (origin : ℕ) → have peer origin < get_or notice.firsts origin 0 → added peer notice origin ≡ []
  added_gap origin gap =
      let first = get_or notice.firsts origin 0 in
      let far : nat_le first (have peer origin) ≡ false = grind (arith, gap) in
      ap (λ (b : Bool). if b then drop (have peer origin - first) (items_of notice origin) else []) far

  added_low : (origin : ℕ) → get_or notice.firsts origin 0 ≤ have peer origin
      → added peer notice origin ≡ drop (have peer origin - get_or notice.firsts origin 0) (items_of notice origin)
  added_low origin low =
      let first = get_or notice.firsts origin 0 in
      let near : nat_le first (have peer origin) ≡ true = grind (arith, low) in
      ap (λ (b : Bool). if b then drop (have peer origin - first) (items_of notice origin) else []) near

  -- the added items stand behind what it has
  added_at : (origin : ℕ) → AreAt origin (have peer origin) (added peer notice origin)
  added_at origin =
      let first = get_or notice.firsts origin 0 in
      let items = items_of notice origin in
      ⊎_elim
      (λ gap. subst (AreAt origin (have peer origin)) (sym (added_gap origin gap)) (none_at origin (have peer origin)))
      (λ low.
      subst (AreAt origin (have peer origin)) (sym (added_low origin low))
      (λ index none within.
      let at = (have peer origin - first) + index in
      let inside : at < length items = omega (arith, within, length-drop (have peer origin - first) items) in
      let here : get_or (drop (have peer origin - first) items) index none ≡ get_or items at none = get_or-drop (have peer origin - first) items index none in
      let of : (get_or items at none).origin ≡ origin = grind (arith, are_of origin notice.items at none inside) in (
        ap (λ (item : Item). item.origin) here ∙ of,
        omega (arith, ap (λ (item : Item). item.index) here, meant.in_order origin at none inside, low),
      )))
      (cases_lt (have peer origin) first)

  taken_log : (origin : ℕ) → origin < length peer.logs → log_of (after_take peer notice) origin ≡ log_of peer origin ++ added peer notice origin
  taken_log origin within = get_or-map-range_with_len (λ (o : ℕ). log_of peer o ++ added peer notice o) 0 (length peer.logs) origin origin [] within (omega arith)

  sized : length (after_take peer notice).logs ≡ length peer.logs
  sized = length-map-range_with_len (λ (o : ℕ). log_of peer o ++ added peer notice o) 0 (length peer.logs)

  grown_log : (origin : ℕ) → (rest : List Item) × (log_of (after_take peer notice) origin ≡ log_of peer origin ++ rest) × AreAt origin (have peer origin) rest
  grown_log origin =
      ⊎_elim
      (λ within. (added peer notice origin, taken_log origin within, added_at origin))
      (λ past. (
        [],
        get_or_past (after_take peer notice).logs origin [] (omega (arith, past, sized)) ∙ sym (get_or_past peer.logs origin [] past) ∙ sym (append-nil (log_of peer origin)),
        none_at origin (have peer origin),
      ))
      (cases_lt origin (length peer.logs))

  pub take_grows : Grows peer (after_take peer notice)
  take_grows = record {
    replica = refl;
    sized = sized;
    logs = grown_log;
    told = told_rest (peer.replica == primary) (nat_le notice.place (length peer.told)) peer.told (map pick_of (all_added peer notice)) (drop (length peer.told - notice.place) notice.picks);
  }

  -- logs that went on so are those
  pub taken_logs : (after : List (List Item))
      → length after ≡ length peer.logs
      → ((origin : ℕ) → origin < length peer.logs → get_or after origin [] ≡ log_after (log_of peer origin) (get_or notice.firsts origin 0) (items_of notice origin))
      → after ≡ (after_take peer notice).logs
  taken_logs after count each =
      ext_get_or [] after (after_take peer notice).logs (count ∙ sym sized)
      (λ origin within. let inside : origin < length peer.logs = omega (arith, within, count) in each origin inside ∙ sym (taken_log origin inside))

  -- and what was gained is what was added
  pub gained_is : (haves : List ℕ) (after : List (List Item))
      → haves ≡ map (have peer) (origins peer)
      → after ≡ (after_take peer notice).logs
      → gained haves after ≡ all_added peer notice
  gained_is haves after had is =
      let count : length after ≡ length peer.logs = ap length is ∙ sized in
      let new = λ (origin : ℕ). drop (get_or haves origin 0) (get_or after origin []) in
      ap (λ (n : ℕ). flat_map new (range_with_len 0 n)) count
      ∙ flat_map_agree new (added peer notice) (origins peer)
      (All-range (λ (origin : ℕ). new origin ≡ added peer notice origin) 0 (length peer.logs)
      (λ origin low high.
      let inside : origin < length peer.logs = omega (arith, high) in
      let known : get_or haves origin 0 ≡ have peer origin =
      ap (λ (hs : List ℕ). get_or hs origin 0) had ∙ get_or-map-range_with_len (have peer) 0 (length peer.logs) origin origin 0 inside (omega arith) in
      let log : get_or after origin [] ≡ log_of peer origin ++ added peer notice origin =
      ap (λ (logs : List (List Item)). get_or logs origin []) is ∙ taken_log origin inside in
      ap₂ (λ (n : ℕ) (items : List Item). drop n items) known log ∙ drop-append_seam (log_of peer origin) (added peer notice origin)))

  -- no more than the notice has
  added_fit : (origin : ℕ) → length (added peer notice origin) ≤ length (items_of notice origin)
  added_fit origin =
      ⊎_elim
      (λ gap. omega (arith, ap length (added_gap origin gap)))
      (λ low. omega (arith, ap length (added_low origin low), length-drop (have peer origin - get_or notice.firsts origin 0) (items_of notice origin)))
      (cases_lt (have peer origin) (get_or notice.firsts origin 0))

  below_fit : (n : ℕ) → length (flat_map (added peer notice) (range_with_len 0 n)) ≤ length (filter (λ (item : Item). nat_lt item.origin n) notice.items)
  below_fit zero = omega arith
  below_fit (suc n) =
      let e : n + 1 ≡ suc n = omega arith in
      subst (λ (k : ℕ). length (flat_map (added peer notice) (range_with_len 0 k)) ≤ length (filter (λ (item : Item). nat_lt item.origin k) notice.items)) e
      (omega (
        arith,
        below_fit n,
        added_fit n,
        below_more n notice.items,
        ap length (flat_map_range_more (added peer notice) n),
        length-append (flat_map (added peer notice) (range_with_len 0 n)) (added peer notice n),
      ))

  pub all_fit : length (all_added peer notice) ≤ length notice.items
  all_fit = omega (arith, below_fit (length peer.logs), filter_fits (λ (item : Item). nat_lt item.origin (length peer.logs)) notice.items)

  -- what is put into the logs and behind the order
  pub went_on : (before after : List (List Item)) (items : List Item)
      → before ≡ peer.logs
      → items ≡ notice.items
      → length after ≡ length before
      → ((firsts : List ℕ) → AreNext firsts items → (origin : ℕ) → origin < length before
      → get_or after origin [] ≡ log_after (get_or before origin []) (get_or firsts origin 0) (filter (λ (item : Item). item.origin == origin) items))
      → after ≡ (after_take peer notice).logs
  went_on before after items same same_items count each =
      let next : AreNext notice.firsts items = subst (AreNext notice.firsts) (sym same_items) meant.in_order in
      taken_logs after (count ∙ ap length same)
      (λ origin within.
      each notice.firsts next origin (omega (arith, within, ap length same))
      ∙ ap₂ (λ (logs : List (List Item)) (is : List Item). log_after (get_or logs origin []) (get_or notice.firsts origin 0) (filter (λ (item : Item). item.origin == origin) is))
      same same_items)

  pub learned : (haves : List ℕ) (after : List (List Item)) (before new : List Pick)
      → haves ≡ map (have peer) (origins peer)
      → after ≡ (after_take peer notice).logs
      → before ≡ peer.told
      → new ≡ (if peer.replica == primary then before ++ map pick_of (gained haves after) else order_after before notice.place notice.picks)
      → new ≡ told_after peer notice
  learned haves after before new had is same grew =
      grew
      ∙ ap₂ (λ (told : List Pick) (gain : List Item). if peer.replica == primary then told ++ map pick_of gain else order_after told notice.place notice.picks)
      same (gained_is haves after had is)

  pub haves_sized : (haves : List ℕ) (after : List (List Item))
      → haves ≡ map (have peer) (origins peer)
      → after ≡ (after_take peer notice).logs
      → length haves ≡ length after
  haves_sized haves after had is = omega (arith, ap length had, ap length is, sized, length-map-range_with_len (have peer) 0 (length peer.logs))

  pub haves_within : (haves : List ℕ) (after : List (List Item))
      → haves ≡ map (have peer) (origins peer)
      → after ≡ (after_take peer notice).logs
      → (origin : ℕ) → origin < length after
      → get_or haves origin 0 ≤ length (get_or after origin [])
  haves_within haves after had is origin within =
      let inside : origin < length peer.logs = omega (arith, within, ap length is, sized) in
      let known : get_or haves origin 0 ≡ have peer origin =
      ap (λ (hs : List ℕ). get_or hs origin 0) had ∙ get_or-map-range_with_len (have peer) 0 (length peer.logs) origin origin 0 inside (omega arith) in
      let log : get_or after origin [] ≡ log_of peer origin ++ added peer notice origin =
      ap (λ (logs : List (List Item)). get_or logs origin []) is ∙ taken_log origin inside in
      omega (arith, known, ap length log, length-append (log_of peer origin) (added peer notice origin))

  pub gained_fits : (haves : List ℕ) (after : List (List Item))
      → haves ≡ map (have peer) (origins peer)
      → after ≡ (after_take peer notice).logs
      → length (gained haves after) ≤ length notice.items
  gained_fits haves after had is = omega (arith, ap length (gained_is haves after had is), all_fit)

  pub told_fits : (most : ℕ) → length notice.items ≤ most → length notice.picks ≤ most → length (told_after peer notice) ≤ length peer.told + most
  told_fits most items picks = joined_fits (peer.replica == primary) (nat_le notice.place (length peer.told)) peer.told (map pick_of (all_added peer notice))
      (drop (length peer.told - notice.place) notice.picks) most (omega (arith, all_fit, items, length-map (all_added peer notice) pick_of))
      (omega (arith, picks, length-drop (length peer.told - notice.place) notice.picks))
