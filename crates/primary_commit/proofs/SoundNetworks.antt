-- What stays true of a network, whatever happens in it: logs are fronts of those of their origins, and orders of the primary's.
use Rattle.std.proofs.Common.{◌≡◌, ◌≢◌, ℕ, ◌<◌, ◌≤◌, ◌==◌, Bool, List, All, drop, filter, get_or, get_or-set_other, get_or-set_same, length, length-set, map, set, sym, ap, ◌∙◌, subst, ⊎_elim, arith}
use Rattle.std.proofs.lemmas.Bool.{cases_eq}
use Rattle.std.proofs.lemmas.List.Elements.{All-weaker}
use Rattle.run_model.specs.Histories.{IsPrefix}
use Rattle.run_model.proofs.PrefixLemmas.{IsPrefix-drop, IsPrefix-length, IsPrefix-refl, IsPrefix-trans}
use Rattle.primary_commit.specs.Networks.{Network, peer_at, with_peer}
use Rattle.primary_commit.specs.Peers.{PeerState, fresh_peer, items_of, log_of, pick_of}
use Rattle.primary_commit.specs.declared.items.Item.{Item}
use Rattle.primary_commit.specs.declared.items.Notice.{Notice}
use Rattle.primary_commit.specs.declared.items.Pick.{Pick}

-- the log of an origin at itself, and the primary's order
abbrev pub own_log : Network → ℕ → List Item
own_log network origin = log_of (peer_at network origin) origin

abbrev pub order : Network → List Pick
order network = (peer_at network 0).told

abbrev pub is_from : ℕ → Pick → Bool
is_from origin pick = pick.origin == origin

-- each item stands at its index in the log of its origin
abbrev pub ArePlaced : ℕ → List Item → Type 0
ArePlaced origin log = (index : ℕ) (none : Item) → index < length log
    → ((get_or log index none).origin ≡ origin) × ((get_or log index none).index ≡ index)

-- a notice tells what its items' origins have, and what the primary has numbered
pub record IsSoundNotice (n : ℕ) (network : Network) (notice : Notice) : Type 0 where
  pub to : notice.to < n
  pub counted : length notice.firsts ≡ n
  pub among : All (λ (item : Item). item.origin < n) notice.items
  pub few_items : length notice.items ≤ 64
  pub few_picks : length notice.picks ≤ 256
  pub firsts : (origin : ℕ) → origin < n → get_or notice.firsts origin 0 ≤ length (own_log network origin)
  pub items : (origin : ℕ) → origin < n → IsPrefix (items_of notice origin) (drop (get_or notice.firsts origin 0) (own_log network origin))
  pub place : notice.place ≤ length (order network)
  pub picks : IsPrefix notice.picks (drop notice.place (order network))

pub record IsSound (n : ℕ) (network : Network) : Type 0 where
  pub some : 0 < n
  pub count : length network.peers ≡ n
  pub replica : (peer : ℕ) → peer < n → (peer_at network peer).replica ≡ peer
  pub logs : (peer : ℕ) → peer < n → length (peer_at network peer).logs ≡ n
  pub placed : (origin : ℕ) → origin < n → ArePlaced origin (own_log network origin)
  pub fronts : (peer origin : ℕ) → peer < n → origin < n → IsPrefix (log_of (peer_at network peer) origin) (own_log network origin)
  pub told : (peer : ℕ) → peer < n → IsPrefix (peer_at network peer).told (order network)
  pub ordered : (origin : ℕ) → filter (is_from origin) (order network) ≡ map pick_of (log_of (peer_at network 0) origin)
  pub notices : All (IsSoundNotice n network) network.notices

-- what a peer may become
pub record MayBecome (n : ℕ) (network : Network) (peer : ℕ) (after : PeerState) : Type 0 where
  pub replica : after.replica ≡ peer
  pub logs : length after.logs ≡ n
  pub own : IsPrefix (own_log network peer) (log_of after peer)
  pub placed : ArePlaced peer (log_of after peer)
  pub others : (origin : ℕ) → origin < n → origin ≢ peer → IsPrefix (log_of after origin) (own_log network origin)
  pub told : peer ≢ 0 → IsPrefix after.told (order network)
  pub goes_on : peer ≡ 0 → IsPrefix (order network) after.told
  pub ordered : peer ≡ 0 → (origin : ℕ) → filter (is_from origin) after.told ≡ map pick_of (log_of after origin)

-- logs and the order only grow
pub record Grows (n : ℕ) (before after : Network) : Type 0 where
  pub logs : (origin : ℕ) → origin < n → IsPrefix (own_log before origin) (own_log after origin)
  pub order : IsPrefix (order before) (order after)

pub Grows-same : (n : ℕ) (network : Network) → Grows n network network
Grows-same n network = record { logs = λ origin among. IsPrefix-refl (own_log network origin); order = IsPrefix-refl (order network) }

pub Grows-trans : (n : ℕ) (one two three : Network) → Grows n one two → Grows n two three → Grows n one three
Grows-trans n one two three first second = record {
  logs = λ origin among. IsPrefix-trans (own_log one origin) (own_log two origin) (own_log three origin) (first.logs origin among) (second.logs origin among);
  order = IsPrefix-trans (order one) (order two) (order three) first.order second.order;
}

-- so a notice stays sound
pub IsSoundNotice-on : (n : ℕ) (before after : Network) (notice : Notice) → Grows n before after → IsSoundNotice n before notice → IsSoundNotice n after notice
IsSoundNotice-on n before after notice grows sound = record {
  to = sound.to;
  counted = sound.counted;
  among = sound.among;
  few_items = sound.few_items;
  few_picks = sound.few_picks;
  firsts = λ origin among. omega (arith, sound.firsts origin among, IsPrefix-length (own_log before origin) (own_log after origin) (grows.logs origin among));
  items = λ origin among.
      let first = get_or notice.firsts origin 0 in
      IsPrefix-trans (items_of notice origin) (drop first (own_log before origin)) (drop first (own_log after origin)) (sound.items origin among)
      (IsPrefix-drop first (own_log before origin) (own_log after origin) (grows.logs origin among));
  place = omega (arith, sound.place, IsPrefix-length (order before) (order after) grows.order);
  picks = IsPrefix-trans notice.picks (drop notice.place (order before)) (drop notice.place (order after)) sound.picks
      (IsPrefix-drop notice.place (order before) (order after) grows.order);
}

-- a network in which one peer became another
module _ (n : ℕ) (network : Network) (sound : IsSound n network) (peer : ℕ) (among : peer < n) (after : PeerState) (may : MayBecome n network peer after) where
  abbrev new : Network
  new = with_peer network after

  pub at_itself : peer_at new peer ≡ after
  at_itself =
      ap (λ (place : ℕ). get_or (set network.peers place after) peer (fresh_peer 0 peer)) may.replica
      ∙ get_or-set_same network.peers peer after (fresh_peer 0 peer) (omega (arith, among, sound.count))

  pub at_other : (other : ℕ) → other ≢ peer → peer_at new other ≡ peer_at network other
  at_other other apart =
      ap (λ (place : ℕ). get_or (set network.peers place after) other (fresh_peer 0 other)) may.replica
      ∙ get_or-set_other network.peers peer other after (fresh_peer 0 other) apart

  own_grows : (origin : ℕ) → origin < n → IsPrefix (own_log network origin) (own_log new origin)
  own_grows origin within =
      ⊎_elim
      (λ (same : origin ≡ peer).
      subst (λ (o : ℕ). IsPrefix (own_log network o) (own_log new o)) (sym same)
      (subst (λ (p : PeerState). IsPrefix (own_log network peer) (log_of p peer)) (sym at_itself) may.own))
      (λ (apart : origin ≢ peer).
      subst (λ (p : PeerState). IsPrefix (own_log network origin) (log_of p origin)) (sym (at_other origin apart)) (IsPrefix-refl (own_log network origin)))
      (cases_eq origin peer)

  order_grows : IsPrefix (order network) (order new)
  order_grows =
      ⊎_elim
      (λ (same : 0 ≡ peer).
      subst (λ (p : PeerState). IsPrefix (order network) p.told) (sym (ap (peer_at new) same ∙ at_itself)) (may.goes_on (sym same)))
      (λ (apart : 0 ≢ peer).
      subst (λ (p : PeerState). IsPrefix (order network) p.told) (sym (at_other 0 apart)) (IsPrefix-refl (order network)))
      (cases_eq 0 peer)

  pub Grows-with : Grows n network new
  Grows-with = record { logs = own_grows; order = order_grows }

  -- what holds of the peer that it became and of each other as it was holds of each
  each : (P : ℕ → PeerState → Type 0)
      → P peer after
      → ((other : ℕ) → other < n → other ≢ peer → P other (peer_at network other))
      → (other : ℕ) → other < n → P other (peer_at new other)
  each P mine theirs other within =
      ⊎_elim
      (λ (same : other ≡ peer). subst (λ (o : ℕ). P o (peer_at new o)) (sym same) (subst (P peer) (sym at_itself) mine))
      (λ (apart : other ≢ peer). subst (P other) (sym (at_other other apart)) (theirs other within apart))
      (cases_eq other peer)

  front_of : (origin : ℕ) → origin < n → IsPrefix (log_of after origin) (own_log new origin)
  front_of origin within =
      ⊎_elim
      (λ (same : origin ≡ peer).
      subst (λ (o : ℕ). IsPrefix (log_of after o) (own_log new o)) (sym same)
      (subst (λ (p : PeerState). IsPrefix (log_of after peer) (log_of p peer)) (sym at_itself) (IsPrefix-refl (log_of after peer))))
      (λ (apart : origin ≢ peer).
      subst (λ (p : PeerState). IsPrefix (log_of after origin) (log_of p origin)) (sym (at_other origin apart)) (may.others origin within apart))
      (cases_eq origin peer)

  told_of : IsPrefix after.told (order new)
  told_of =
      ⊎_elim
      (λ (same : 0 ≡ peer). subst (λ (p : PeerState). IsPrefix after.told p.told) (sym (ap (peer_at new) same ∙ at_itself)) (IsPrefix-refl after.told))
      (λ (apart : 0 ≢ peer). subst (λ (p : PeerState). IsPrefix after.told p.told) (sym (at_other 0 apart)) (may.told (λ same. apart (sym same))))
      (cases_eq 0 peer)

  pub IsSound-with : IsSound n new
  IsSound-with = record {
    some = sound.some;
    count = length-set network.peers after.replica after ∙ sound.count;
    replica = each (λ other p. p.replica ≡ other) may.replica (λ other within apart. sound.replica other within);
    logs = each (λ other p. length p.logs ≡ n) may.logs (λ other within apart. sound.logs other within);
    placed = each (λ origin p. ArePlaced origin (log_of p origin)) may.placed (λ origin within apart. sound.placed origin within);
    fronts = λ other origin other_within within.
        each (λ one p. IsPrefix (log_of p origin) (own_log new origin)) (front_of origin within)
        (λ one one_within apart.
        IsPrefix-trans (log_of (peer_at network one) origin) (own_log network origin) (own_log new origin) (sound.fronts one origin one_within within) (own_grows origin within))
        other other_within;
    told = each (λ one p. IsPrefix p.told (order new)) told_of
        (λ one within apart. IsPrefix-trans (peer_at network one).told (order network) (order new) (sound.told one within) order_grows);
    ordered = λ origin.
        ⊎_elim
        (λ (same : 0 ≡ peer).
        subst (λ (p : PeerState). filter (is_from origin) p.told ≡ map pick_of (log_of p origin)) (sym (ap (peer_at new) same ∙ at_itself)) (may.ordered (sym same) origin))
        (λ (apart : 0 ≢ peer).
        subst (λ (p : PeerState). filter (is_from origin) p.told ≡ map pick_of (log_of p origin)) (sym (at_other 0 apart)) (sound.ordered origin))
        (cases_eq 0 peer);
    notices = All-weaker (IsSoundNotice n network) (IsSoundNotice n new) (λ notice is. IsSoundNotice-on n network new notice Grows-with is) network.notices sound.notices;
  }
