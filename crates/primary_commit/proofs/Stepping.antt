-- How events go on among peers, and what is known of these meanwhile.
use Rattle.std.proofs.Common.{◌≡◌, ℕ, ◌<◌, ◌≤◌, List, [], ◌∷◌, ◌++◌, get_or, length, map, sym, ap, ◌∙◌, subst, arith}
use Rattle.std.specs.List.{range_with_len}
use Rattle.std.proofs.lemmas.List.{get_or_default, length-map, length_push}
use Rattle.std.proofs.lemmas.List.FromFn.{length-range_with_len}
use Rattle.tact_base.specs.declared.limits.TheConstants.{REPLICAS_MAX, REPLICAS_MIN}
use Rattle.tact_base.proofs.ListLemmas.{fold-push}
use Rattle.run_model.proofs.PrefixLemmas.{EachAfter-nil, EachAfter-push}
use Rattle.primary_commit.specs.Happenings.{Happened, HasLeft, IsReady, MayHappen}
use Rattle.primary_commit.specs.Networks.{MayFollow, Network, after_event, fresh_network, network_after, no_notice, notice_at, peer_at}
use Rattle.primary_commit.specs.Orders.{IsAgreed}
use Rattle.primary_commit.specs.Peers.{IsFor, PeerState, fresh_peer}
use Rattle.primary_commit.specs.declared.items.Notice.{Notice}
use Rattle.primary_commit.specs.declared.primary.Event.{Event}
use Rattle.primary_commit.specs.declared.primary.Event.TheVariants as event
use Rattle.primary_commit.specs.declared.primary.TheConstants.{EVENTS_MAX}
use Rattle.primary_commit.proofs.Agreement.{Holds, Holds-none, Holds-on, IsAgreed-events, IsLeft-event}
use Rattle.primary_commit.proofs.SoundSteps.{IsFor-sound}

-- so many new peers
pub HasLeft-new : (n : ℕ) (peers : List PeerState)
    → REPLICAS_MIN ≤ n
    → n ≤ REPLICAS_MAX
    → peers ≡ map (fresh_peer n) (range_with_len 0 n)
    → HasLeft (record { n = length peers; events = [] }) (record { peers = peers; notices = [] })
HasLeft-new n peers least most fresh =
    let size : n ≡ length peers = sym (ap length fresh ∙ length-map (range_with_len 0 n) (fresh_peer n) ∙ length-range_with_len 0 n) in
    subst (λ (k : ℕ). HasLeft (record { n = k; events = [] }) (record { peers = peers; notices = [] })) size
    (record {
      least = least;
      most = most;
      few = omega arith;
      may = EachAfter-nil (MayFollow n);
      left = ap (λ (all : List PeerState). let network : Network = record { peers = all; notices = [] } in network) fresh;
    })

module _ (happened : Happened) (network : Network) (left : HasLeft happened network) where
  abbrev n : ℕ
  n = happened.n

  abbrev events : List Event
  events = happened.events

  some : 0 < n
  some = omega (arith, left.least)

  pub IsAgreed-left : IsAgreed n events
  IsAgreed-left = IsAgreed-events n events some left.may

  holds : Holds n events
  holds = (Holds-on n [] events left.may (Holds-none n some)).0

  abbrev here : Network
  here = network_after n events

  peer_is : (replica : ℕ) (none : PeerState) → replica < n → get_or here.peers replica none ≡ peer_at here replica
  peer_is replica none among = get_or_default here.peers replica none (fresh_peer 0 replica) (omega (arith, among, holds.sound.count))

  ready : (replica : ℕ) → replica < n → length events < EVENTS_MAX → IsReady here.peers replica
  ready replica among few none = omega (arith, ap (λ (p : PeerState). p.events) (peer_is replica none among), holds.busy replica among, few)

  may_happen : (done : Event) → MayFollow n events done → length events < EVENTS_MAX → MayHappen here.peers here.notices done
  may_happen (event.Accept replica op) among few = (
    omega (arith, among, holds.sound.count),
    λ none. ap (λ (p : PeerState). p.replica) (peer_is replica none among) ∙ holds.sound.replica replica among,
    ready replica among few,
  )
  may_happen (event.Post from to firsts place) (among, addressed, apart, counted) few = (
    omega (arith, among, holds.sound.count),
    ready from among few,
    λ none.
        let size : length (get_or here.peers from none).logs ≡ n = ap (λ (p : PeerState). length p.logs) (peer_is from none among) ∙ holds.sound.logs from among in (
          ap (λ (p : PeerState). p.replica) (peer_is from none among) ∙ holds.sound.replica from among,
          omega (arith, addressed, size),
          apart,
          counted ∙ sym size,
        ),
  )
  may_happen (event.Take number) within few = (
    within,
    λ none.
        let same : get_or here.notices number none ≡ notice_at here number = get_or_default here.notices number none no_notice within in
        let sound = holds.sound.notices number no_notice within in
        subst (λ (notice : Notice). (notice.to < length here.peers) × IsReady here.peers notice.to × ((no_peer : PeerState) → IsFor (get_or here.peers notice.to no_peer) notice)) (sym same) (
          omega (arith, sound.to, holds.sound.count),
          ready (notice_at here number).to sound.to few,
          λ no_peer. subst (λ (p : PeerState). IsFor p (notice_at here number)) (sym (peer_is (notice_at here number).to no_peer sound.to)) (IsFor-sound n here holds.sound (notice_at here number) sound),
        ),
  )

  -- what may follow may happen
  pub MayHappen-left : (done : Event) → MayFollow n events done → length events < EVENTS_MAX → MayHappen network.peers network.notices done
  MayHappen-left done may few = subst (λ (at : Network). MayHappen at.peers at.notices done) (sym left.left) (may_happen done may few)

  -- and then it has happened
  module _ (done : Event) (may : MayFollow n events done) (few : length events < EVENTS_MAX) (after : Network) (is : after ≡ after_event network done) where
    next : after ≡ network_after n (events ++ done ∷ [])
    next = is ∙ ap (λ (at : Network). after_event at done) left.left ∙ sym (fold-push after_event (fresh_network n) events done)

    pub count-more : length after.peers ≡ n
    count-more = ap (λ (at : Network). length at.peers) (is ∙ ap (λ (at : Network). after_event at done) left.left) ∙ (IsLeft-event n events holds.sound done may).sound.count

    pub HasLeft-more : HasLeft (record { n = n; events = events ++ done ∷ [] }) after
    HasLeft-more = record {
      least = left.least;
      most = left.most;
      few = omega (arith, few, length_push events done);
      may = EachAfter-push (MayFollow n) events done left.may may;
      left = next;
    }
