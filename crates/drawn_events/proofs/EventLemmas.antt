-- What a step draws may follow the events so far.
use Rattle.std.proofs.Common.{◌≡◌, ℕ, ◌+◌, ◌<◌, ◌≤◌, ◌==◌, Bool, true, false, nat_lt, cond, List, [], ◌∷◌, ◌++◌, length, replicate, Option, None, Some, refl, sym, ap, ◌∙◌, subst, arith}
use Rattle.std.specs.Option.{option_map}
use Rattle.std.proofs.lemmas.Bool.{eqb-false}
use Rattle.run_model.proofs.PrefixLemmas.{EachAfter-nil, EachAfter-push}
use Rattle.drawn_scripts.specs.Draws.{drawn, one_drawn, pick, some_drawn, two_drawn}
use Rattle.drawn_scripts.proofs.DrawnLemmas.{picked_below, two_are_two}
use Rattle.drawn_scripts.proofs.DrawsLemmas.{after_more, after_none}
use Rattle.primary_commit.specs.Happenings.{Happened}
use Rattle.primary_commit.specs.Networks.{MayFollow, network_after, peer_at}
use Rattle.primary_commit.specs.Peers.{PeerState}
use Rattle.primary_commit.specs.declared.primary.Event.{Event}
use Rattle.primary_commit.specs.declared.primary.Event.TheVariants as event
use Rattle.primary_commit.proofs.Agreement.{Holds-none, Holds-on}
use Rattle.drawn_events.specs.DrawnEvents.{IsAmongFour, accept_drawn, counts_of, event_drawn, events_after, firsts_given, post_drawn, step_drawn, take_drawn}

-- each peer has a log of each of the four
pub four_logs : (happened : Happened) (replica : ℕ)
    → IsAmongFour happened
    → replica < 4
    → length (peer_at (network_after happened.n happened.events) replica).logs ≡ 4
four_logs happened replica is within =
    subst (λ (n : ℕ). length (peer_at (network_after n happened.events) replica).logs ≡ 4) (sym is.four)
    ((Holds-on 4 [] happened.events is.may (Holds-none 4 (omega (arith)))).0.sound.logs replica within)

-- what may be drawn may follow
abbrev pub MayFollowIfAny : List Event → Option Event → Type 0
MayFollowIfAny events None = Unit {0}
MayFollowIfAny events (Some event) = MayFollow 4 events event

accept_may : (events : List Event) (state : ℕ) → MayFollow 4 events (accept_drawn state).0
unfolding accept_drawn
accept_may events state = picked_below 4 state (omega (arith))

length-firsts : (peer : PeerState) (kind : ℕ) → length (firsts_given peer kind) ≡ 4
length-firsts peer kind = go (kind == 0)
  where
    go : (none : Bool) → length (cond none (replicate 4 0) (counts_of peer)) ≡ 4
    go true = refl
    go false = refl

post_may : (events : List Event) (state : ℕ) → MayFollow 4 events (post_drawn (network_after 4 events) state).0
unfolding post_drawn
post_may events state =
    let two = two_are_two state in
    (two.first_in, two.second_in, two.others, length-firsts (peer_at (network_after 4 events) (two_drawn state).0.1) _)

take_may : (events : List Event) (state : ℕ) → MayFollowIfAny events (take_drawn (length (network_after 4 events).notices) state).0
unfolding take_drawn one_drawn
take_may events state = go (posted == 0) refl
  where
    posted : ℕ
    posted = length (network_after 4 events).notices

    go : (none : Bool) → (posted == 0) ≡ none → MayFollowIfAny events (option_map event.Take (cond none (drawn None) (some_drawn (pick posted)) state).0)
    go true is = tt
    go false is = picked_below posted state (omega (arith, eqb-false posted 0 is))

event_may : (events : List Event) (kind state : ℕ) → MayFollowIfAny events (event_drawn (network_after 4 events) kind state).0
event_may events kind state = go (nat_lt kind 4) (nat_lt kind 7)
  where
    go : (accept post : Bool)
        → MayFollowIfAny events (cond accept (some_drawn accept_drawn) (cond post (some_drawn (post_drawn (network_after 4 events)))
        (take_drawn (length (network_after 4 events).notices))) state).0
    go true post = accept_may events state
    go false true = post_may events state
    go false false = take_may events state

pub event_found : (happened : Happened) (kind state state' : ℕ) (found : Option Event) (event : Event)
    → IsAmongFour happened
    → event_drawn (network_after 4 happened.events) kind state ≡ (found, state')
    → found ≡ Some event
    → MayFollow happened.n happened.events event
event_found happened kind state state' found event is drawn some =
    subst (λ (n : ℕ). MayFollow n happened.events event) (sym is.four)
    (subst (MayFollowIfAny happened.events) (ap (λ (taken : Option Event × ℕ). taken.0) drawn ∙ some) (event_may happened.events kind state))

-- so it goes on
pub among_four-push : (happened new : Happened) (event : Event)
    → IsAmongFour happened
    → MayFollow happened.n happened.events event
    → new ≡ record happened { events = happened.events ++ event ∷ [] }
    → IsAmongFour new
among_four-push happened new event is may same = subst IsAmongFour (sym same) (record {
  four = is.four;
  may = EachAfter-push (MayFollow 4) happened.events event is.may (subst (λ (n : ℕ). MayFollow n happened.events event) is.four may);
})

pub among_four-none : (happened : Happened) → happened ≡ record { n = 4; events = [] } → IsAmongFour happened
among_four-none happened same = subst IsAmongFour (sym same) (record { four = refl; may = EachAfter-nil (MayFollow 4) })

-- what has been drawn in so many steps
pub record IsDrawnTo (number done : ℕ) (happened : Happened) (draws : ℕ) : Type 0 where
  pub events : events_after done number ≡ (happened.events, draws)
  pub few : length happened.events ≤ done
  pub among : IsAmongFour happened

pub drawn_to_begins : (number : ℕ) (happened : Happened) → happened ≡ record { n = 4; events = [] } → IsDrawnTo number 0 happened number
drawn_to_begins number happened same = subst (λ (h : Happened). IsDrawnTo number 0 h number) (sym same) (record {
  events = after_none (λ step. step_drawn) [] number;
  few = omega (arith);
  among = among_four-none (record { n = 4; events = [] }) refl;
})

pub drawn_to_more : (number done : ℕ) (happened new : Happened) (draws draws' : ℕ)
    → IsDrawnTo number done happened draws
    → step_drawn happened.events draws ≡ (new.events, draws')
    → length new.events ≤ length happened.events + 1
    → IsAmongFour new
    → IsDrawnTo number (done + 1) new draws'
drawn_to_more number done happened new draws draws' is step few among = record {
  events = after_more (λ at. step_drawn) [] number done ∙ ap (λ (before : List Event × ℕ). step_drawn before.0 before.1) is.events ∙ step;
  few = omega (arith, few, is.few);
  among = among;
}

pub drawn_to_ends : (number : ℕ) (happened : Happened) (draws : ℕ)
    → IsDrawnTo number 1000 happened draws
    → happened ≡ record { n = 4; events = (events_after 1000 number).0 }
drawn_to_ends number happened draws is =
    ap (λ (n : ℕ). record { n = n; events = happened.events }) is.among.four
    ∙ ap (λ (after : List Event × ℕ). record { n = 4; events = after.0 }) (sym is.events)
