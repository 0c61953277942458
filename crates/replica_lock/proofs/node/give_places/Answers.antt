use Rattle.std.proofs.Common.{◌≢◌, ◌<◌, ℕ, All, sym, subst, arith}
use Rattle.tact_base.specs.declared.limits.TheConstants.{CLIENTS}
use Rattle.weight_ledger.specs.Amounts.{IsLeft, IsMoved}
use Rattle.replica_lock.specs.Rosters.{HasNumbers, no_numbers}
use Rattle.replica_lock.specs.Sessions.{SessionView, place_of}
use Rattle.replica_lock.specs.contracts.session.Session.{the_view}
use Rattle.replica_lock.proofs.Finishing.{places-given}
use Rattle.replica_lock.proofs.Places.{away}
use Rattle.replica_lock.proofs.node.give_places.Goals as goal

pub returns-clause-places : goal.returns-clause-places
returns-clause-places g c =
    rw (← c.session.view_is)
    (places-given (the_view c.session.inside) c.args.tally.now c.session.inside.tally c.split_own-own.new.tally c.split_own-own.result c.join.new.tally c.session.invariant
    (subst (λ (s : SessionView). s.client < CLIENTS → HasNumbers s.conits s.client no_numbers c.args.tally.now) (sym c.session.view_is) c.requires.nothing c.session.invariant.among)
    (subst (All (IsMoved c.session.inside.tally c.split_own-own.new.tally c.split_own-own.result)) c.places_of-places.ensures c.split_own-own.ensures.moved)
    c.join.ensures.amounts c.join.ensures.owns)

pub returns-clause-others : goal.returns-clause-others
returns-clause-others g c place elsewhere =
    let inside = c.session.inside in
    let left = c.split_own-own.new.tally in
    let gone = c.split_own-own.result in
    let others = subst (λ places. (p : ℕ) → All (λ q. q ≢ p) places → IsLeft inside.tally left gone p) c.places_of-places.ensures c.split_own-own.ensures.others in
    let apart = subst (λ (s : SessionView). (k : ℕ) → k < 5 → place ≢ place_of s.conits s.client k) (sym c.session.view_is) elsewhere in
    let is_left = away inside.conits inside.client inside.tally left gone others place apart in
    (omega (arith, c.join.ensures.amounts place, is_left.none), λ owned none. owned (omega (arith, c.join.ensures.owns place, none)))
