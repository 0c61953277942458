use Rattle.std.proofs.Common.{◌≢◌, ℕ, List, false, All, AllPairs, Contains, get_or, refl, sym, ap, ◌∙◌, subst}
use Rattle.run_history.specs.Seats.{NoteView}
use Rattle.run_model.specs.Histories.{part_of}
use Rattle.weight_ledger.specs.Amounts.{IsLeft, IsMoved}
use Rattle.replica_lock.specs.Rosters.{RosterView}
use Rattle.replica_lock.specs.Sessions.{SessionView}
use Rattle.replica_lock.specs.contracts.roster.Roster.{the_view}
use Rattle.replica_lock.proofs.Opening.{apart-push, free-left, nothing-left, places-given_out, KeepsSession-new}
use Rattle.replica_lock.proofs.Places.{all-places}
use Rattle.replica_lock.proofs.node.Node.session.Goals as goal

pub split_own-tally-requires-clause-owned : goal.split_own-tally-requires-clause-owned
split_own-tally-requires-clause-owned g c =
    let client = c.args.client in
    let Owns = λ (p : ℕ). get_or c.roster.inside.tally.owns p 0 ≢ 0 in
    let out = λ (in_it : Contains c.roster.inside.clients client). c.if-has.ensures (subst (λ (r : RosterView). Contains r.clients client) c.roster.view_is in_it) in
    subst (All Owns) (sym c.places_of-places.ensures) (all-places Owns c.roster.inside.conits client (c.roster.invariant.free client c.requires.client out).owns)

pub invariant_of-result : goal.invariant_of-result
invariant_of-result g c =
    let client = c.args.client in
    let before = c.roster.inside.tally in
    let left = c.split_own-tally.new.tally in
    let gone = c.split_own-tally.result in
    let out = λ (in_it : Contains c.roster.inside.clients client). c.if-has.ensures (subst (λ (r : RosterView). Contains r.clients client) c.roster.view_is in_it) in
    let moved = subst (All (IsMoved before left gone)) c.places_of-places.ensures c.split_own-tally.ensures.moved in
    let others = subst (λ places. (p : ℕ) → All (λ q. q ≢ p) places → IsLeft before left gone p) c.places_of-places.ensures c.split_own-tally.ensures.others in
    let session : SessionView = record {
      cell = gone.id;
      desk = c.twin.result.table;
      conits = c.roster.inside.conits;
      replica = c.roster.inside.replica;
      client = client;
      calls = 0;
      made = 0;
      faults = 0;
      halts = 0;
      doubt = false;
      seen = c.twin.result.seen;
    } in
    KeepsSession-new session gone c.requires.client c.roster.invariant.few refl
    (ap (λ (n : NoteView). part_of n.seen c.roster.inside.replica) c.twin.ensures.twin ∙ c.roster.invariant.none)
    (places-given_out (the_view c.roster.inside) client c.roster.inside.note.seen before left gone c.roster.invariant c.requires.client out moved others)

pub invariant_of-roster-2 : goal.invariant_of-roster-2
invariant_of-roster-2 g c =
    let roster = the_view c.roster.inside in
    let client = c.args.client in
    let seen = c.roster.inside.note.seen in
    let before = c.roster.inside.tally in
    let left = c.split_own-tally.new.tally in
    let gone = c.split_own-tally.result in
    let out = λ (in_it : Contains c.roster.inside.clients client). c.if-has.ensures (subst (λ (r : RosterView). Contains r.clients client) c.roster.view_is in_it) in
    let moved = subst (All (IsMoved before left gone)) c.places_of-places.ensures c.split_own-tally.ensures.moved in
    let others = subst (λ places. (p : ℕ) → All (λ q. q ≢ p) places → IsLeft before left gone p) c.places_of-places.ensures c.split_own-tally.ensures.others in
    record {
      few = c.roster.invariant.few;
      none = ap (λ (n : NoteView). part_of n.seen c.roster.inside.replica) c.twin.ensures.kept ∙ c.roster.invariant.none;
      apart = subst (AllPairs (λ (one other : ℕ). one ≢ other)) (sym c.in_ok-push.ensures.ok) (apart-push c.roster.inside.clients client out c.roster.invariant.apart);
      nothing = nothing-left roster client seen before left gone c.roster.invariant c.requires.client out moved others;
      free = λ other among free.
          free-left roster client seen before left gone c.roster.invariant c.requires.client out moved others other among
          (λ in_it. free (subst (λ (cs : List ℕ). Contains cs other) (sym c.in_ok-push.ensures.ok) in_it));
    }
