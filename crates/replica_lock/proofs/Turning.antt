-- What a turn knows of a session of its node.
use Rattle.std.proofs.Common.{◌≡◌, ◌≢◌, ℕ, ◌^◌, ◌+◌, ◌<◌, Bool, false, cond, List, length, slice_index, get_or, set, sym, ap, ◌∙◌, subst, ⊎_elim, arith, get_or-set_same, get_or-set_other}
use Rattle.std.proofs.lemmas.Bool.{cases_eq}
use Rattle.tact_base.specs.Setup.{Setup}
use Rattle.run_model.specs.Histories.{part_of, calls_in}
use Rattle.run_model.specs.declared.entry.Entry.{Entry}
use Rattle.atomic_table.specs.Seated.{TableId}
use Rattle.run_history.specs.Seats.{DeskView}
use Rattle.weight_ledger.specs.Seen.{TallyView}
use Rattle.locked_replica.specs.Locks.{IsLocked, LockedView, made_place, part_in, turns_place}
use Rattle.replica_lock.specs.Ledgers.{IsBooked, doubt_place, faults_place, halts_place, owe_of, standing}
use Rattle.replica_lock.specs.Nodes.{CountsView, KeepsTurn}
use Rattle.replica_lock.specs.Sessions.{HasPlacesOf, IsAtNode, KeepsSession, NodeView, SessionView, TurnView, place_of}
use Rattle.replica_lock.specs.declared.label.Label.{Label}

-- where the first two of a client's five places stand
pub turns_first : (conits client : ℕ) → place_of conits client 0 ≡ turns_place conits client
turns_first conits client = omega arith

pub made_second : (conits client : ℕ) → place_of conits client 1 ≡ made_place conits client
made_second conits client = omega arith

-- what a session's tally has at the places of its client, and owns, place by place
pub record OwnPlaces (session : SessionView) (tally : TallyView) : Type 0 where
  pub owns_turns : slice_index tally.owns (turns_place session.conits session.client) ≢ 0
  pub owns_made : slice_index tally.owns (made_place session.conits session.client) ≢ 0
  pub owns_faults : slice_index tally.owns (faults_place session.conits session.client) ≢ 0
  pub owns_halts : slice_index tally.owns (halts_place session.conits session.client) ≢ 0
  pub owns_doubt : slice_index tally.owns (doubt_place session.conits session.client) ≢ 0
  pub turns : slice_index tally.amounts (turns_place session.conits session.client) ≡ session.calls
  pub made : slice_index tally.amounts (made_place session.conits session.client) ≡ session.made
  pub faults : slice_index tally.amounts (faults_place session.conits session.client) ≡ session.faults
  pub halts : slice_index tally.amounts (halts_place session.conits session.client) ≡ session.halts
  pub doubt : slice_index tally.amounts (doubt_place session.conits session.client) ≡ cond session.doubt 1 0

pub own_places : {session : SessionView} {tally : TallyView} → KeepsSession session tally → OwnPlaces session tally
own_places {session} {tally} keeps =
    let conits = session.conits in
    let client = session.client in
    let places = keeps.places in
    record {
      owns_turns = subst (λ p. slice_index tally.owns p ≢ 0) (turns_first conits client) (places.owns 0 (omega arith));
      owns_made = subst (λ p. slice_index tally.owns p ≢ 0) (made_second conits client) (places.owns 1 (omega arith));
      owns_faults = places.owns 2 (omega arith);
      owns_halts = places.owns 3 (omega arith);
      owns_doubt = places.owns 4 (omega arith);
      turns = ap (slice_index tally.amounts) (sym (turns_first conits client)) ∙ places.amounts 0 (omega arith);
      made = ap (slice_index tally.amounts) (sym (made_second conits client)) ∙ places.amounts 1 (omega arith);
      faults = places.amounts 2 (omega arith);
      halts = places.amounts 3 (omega arith);
      doubt = places.amounts 4 (omega arith);
    }

-- where one of a client's numbers changed, and no other place of its tally
pub places_set : {conits client : ℕ} {numbers : List ℕ} {before after : TallyView} (k place given value : ℕ)
    → k < length numbers
    → place ≡ place_of conits client k
    → after ≡ record before { amounts = set before.amounts place given }
    → slice_index after.amounts place ≡ value
    → HasPlacesOf conits client numbers before
    → HasPlacesOf conits client (set numbers k value) after
places_set {conits} {client} {numbers} {before} {after} k place given value within here is now has = record {
  owns = λ j below. subst (λ (t : TallyView). slice_index t.owns (place_of conits client j) ≢ 0) (sym is) (has.owns j below);
  amounts = λ j below. ⊎_elim
      (λ (same : j ≡ k).
      ap (λ i. slice_index after.amounts (place_of conits client i)) same ∙ ap (slice_index after.amounts) (sym here) ∙ now
      ∙ sym (ap (λ i. get_or (set numbers k value) i 0) same ∙ get_or-set_same numbers k value 0 within))
      (λ (apart : j ≡ k → ⊥).
      ap (λ (t : TallyView). slice_index t.amounts (place_of conits client j)) is
      ∙ get_or-set_other before.amounts place (place_of conits client j) given 0 (λ same. apart (omega (arith, same, here)))
      ∙ has.amounts j below ∙ sym (get_or-set_other numbers k j value 0 apart))
      (cases_eq j k);
}

-- The session's replica is that of the value behind the lock; and its turns are its client's calls there, where it isn't
-- in doubt.
pub record Tells (node : NodeView) (locked : LockedView) (session : SessionView) : Type 0 where
  pub setup : node.desk.setup ≡ locked.core.setup
  pub replica : session.replica ≡ locked.core.replica
  pub calls : session.doubt ≡ false → session.calls ≡ calls_in (part_in locked) session.client
  pub known : session.doubt ≡ false → calls_in (part_of session.seen session.replica) session.client ≡ session.calls

-- the setup of a turn's node is that of the value behind the lock
pub turn-setup : (node : NodeView) (counts : CountsView) (locked : LockedView) → KeepsTurn node counts locked → node.desk.setup ≡ locked.core.setup
turn-setup node counts locked turn = sym (ap (λ (d : DeskView). d.setup) (ap (λ (l : Label). l.desk) turn.label ∙ turn.keeps.desk_is))

-- A turn with which the tally of a session at its node agreed.
pub record Agreed (node : NodeView) (counts : CountsView) (locked : LockedView) (session : SessionView) (tally now : TallyView) : Type 0 where
  pub turn : KeepsTurn node counts locked
  pub kept : IsLocked locked
  pub booked : IsBooked locked.core.setup.conits locked.totals counts.book counts.owes
  pub of : IsAtNode node session
  pub keeps : KeepsSession session tally
  pub owned : (p : ℕ) → slice_index tally.owns p ≢ 0 → slice_index counts.book p ≡ slice_index tally.amounts p
  pub cell : now.id ≡ session.cell

-- where the session is at the node by other names of both
pub agreed : {turn turn_as : TurnView} {session session_as : SessionView} {counts : CountsView} {tally now : TallyView}
    → turn ≡ turn_as
    → session ≡ session_as
    → IsAtNode turn_as.node session_as
    → KeepsTurn turn.node counts turn.state
    → IsLocked turn.state
    → IsBooked turn.state.core.setup.conits turn.state.totals counts.book counts.owes
    → KeepsSession session tally
    → ((p : ℕ) → slice_index tally.owns p ≢ 0 → slice_index counts.book p ≡ slice_index tally.amounts p)
    → now ≡ tally
    → tally.id ≡ session.cell
    → Agreed turn.node counts turn.state session tally now
agreed {turn} {turn_as} {session} {session_as} {counts} {tally} {now} same same_session of keeps_turn kept booked keeps owned tallies cell = record {
  turn = keeps_turn;
  kept = kept;
  booked = booked;
  of = subst (λ (t : TurnView). IsAtNode t.node session) (sym same) (subst (IsAtNode turn_as.node) (sym same_session) of);
  keeps = keeps;
  owned = owned;
  cell = ap (λ (t : TallyView). t.id) tallies ∙ cell;
}

-- Of what a turn's book has for a session: its five numbers stand at the places of its client, for the count of conits of
-- the value behind the lock.
module _ {node : NodeView} {counts : CountsView} {locked : LockedView} {session : SessionView} {tally now : TallyView} (agrees : Agreed node counts locked session tally now) where
  pub width : session.conits ≡ locked.core.setup.conits
  width = agrees.of.conits ∙ ap (λ (s : Setup). s.conits) (turn-setup node counts locked agrees.turn)

  pub places : OwnPlaces session tally
  places = own_places agrees.keeps

  pub in_turns : slice_index counts.book (turns_place session.conits session.client) ≡ session.calls
  in_turns = agrees.owned (turns_place session.conits session.client) places.owns_turns ∙ places.turns

  pub in_made : slice_index counts.book (made_place session.conits session.client) ≡ session.made
  in_made = agrees.owned (made_place session.conits session.client) places.owns_made ∙ places.made

  pub in_doubt : slice_index counts.book (doubt_place session.conits session.client) ≡ cond session.doubt 1 0
  in_doubt = agrees.owned (doubt_place session.conits session.client) places.owns_doubt ∙ places.doubt

  -- nothing stands for a session that isn't in doubt
  pub none_stands : session.doubt ≡ false → standing (owe_of counts.owes session.client) ≡ 0
  none_stands certain =
      let none = ap (λ n. slice_index counts.book (doubt_place n session.client)) (sym width) ∙ in_doubt ∙ ap (λ (b : Bool). cond b 1 0) certain in
      ap (λ (b : Bool). cond b 1 0) (agrees.booked.certain session.client agrees.keeps.among none).0

  pub tells : Tells node locked session
  tells =
      let turns = ap (λ n. slice_index counts.book (turns_place n session.client)) (sym width) ∙ in_turns in
      record {
        setup = turn-setup node counts locked agrees.turn;
        replica = agrees.of.replica ∙ sym agrees.turn.replica ∙ sym (ap (λ (l : Label). l.replica) agrees.turn.label);
        calls = λ certain. omega (
          arith,
          turns,
          agrees.booked.turns session.client agrees.keeps.among,
          none_stands certain,
          agrees.kept.turns session.client agrees.keeps.among,
        );
        known = agrees.keeps.calls;
      }

  -- what is counted for the client, in the totals and in the book, has room for one more where the totals have
  pub room_turns : slice_index locked.totals (turns_place locked.core.setup.conits session.client) + 1 < 2 ^ 64
      → slice_index counts.book (turns_place session.conits session.client) + 1 < 2 ^ 64
  room_turns room =
      let same = ap (λ n. slice_index counts.book (turns_place n session.client)) width in
      omega (arith, room, same, agrees.booked.turns session.client agrees.keeps.among)

  pub room_made : slice_index locked.totals (made_place locked.core.setup.conits session.client) + 1 < 2 ^ 64
      → slice_index counts.book (made_place session.conits session.client) + 1 < 2 ^ 64
  room_made room =
      let same = ap (λ n. slice_index counts.book (made_place n session.client)) width in
      omega (arith, room, same, agrees.booked.made session.client agrees.keeps.among)

-- a session's view, part by part
pub session_as : (session : SessionView) (calls made faults halts : ℕ) (doubt : Bool) (cell cell_as desk desk_as : TableId) (seen seen_as : List Entry)
    → cell ≡ cell_as
    → desk ≡ desk_as
    → seen ≡ seen_as
    → (let view : SessionView = record session { cell = cell; desk = desk; calls = calls; made = made; faults = faults; halts = halts; doubt = doubt; seen = seen } in
    view ≡ record session { cell = cell_as; desk = desk_as; calls = calls; made = made; faults = faults; halts = halts; doubt = doubt; seen = seen_as })
session_as session calls made faults halts doubt cell cell_as desk desk_as seen seen_as cells desks seens = cc
