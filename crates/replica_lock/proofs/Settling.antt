-- What a turn knows of a session in doubt that it settles, and what that leaves.
use Rattle.std.proofs.Common.{◌≡◌, ◌≢◌, ℕ, ◌+◌, ◌^◌, ◌<◌, ◌≤◌, ◌⊎◌, inl, inr, Bool, true, false, cond, not, List, [], ◌∷◌, set, refl, sym, ap, ◌∙◌, subst, ⊎_elim, arith}
use Rattle.std.proofs.lemmas.Bool.{not-true}
use Rattle.std.proofs.lemmas.List.Sums.{get_or-le-sum_by}
use Rattle.std.specs.Prelude.{None, slice_index}
use Rattle.tact_base.specs.Setup.{Setup, IsSetup}
use Rattle.tact_base.specs.declared.limits.TheConstants.{AMOUNT_MAX, CLIENTS}
use Rattle.run_model.specs.Histories.{part_of, calls_in}
use Rattle.run_model.specs.Missing.{reserved}
use Rattle.run_model.specs.Runs.{IsPart, IsRun}
use Rattle.run_model.specs.declared.entry.Entry.{Entry}
use Rattle.run_history.proofs.RunLemmas.{parts_are_short}
use Rattle.entry_journal.specs.EntryJournals.{JournalView}
use Rattle.locked_replica.specs.Locks.{IsLocked, LockedView, part_in, turns_place}
use Rattle.locked_replica.proofs.Allowing.{reserved-most}
use Rattle.locked_replica.proofs.Entering.{calls-few}
use Rattle.replica_lock.specs.Ledgers.{IsAccounted, IsBooked, amount_in, doubt_place, less_at, more_at, nothing_owed, owe_of, owed_by, owed_on, resumed_book, resumed_owe, standing}
use Rattle.replica_lock.specs.Nodes.{CountsView}
use Rattle.replica_lock.specs.Sessions.{IsAtNode, NodeView, SessionView, TurnView}
use Rattle.replica_lock.specs.declared.label.Label.{Label}
use Rattle.replica_lock.specs.declared.owe.Owe.{Owe}
use Rattle.replica_lock.proofs.Accounting.{IsStep, accounted-resumed}
use Rattle.replica_lock.proofs.LedgerLemmas.{owed_by-here}
use Rattle.replica_lock.proofs.Stepping.{IsTurn, keeps_turn}
use Rattle.replica_lock.proofs.Turning.{turn-setup}

-- a part that has an entry is of a replica of the setup
among-part : (setup : Setup) (replica : ℕ) (part : List Entry) → IsPart setup replica part → (part ≡ []) ⊎ (replica < setup.replicas)
among-part setup replica [] each = inl refl
among-part setup replica (x ∷ xs) each =
    let first = each [] xs x refl in
    inr (subst (λ r. r < setup.replicas) first.0 first.1.in_range.replica)

-- so no more is reserved there than may be
reserved-few : (locked : LockedView) (conit : ℕ)
    → IsLocked locked
    → IsSetup locked.core.setup
    → IsRun locked.core.setup locked.clerk.seen
    → conit < locked.core.setup.conits
    → reserved (part_in locked) conit ≤ AMOUNT_MAX
reserved-few locked conit kept sound run here =
    ⊎_elim (λ (none : part_in locked ≡ []). omega (arith, ap (λ part. reserved part conit) none))
    (λ (among : locked.core.replica < locked.core.setup.replicas).
    omega (arith, ap (λ part. reserved part conit) kept.own, reserved-most locked.core.setup sound locked.clerk.seen run locked.core.replica conit among here))
    (among-part locked.core.setup locked.core.replica (part_in locked) kept.stands.is_part)

-- A turn with a session in doubt that has seen all that the clerk has seen, whose turns the book has, at a node that
-- isn't halted.
pub record Settles (node : NodeView) (counts : CountsView) (locked : LockedView) (journal : JournalView) (session : SessionView) : Type 0 where
  pub keeps : IsTurn node counts locked journal
  pub going : journal.halted ≡ false
  pub kept : IsLocked locked
  pub of : IsAtNode node session
  pub among : session.client < CLIENTS
  pub seen : session.seen ≡ locked.clerk.seen
  pub run : IsRun node.desk.setup session.seen
  pub turns : slice_index counts.book (turns_place session.conits session.client) ≡ session.calls

pub settles : {turn turn_as : TurnView} {session session_as : SessionView} {counts : CountsView}
    → turn ≡ turn_as
    → session ≡ session_as
    → IsTurn turn.node counts turn.state turn.journal
    → turn.book ≡ counts.book
    → session.client < CLIENTS
    → turn_as.journal.halted ≡ false
    → IsLocked turn_as.state
    → IsAtNode turn_as.node session_as
    → session_as.seen ≡ turn_as.state.clerk.seen
    → IsRun turn_as.node.desk.setup session_as.seen
    → slice_index turn_as.book (turns_place session_as.conits session_as.client) ≡ session_as.calls
    → Settles turn.node counts turn.state turn.journal session
settles {turn} {turn_as} {session} {session_as} {counts} same same_session keeps book among going kept of seen run turns = record {
  keeps = keeps;
  going = ap (λ (t : TurnView). t.journal.halted) same ∙ going;
  kept = subst (λ (t : TurnView). IsLocked t.state) (sym same) kept;
  of = subst (λ (t : TurnView). IsAtNode t.node session) (sym same) (subst (IsAtNode turn_as.node) (sym same_session) of);
  among = among;
  seen = ap (λ (s : SessionView). s.seen) same_session ∙ seen ∙ sym (ap (λ (t : TurnView). t.state.clerk.seen) same);
  run = subst (λ (t : TurnView). IsRun t.node.desk.setup session.seen) (sym same) (subst (λ (s : SessionView). IsRun turn_as.node.desk.setup s.seen) (sym same_session) run);
  turns =
      ap (λ b. slice_index b (turns_place session.conits session.client)) (sym book)
      ∙ ap (λ (t : TurnView). slice_index t.book (turns_place session.conits session.client)) same
      ∙ ap (λ (s : SessionView). slice_index turn_as.book (turns_place s.conits s.client)) same_session
      ∙ turns ∙ sym (ap (λ (s : SessionView). s.calls) same_session);
}

-- the totals after a client was paid what it is owed, and resolved
pub resumed-counts : (counts : CountsView) {paid later : CountsView} {session session_as : SessionView} {owe due : Owe}
    → later ≡ record {
      cell = paid.cell;
      book = less_at (doubt_place session.conits session.client) 1 (more_at (turns_place session.conits session.client) (standing owe) paid.book);
      owes = set paid.owes session.client (resumed_owe owe);
    }
    → paid ≡ record counts { book = more_at owe.conit (amount_in owe.amount) counts.book }
    → session ≡ session_as
    → owe ≡ due
    → later ≡ record counts { book = resumed_book session_as.conits session_as.client due counts.book; owes = set counts.owes session_as.client (resumed_owe due) }
resumed-counts counts {paid} {later} {session} {session_as} {owe} {due} is pays same dues =
    is
    ∙ ap (λ (k : CountsView). let now : CountsView = record {
      cell = k.cell;
      book = less_at (doubt_place session.conits session.client) 1 (more_at (turns_place session.conits session.client) (standing owe) k.book);
      owes = set k.owes session.client (resumed_owe owe);
    } in now) pays
    ∙ ap (λ (s : SessionView). let now : CountsView = record counts { book = resumed_book s.conits s.client owe counts.book; owes = set counts.owes s.client (resumed_owe owe) } in now) same
    ∙ ap (λ (o : Owe). let now : CountsView = record counts { book = resumed_book session_as.conits session_as.client o counts.book; owes = set counts.owes session_as.client (resumed_owe o) } in now) dues

-- its book and what is owed then
pub resumed-parts : (counts : CountsView) {later : CountsView} {book : List ℕ} {owes : List Owe}
    → later ≡ record counts { book = book; owes = owes }
    → (later.book ≡ book) × (later.owes ≡ owes)
resumed-parts counts {later} {book} {owes} is = (ap (λ (k : CountsView). k.book) is, ap (λ (k : CountsView). k.owes) is)

module _ {node : NodeView} {counts : CountsView} {locked : LockedView} {journal : JournalView} {session : SessionView} (known : Settles node counts locked journal session) where
  setup : node.desk.setup ≡ locked.core.setup
  setup = turn-setup node counts locked known.keeps.0

  conits : session.conits ≡ locked.core.setup.conits
  conits = known.of.conits ∙ ap (λ (s : Setup). s.conits) setup

  replica : session.replica ≡ locked.core.replica
  replica = known.of.replica ∙ sym known.keeps.0.replica ∙ sym (ap (λ (l : Label). l.replica) known.keeps.0.label)

  booked : IsBooked locked.core.setup.conits locked.totals counts.book counts.owes
  booked = known.keeps.2.booked

  pub own-part : part_of session.seen session.replica ≡ part_in locked
  own-part = ap (λ h. part_of h session.replica) known.seen ∙ ap (part_of locked.clerk.seen) replica ∙ known.kept.own

  pub part-calls : calls_in (part_in locked) session.client ≡ session.calls + standing (owe_of counts.owes session.client)
  part-calls =
      let turns = ap (λ n. slice_index counts.book (turns_place n session.client)) (sym conits) ∙ known.turns in
      omega (arith, turns, booked.turns session.client known.among, known.kept.turns session.client known.among)

  pub seen-calls : {due : Owe} → due ≡ owe_of counts.owes session.client → calls_in (part_of session.seen session.replica) session.client ≡ session.calls + standing due
  seen-calls is = ap (λ part. calls_in part session.client) own-part ∙ part-calls ∙ ap (λ (o : Owe). session.calls + standing o) (sym is)

  pub room-calls : session.calls + 1 < 2 ^ 64
  room-calls =
      let short = parts_are_short node.desk.setup session.seen known.run session.replica in
      omega (arith, seen-calls refl, calls-few (part_of session.seen session.replica) session.client, short)

  pub room-paid : {due : Owe} → due ≡ owe_of counts.owes session.client → due.amount ≢ None → slice_index counts.book due.conit + amount_in due.amount < 2 ^ 64
  room-paid {due} is some =
      let mine = owe_of counts.owes session.client in
      let here : mine.conit < locked.core.setup.conits = booked.within session.client known.among (λ none. some (ap (λ (o : Owe). o.amount) is ∙ none)) in
      let one : owed_by mine.conit mine ≤ owed_on counts.owes mine.conit =
      get_or-le-sum_by (owed_by mine.conit) counts.owes session.client nothing_owed (omega (arith, booked.owes_sized, known.among)) in
      let sound = subst IsSetup setup known.keeps.0.keeps.sound in
      let run : IsRun locked.core.setup locked.clerk.seen = subst (λ (s : Setup). IsRun s locked.clerk.seen) setup (subst (IsRun node.desk.setup) known.seen known.run) in
      let few = reserved-few locked mine.conit known.kept sound run here in
      let enough : slice_index counts.book mine.conit + amount_in mine.amount < 2 ^ 64 =
      omega (arith, one, owed_by-here mine, booked.amounts mine.conit here, known.kept.allowances mine.conit here, few) in
      subst (λ (o : Owe). slice_index counts.book o.conit + amount_in o.amount < 2 ^ 64) (sym is) enough

  pub after_resumed : {later : CountsView}
      → later ≡ record counts { book = resumed_book session.conits session.client (owe_of counts.owes session.client) counts.book; owes = set counts.owes session.client (resumed_owe (owe_of counts.owes session.client)) }
      → IsTurn node later locked journal
  after_resumed {later} is =
      let accounts : IsStep session.conits locked locked journal journal counts.book counts.owes =
      record { accounted = known.keeps.2; conits_before = sym conits; conits_after = sym conits; tells = refl; no_less = omega arith } in
      let here = subst (λ n. (owe_of counts.owes session.client).amount ≢ None → (owe_of counts.owes session.client).conit < n) (sym conits) (booked.within session.client known.among) in
      let now = accounted-resumed accounts session.client known.among refl (known.keeps.1.certain known.going) here in (
        keeps_turn known.keeps.0 (ap (λ (k : CountsView). k.cell) is) (refl, refl, refl),
        known.keeps.1,
        subst (λ (k : CountsView). IsAccounted locked journal k.book k.owes) (sym is) now,
      )

  -- a session whose call wasn't made
  pub dropped : {paid later : SessionView} {due : Owe}
      → later ≡ record paid { calls = paid.calls + standing due; doubt = false }
      → paid ≡ session
      → due ≡ owe_of counts.owes session.client
      → not due.stands ≡ true
      → (later ≡ record session { doubt = false }) × (calls_in (part_in locked) session.client ≡ session.calls)
  dropped {paid} {later} {due} is same dues fell =
      let none : due.stands ≡ false = not-true due.stands fell in
      let nothing : standing due ≡ 0 = ap (λ (b : Bool). let n : ℕ = cond b 1 0 in n) none in
      let calls : session.calls + standing due ≡ session.calls = omega (arith, nothing) in (
        is
            ∙ ap (λ (s : SessionView). let now : SessionView = record s { calls = s.calls + standing due; doubt = false } in now) same
            ∙ ap (λ n. let now : SessionView = record session { calls = n; doubt = false } in now) calls,
        omega (arith, part-calls, ap standing dues, nothing),
      )
