-- What contracts see of a node's roster.
use Rattle.std.specs.Prelude.{◌≡◌, ◌≢◌, ℕ, ◌+◌, ◌-◌, ◌<◌, ◌≤◌, ◌^◌, Bool, false, IsTrue, List, [], ◌∷◌, All, AllPairs, Contains, length, slice_index, sum_by}
use Rattle.atomic_table.specs.Seated.{TableId}
use Rattle.tact_base.specs.declared.limits.TheConstants.{CLIENTS, CONITS_MAX}
use Rattle.run_model.specs.Histories.{part_of, calls_in}
use Rattle.run_model.specs.declared.entry.Entry.{Entry}
use Rattle.weight_ledger.specs.Seen.{TallyView}
use Rattle.replica_lock.specs.Sessions.{HasPlacesOf, NodeView, SessionView, own_calls, place_of}
use Rattle.replica_lock.specs.declared.fault.SessionFault.{SessionFault}
use Rattle.replica_lock.specs.declared.fault.SessionFault.TheVariants as fault

-- which node it is of (its cell, the table of its desk, the count of its conits, its replica), and the clients that
-- have a session
pub record RosterView : Type 0 where
  pub cell : TableId
  pub desk : TableId
  pub conits : ℕ
  pub replica : ℕ
  pub clients : List ℕ

-- a roster is of a node
pub record IsRosterOf (node : NodeView) (roster : RosterView) : Type 0 where
  pub cell : roster.cell ≡ node.cell
  pub desk : roster.desk ≡ node.desk.table
  pub conits : roster.conits ≡ node.desk.setup.conits
  pub replica : roster.replica ≡ node.replica

-- the numbers of a client that did nothing
abbrev pub no_numbers : List ℕ
no_numbers = 0 ∷ 0 ∷ 0 ∷ 0 ∷ 0 ∷ []

-- a tally has these five numbers at the places of a client
abbrev pub HasNumbers : ℕ → ℕ → List ℕ → TallyView → Type 0
HasNumbers conits client numbers tally = (k : ℕ) → k < 5 → slice_index tally.amounts (place_of conits client k) ≡ slice_index numbers k

-- A roster's note has seen no entry of the replica. Its tally has nothing of any client, and the places of each without
-- a session. No client has two.
pub record KeepsRoster (roster : RosterView) (seen : List Entry) (tally : TallyView) : Type 0 where
  pub few : roster.conits ≤ CONITS_MAX
  pub none : part_of seen roster.replica ≡ []
  pub apart : AllPairs (λ (one other : ℕ). one ≢ other) roster.clients
  pub nothing : (client : ℕ) → client < CLIENTS → HasNumbers roster.conits client no_numbers tally
  pub free : (client : ℕ) → client < CLIENTS → (Contains roster.clients client → ⊥) → HasPlacesOf roster.conits client no_numbers tally

-- The sessions of a node that has ended, and the clients without one: of each session's client the part has as many
-- calls as the session has seen, if it isn't in doubt, of others none; and the entries are those made for all sessions,
-- and those that restarts drew. No session marked more faults than the journal counted, short of the greatest number,
-- and where none marked a fault restarts drew nothing; where one marked a halt, the journal counted a fault, or doesn't
-- tell its pieces.
pub record AreAllSessions (clients : List ℕ) (sessions : List SessionView) (part : List Entry) (tells : Bool) (count : ℕ) : Type 0 where
  pub calls : All (λ session. session.doubt ≡ false → calls_in part session.client ≡ length (own_calls session)) sessions
  pub others : (client : ℕ) → client < CLIENTS → (Contains clients client → ⊥) → calls_in part client ≡ 0
  pub kept : ℕ
  pub made : length part ≡ sum_by (λ session. session.made) sessions + kept
  pub drawn : sum_by (λ session. session.faults) sessions ≡ 0 → kept ≡ 0
  pub faults : count < 2 ^ 64 - 1 → sum_by (λ session. session.faults) sessions ≤ count
  pub halts : sum_by (λ session. session.halts) sessions ≢ 0 → IsTrue tells → count ≢ 0

-- why a client got no session: it has one
abbrev pub IsSessionFaultOf : List ℕ → ℕ → SessionFault → Type 0
IsSessionFaultOf clients client (fault.Taken who) = (who ≡ client) × Contains clients client
IsSessionFaultOf clients client fault.NoMemory = Contains clients client → ⊥
