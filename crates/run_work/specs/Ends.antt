-- What ends the nodes of a run, and what the sessions of its clients had seen when these came back.
use Rattle.std.specs.Prelude.{◌≡◌, ◌≢◌, ◌⊎◌, ℕ, ◌+◌, ◌*◌, ◌<◌, ◌≤◌, ◌==◌, ◌&&◌, ◌||◌, Bool, true, false, not, nat_lt, List, [], ◌∷◌, ◌++◌, All, AllPairs, Contains, filter, fold, length, map, sum_by, get_or, if◌then◌else◌, IfSome, Option, Some, None}
use Rattle.std.specs.List.{AllZip}
use Rattle.tact_base.specs.Setup.{Setup}
use Rattle.tact_base.specs.declared.limits.TheConstants.{CLIENTS}
use Rattle.run_model.specs.Histories.{calls_in, calls_of, part_of}
use Rattle.run_model.specs.declared.entry.Entry.{Entry}
use Rattle.run_history.specs.Seats.{ClerkView, DeskView, NoteView}
use Rattle.run_history.specs.Ticks.{entries_of}
use Rattle.replica_lock.specs.Rosters.{IsRosterOf}
use Rattle.replica_lock.specs.Sessions.{IsAtNode, NodeView, SessionView, own_calls}
use Rattle.steady_node.specs.Going.{IsUnmarked}
use Rattle.steady_node.specs.declared.ending.Ending.{Ending}
use Rattle.work_load.specs.Attempts.{Attempts, Begun, is_call}
use Rattle.work_load.specs.Clients.{is_of}
use Rattle.work_load.specs.declared.plan.Client.{Client}
use Rattle.postbox.specs.Posts.{PostboxView}
use Rattle.atomic_table.specs.Seated.{TableId}
use Rattle.run_work.specs.Serving.{IsClientServed}
use Rattle.run_work.specs.Sites.{SitesView}
use Rattle.run_work.specs.Stops.{IsFailed, IsStopBy}
use Rattle.run_work.specs.Working.{WorkerView}
use Rattle.run_work.specs.declared.closing.Drawn.{Drawn}
use Rattle.run_work.specs.declared.leaving.Stop.{Stop}
use Rattle.run_work.specs.declared.seat.End.{End}

-- the numbers of the clients of a replica, in order
abbrev pub clients_at : List Client → ℕ → List ℕ
clients_at clients replica = map (λ client. client.client) (filter (λ client. client.replica == replica) clients)

-- The calls of a client of a replica that the client's note has seen, of notes by client; none where there is no such
-- client.
abbrev pub noted_calls : List Client → List NoteView → ℕ → ℕ → List Entry
noted_calls (client ∷ clients) (note ∷ notes) replica number =
    if is_of replica number client then calls_of note.seen replica number else noted_calls clients notes replica number
noted_calls [] notes replica number = []
noted_calls (client ∷ clients) [] replica number = []

-- What ends a node: its roster, in which the seated clients of the replica are, and the sessions of those that came back,
-- which have seen the calls that the clients' notes have.
pub record IsEnd (seated back : List Client) (notes : List NoteView) (replica : ℕ) (node : NodeView) (end : End) : Type 0 where
  pub roster : IsRosterOf node end.roster
  pub seated_are : end.roster.clients ≡ clients_at seated replica
  pub sessions : All (IsAtNode node) end.sessions.items
  pub back_are : map (λ (session : SessionView). session.client) end.sessions.items ≡ clients_at back replica
  pub calls : All (λ (session : SessionView). own_calls session ≡ noted_calls back notes replica session.client) end.sessions.items

-- there is such an end of each node
pub record AreEnds (seated back : List Client) (notes : List NoteView) (sites : SitesView) (ends : List End) : Type 0 where
  pub count : length ends ≡ length sites.nodes
  pub each : (replica : ℕ) (no_node : NodeView) (no_end : End) → replica < length ends
      → IsEnd seated back notes replica (get_or sites.nodes replica no_node) (get_or ends replica no_end)

-- what ends a node that nobody has a session of; and the roster of each node is in its end
pub record IsNewEnd (node : NodeView) (end : End) : Type 0 where
  pub roster : IsRosterOf node end.roster
  pub clients : end.roster.clients ≡ []
  pub sessions : end.sessions.items ≡ []

pub record HaveRosters (nodes : List NodeView) (ends : List End) : Type 0 where
  pub count : length ends ≡ length nodes
  pub each : (replica : ℕ) (no_node : NodeView) (no_end : End) → replica < length ends
      → IsRosterOf (get_or nodes replica no_node) (get_or ends replica no_end).roster

-- a session came back to the end of a node
pub record HasCome (session : SessionView) (at : ℕ) (before after : List End) : Type 0 where
  pub count : length after ≡ length before
  pub others : (replica : ℕ) (none : End) → replica ≢ at → get_or after replica none ≡ get_or before replica none
  pub roster : (none : End) → (get_or after at none).roster ≡ (get_or before at none).roster
  pub sessions : (none : End) → (get_or after at none).sessions.items ≡ (get_or before at none).sessions.items ++ session ∷ []

-- What ends a node when all sessions are back: those of all clients of its roster, among which are the clients of the
-- replica. They have seen the calls that the clients' notes have.
pub record IsWhole (clients : List Client) (notes : List NoteView) (replica : ℕ) (node : NodeView) (end : End) : Type 0 where
  pub roster : IsRosterOf node end.roster
  pub sessions : All (IsAtNode node) end.sessions.items
  pub whole : map (λ (session : SessionView). session.client) end.sessions.items ≡ end.roster.clients
  pub among : (number : ℕ) → Contains (clients_at clients replica) number → Contains end.roster.clients number
  pub calls : All (λ (session : SessionView). own_calls session ≡ noted_calls clients notes replica session.client) end.sessions.items

pub record AreWhole (clients : List Client) (notes : List NoteView) (nodes : List NodeView) (ends : List End) : Type 0 where
  pub count : length ends ≡ length nodes
  pub each : (replica : ℕ) (no_node : NodeView) (no_end : End) → replica < length ends
      → IsWhole clients notes replica (get_or nodes replica no_node) (get_or ends replica no_end)

-- the key of each inbox
abbrev pub AreKeys : List PostboxView → List TableId → Type 0
AreKeys inboxes keys = keys ≡ map (λ (inbox : PostboxView). inbox.cell) inboxes

-- the sessions of ends are unmarked; none has marked that its journal failed; none is in doubt
abbrev pub IsUnmarkedEnd : End → Type 0
IsUnmarkedEnd end = All IsUnmarked end.sessions.items

abbrev pub AreUnmarked : List End → Type 0
AreUnmarked ends = All IsUnmarkedEnd ends

abbrev pub IsFaultlessEnd : End → Type 0
IsFaultlessEnd end = All (λ (session : SessionView). session.faults ≡ 0) end.sessions.items

abbrev pub AreFaultless : List End → Type 0
AreFaultless ends = All IsFaultlessEnd ends

abbrev pub AreCertain : List End → Type 0
AreCertain ends = All (λ (end : End). All (λ (session : SessionView). session.doubt ≡ false) end.sessions.items) ends

-- A stop, by what its note has seen: where a journal failed, a session has marked that.
pub record IsStop (tells : Bool) (desk : DeskView) (Faultless : Type 0) (stop : Stop) : Type 0 where
  pub table : stop.note.table ≡ desk.table
  pub cause : IsStopBy tells stop.ending.fault (part_of stop.note.seen stop.replica)
  pub failed : IsFailed stop.ending → Faultless → ⊥

abbrev pub IsKeptStop : Bool → DeskView → Type 0 → Stop → Type 0
IsKeptStop tells desk Faultless stop = IsStop tells desk Faultless stop × (stop.ending.lost ≡ false)

-- no call is lost where a run stopped, if it did
abbrev pub LosesNone : Option Stop → Type 0
LosesNone stop = IfSome stop (λ stop. stop.ending.lost ≡ false)

-- what a worker's session has seen, and where its worker stopped
abbrev pub note_of : WorkerView → NoteView
note_of worker = record { table = worker.node.desk.table; seen = worker.session.seen }

abbrev pub stop_of : WorkerView → Ending → Stop
stop_of worker ending = record { replica = worker.client.replica; client = worker.client.client; ending = ending; note = note_of worker }

-- Which of two stops comes first: one whose call is lost, and of two such, or of two others, the first by replica and then
-- by client; the other, where they are of one client.
abbrev pub is_lower : Stop → Stop → Bool
is_lower one other = nat_lt one.replica other.replica || (one.replica == other.replica && nat_lt one.client other.client)

abbrev pub is_before : Stop → Stop → Bool
is_before one other =
    (one.ending.lost && not other.ending.lost) || ((one.ending.lost || not other.ending.lost) && is_lower one other)

abbrev pub first_of : Option Stop → Stop → Stop
first_of None other = other
first_of (Some one) other = if is_before one other then one else other

-- where a run stops first once one more worker has ended, and once all have
abbrev pub stop_with : WorkerView → Option Ending → Option Stop → Option Stop
stop_with worker None before = before
stop_with worker (Some ending) before = Some (first_of before (stop_of worker ending))

abbrev pub first_stop : List WorkerView → Option Stop
first_stop workers = fold (λ before (worker : WorkerView). stop_with worker worker.end before) None workers

-- what clients' notes have seen of their calls, if no worker stopped and if one did: all items done, or begun, if no call is
-- lost
abbrev pub HasNoted : (List Entry → Type 0) → Client → NoteView → Type 0
HasNoted Made client note = Made (calls_of note.seen client.replica client.client)

abbrev pub HaveEnded : ℕ → List Client → List NoteView → Option Stop → Type 0
HaveEnded tries clients notes None = AllZip (λ (client : Client). HasNoted (Attempts tries client.items) client) clients notes
HaveEnded tries clients notes (Some stop) = stop.ending.lost ≡ false → AllZip (λ (client : Client). HasNoted (Begun tries client.items) client) clients notes

-- and of each client, by what its note has seen, that it was served, if no worker stopped
abbrev pub HaveServed : Setup → List Client → List NoteView → Option Stop → Type 0
HaveServed setup clients notes stop = stop ≡ None → AllZip (λ (client : Client) (note : NoteView). IsClientServed setup client note.seen) clients notes

-- What the nodes leave: their clerks, and what these drew.
pub record AreDrawn (desk : DeskView) (drawn : Drawn) : Type 0 where
  pub count : length drawn.clerks.items ≡ desk.setup.replicas
  pub table : (replica : ℕ) (none : ClerkView) → replica < length drawn.clerks.items → (get_or drawn.clerks.items replica none).table ≡ desk.table
  pub replica_is : (replica : ℕ) (none : ClerkView) → replica < length drawn.clerks.items → (get_or drawn.clerks.items replica none).replica ≡ replica
  pub parts : map (λ part. part.items) drawn.parts.items ≡ map (λ (clerk : ClerkView). clerk.pairs) drawn.clerks.items

-- of each client that has the calls that the client's note has seen
abbrev pub HaveDrawn : List Client → List NoteView → Drawn → Type 0
HaveDrawn clients notes drawn = (replica number : ℕ) (none : ClerkView) → replica < length drawn.clerks.items → number < CLIENTS
    → calls_in (entries_of (get_or drawn.clerks.items replica none).pairs) number ≡ length (noted_calls clients notes replica number)

-- the clients of an end's sessions, the entries that were made for these, and the calls of theirs that they have seen
abbrev pub clients_by : End → List ℕ
clients_by end = map (λ (session : SessionView). session.client) end.sessions.items

abbrev pub made_by : End → ℕ
made_by end = sum_by (λ (session : SessionView). session.made) end.sessions.items

abbrev pub calls_by : End → ℕ
calls_by end = sum_by (λ (session : SessionView). length (own_calls session)) end.sessions.items

-- how many items the clients of a replica have
abbrev pub items_of : List Client → ℕ → ℕ
items_of clients replica = sum_by (λ (client : Client). length client.items) (filter (λ (client : Client). client.replica == replica) clients)

-- at most 24 entries were made for an end's sessions of each item of the replica's clients and of each call, and so many
-- more; and so at each replica, while all sessions are unmarked
abbrev pub IsBusy : ℕ → ℕ → End → Type 0
IsBusy items extra end = made_by end ≤ 24 * (items + calls_by end) + extra

abbrev pub AreBusy : List Client → ℕ → List End → Type 0
AreBusy clients extra ends = AreUnmarked ends → (replica : ℕ) (none : End) → replica < length ends → IsBusy (items_of clients replica) extra (get_or ends replica none)

-- no two sessions of an end are of one client
abbrev pub AreApart : List End → Type 0
AreApart ends = (replica : ℕ) (none : End) → replica < length ends → AllPairs (λ (one other : ℕ). one ≢ other) (clients_by (get_or ends replica none))

-- so a clerk drew at most 24 entries of each item and of each call that it drew, and so many more
abbrev pub IsFew : ℕ → ℕ → List Entry → Type 0
IsFew items extra part = length part ≤ 24 * (items + length (filter (λ (entry : Entry). is_call entry.act) part)) + extra

abbrev pub AreFew : List Client → ℕ → List ClerkView → Type 0
AreFew clients extra clerks = (replica : ℕ) (none : ClerkView) → replica < length clerks
    → IsFew (items_of clients replica) extra (entries_of (get_or clerks replica none).pairs)
