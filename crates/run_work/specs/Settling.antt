-- The replicas of a run while it is settled.
use Rattle.std.specs.Prelude.{◌≡◌, ◌≢◌, ◌⊎◌, ℕ, ◌+◌, ◌*◌, ◌<◌, ◌≤◌, List, [], ◌∷◌, ◌++◌, All, length, map, get_or}
use Rattle.std.specs.List.{AllZip}
use Rattle.tact_base.specs.Setup.{IsSetup}
use Rattle.run_model.specs.Histories.{IsPrefix}
use Rattle.run_model.specs.declared.entry.Entry.{Entry}
use Rattle.run_history.specs.Seats.{DeskView, NoteView}
use Rattle.link_faults.specs.Inboxes.{InboxState}
use Rattle.locked_replica.specs.Parcels.{ParcelView}
use Rattle.replica_lock.specs.Rosters.{IsRosterOf}
use Rattle.replica_lock.specs.Sessions.{IsSessionOf, NodeView, SessionView, own_calls}
use Rattle.steady_node.specs.Going.{IsUnmarked}
use Rattle.work_load.specs.declared.plan.Client.{Client}
use Rattle.run_work.specs.Ends.{AreCertain, AreFaultless, AreUnmarked, AreWhole, clients_by, made_by}
use Rattle.run_work.specs.Served.{IsSending, IsTakenIn}
use Rattle.run_work.specs.Sites.{AreInboxes, IsNodeAt}
use Rattle.run_work.specs.declared.seat.End.{End}

-- the desk of a run, and by number the nodes of its replicas, what ends these, and the inboxes
pub record SettlingView : Type 0 where
  pub desk : DeskView
  pub nodes : List NodeView
  pub ends : List End
  pub inboxes : List (InboxState ParcelView)

-- what ends a node, with sessions of it
pub record IsEndOf (node : NodeView) (end : End) : Type 0 where
  pub roster : IsRosterOf node end.roster
  pub sessions : All (IsSessionOf node) end.sessions.items

-- a session of client 0 without a call, where there was none
pub record HasOneNew (node : NodeView) (before after : End) : Type 0 where
  pub none : before.sessions.items ≡ []
  pub session : SessionView
  pub one : after.sessions.items ≡ session ∷ []
  pub of : IsSessionOf node session
  pub client : session.client ≡ 0
  pub made : session.made ≡ 0
  pub unmarked : IsUnmarked session
  pub calls : own_calls session ≡ []
  pub roster : after.roster ≡ record before.roster { clients = before.roster.clients ++ 0 ∷ [] }

abbrev pub HasSeated : NodeView → End → End → Type 0
HasSeated node before after = ((after ≡ before) × (0 < length before.sessions.items)) ⊎ HasOneNew node before after

-- there is all of it for each replica
pub record IsSettling (settling : SettlingView) : Type 0 where
  pub sound : IsSetup settling.desk.setup
  pub nodes_are : length settling.nodes ≡ settling.desk.setup.replicas
  pub ends_are : length settling.ends ≡ length settling.nodes
  pub inboxes_are : length settling.inboxes ≡ length settling.nodes
  pub node : (replica : ℕ) (none : NodeView) → replica < length settling.nodes → IsNodeAt settling.desk replica (get_or settling.nodes replica none)
  pub end : (replica : ℕ) (no_node : NodeView) (no_end : End) → replica < length settling.nodes
      → IsEndOf (get_or settling.nodes replica no_node) (get_or settling.ends replica no_end)
  pub inbox : AreInboxes settling.desk settling.inboxes

-- each replica has a session
abbrev pub AreReady : SettlingView → Type 0
AreReady settling = (replica : ℕ) (none : End) → replica < length settling.nodes → 0 < length (get_or settling.ends replica none).sessions.items

-- a replica has a session, where it had none one of client 0
pub record IsSeatedAt (replica : ℕ) (before after : SettlingView) : Type 0 where
  pub desk : after.desk ≡ before.desk
  pub nodes : after.nodes ≡ before.nodes
  pub inboxes : after.inboxes ≡ before.inboxes
  pub count : length after.ends ≡ length before.ends
  pub others : (other : ℕ) (none : End) → other ≢ replica → get_or after.ends other none ≡ get_or before.ends other none
  pub seated : (no_node : NodeView) (none : End) → HasSeated (get_or before.nodes replica no_node) (get_or before.ends replica none) (get_or after.ends replica none)

-- a session has gone on without a call, and its marks didn't fall
pub record HasStayed (before after : SessionView) : Type 0 where
  pub value : after ≡ record before { made = after.made; faults = after.faults; halts = after.halts; seen = after.seen }
  pub told : IsPrefix before.seen after.seen
  pub calls : own_calls after ≡ own_calls before
  pub faults : before.faults ≤ after.faults
  pub halts : before.halts ≤ after.halts

-- so have all sessions of a replica
pub record HasGoneOn (before after : End) : Type 0 where
  pub roster : after.roster ≡ before.roster
  pub sessions : AllZip HasStayed before.sessions.items after.sessions.items

-- and of all replicas, whose links have the same plans
pub record HaveGoneOn (before after : SettlingView) : Type 0 where
  pub desk : after.desk ≡ before.desk
  pub nodes : after.nodes ≡ before.nodes
  pub plans : map (λ inbox. inbox.plan) after.inboxes ≡ map (λ inbox. inbox.plan) before.inboxes
  pub ends : AllZip HasGoneOn before.ends after.ends

-- an end has the clients that it had, or client 0 where it had none
abbrev pub HasSameClients : End → End → Type 0
HasSameClients before after = (clients_by after ≡ clients_by before) ⊎ ((clients_by before ≡ []) × (clients_by after ≡ 0 ∷ []))

-- The replicas are settled: what their sessions have seen of their clients' calls is what it was, and their marks didn't
-- fall.
pub record AreSettled (before after : SettlingView) : Type 0 where
  pub desk : after.desk ≡ before.desk
  pub nodes : after.nodes ≡ before.nodes
  pub ends : (clients : List Client) (notes : List NoteView) → AreWhole clients notes before.nodes before.ends → AreWhole clients notes after.nodes after.ends
  pub count : length after.ends ≡ length before.ends
  pub unmarked : AreUnmarked after.ends → AreUnmarked before.ends
  pub faultless : AreFaultless after.ends → AreFaultless before.ends
  pub certain : AreCertain before.ends → AreCertain after.ends
  pub clients : (replica : ℕ) (none : End) → replica < length before.ends → HasSameClients (get_or before.ends replica none) (get_or after.ends replica none)

-- For each replica few more were made: at most 1,024 parcels waited for it, and in each round it sends to seven others at
-- most and takes two parcels of each at most.
abbrev pub HaveMadeFew : ℕ → SettlingView → SettlingView → Type 0
HaveMadeFew rounds before after =
    (replica : ℕ) (none : End) → replica < length before.ends
    → made_by (get_or after.ends replica none) ≤ made_by (get_or before.ends replica none) + (1024 + 21 * rounds)

-- after a front of a history, a replica sends to another, which takes the message where its link loses none
pub record HasMet (lose : ℕ) (front history : List Entry) (from to : ℕ) : Type 0 where
  pub sending : IsSending history from to
  pub behind : IsPrefix front sending.before
  pub taken : lose ≡ 0 → IsTakenIn sending.after to sending.message

-- so has each replica with each other
abbrev pub HaveMet : SettlingView → List Entry → List Entry → Type 0
HaveMet settling front history =
    (from to : ℕ) (none : InboxState ParcelView) → from < length settling.nodes → to < length settling.nodes → from ≢ to
    → HasMet (get_or settling.inboxes to none).plan.lose front history from to
