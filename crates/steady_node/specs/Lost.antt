-- When a call is lost.
use Rattle.std.specs.Prelude.{◌≡◌, ◌≢◌, ◌⊎◌, ℕ, true, Option, option_map}
use Rattle.run_model.specs.declared.call.Reply.{Reply}
use Rattle.run_model.specs.declared.call.Reply.TheVariants as reply
use Rattle.run_model.specs.declared.call.Request.{Request}
use Rattle.run_model.specs.declared.call.Request.TheVariants as request
use Rattle.locked_replica.specs.Asking.{conit_of, given_up, granted_to}
use Rattle.replica_lock.specs.Allowances.{AllowanceView, allowance_of}
use Rattle.replica_lock.specs.Sessions.{NodeView, SessionView}
use Rattle.replica_lock.specs.declared.resuming.Resumed.{Resumed}
use Rattle.replica_lock.specs.declared.resuming.Resumed.TheVariants as resumed
use Rattle.steady_node.specs.Settled.{HasComeBack}

-- how a held write is answered, and a release; any answer to another call will do
abbrev pub IsDone : Reply → Type 0
IsDone given = (index : ℕ) × (stamp : ℕ) × (given ≡ reply.Done index stamp)

abbrev pub IsReleased : Reply → Type 0
IsReleased given = given ≡ reply.Released

abbrev pub IsAnswerTo : Request → Reply → Type 0
IsAnswerTo (request.Held weight op) given = IsDone given
IsAnswerTo (request.Release conit amount) given = IsReleased given
IsAnswerTo other given = Unit {0}

-- an amount that a request moves, as an allowance on its conit
abbrev pub moved_by : NodeView → Request → Option ℕ → Option AllowanceView
moved_by node asked amount = option_map (allowance_of node (conit_of asked)) amount

-- What is due to come back of a call: it stands, with just this request, so answered, and with what it was granted; or it
-- wasn't made, and what it had given up comes back.
abbrev pub IsDueBack : NodeView → Request → Resumed → Type 0
IsDueBack node asked (resumed.Stands same given back) =
    (same ≡ asked) × IsAnswerTo asked given × (back ≡ moved_by node asked (granted_to asked given))
IsDueBack node asked (resumed.Dropped back) = back ≡ moved_by node asked (given_up asked)
IsDueBack node asked resumed.Nothing = ⊥

-- something else came back of a call
pub record HasOtherBack (node : NodeView) (asked : Request) (before after : SessionView) : Type 0 where
  pub told : Resumed
  pub back : HasComeBack node.desk.setup before after told
  pub other : IsDueBack node asked told → ⊥

-- A call is lost: its session was told that the journal failed, and is in doubt still, or something else came back than what
-- is due.
pub record IsCallLost (node : NodeView) (asked : Request) (before after : SessionView) : Type 0 where
  pub marked : after.faults ≢ 0
  pub cause : (after.doubt ≡ true) ⊎ HasOtherBack node asked before after
