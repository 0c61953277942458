-- What a worker keeps as its session goes on.
use Rattle.std.proofs.Common.{◌≡◌, ℕ, ◌<◌, List, sym, subst, subst₂, ◌∙◌}
use Rattle.tact_base.specs.Setup.{IsSetup}
use Rattle.run_history.specs.Seats.{DeskView}
use Rattle.run_model.specs.declared.call.Reply.{Reply}
use Rattle.run_model.specs.declared.call.Request.{Request}
use Rattle.run_model.specs.declared.entry.Entry.{Entry}
use Rattle.replica_lock.specs.Allowances.{AllowanceView}
use Rattle.replica_lock.specs.Sessions.{IsAtNode, SessionView, own_calls}
use Rattle.steady_node.specs.Answered.{IsAnswered}
use Rattle.steady_node.specs.Going.{GoesOn}
use Rattle.steady_node.proofs.Goings.{IsAtNode-on, client-on}
use Rattle.run_work.specs.Holding.{Holds, IsQuiet}
use Rattle.run_work.specs.Serving.{Owes}
use Rattle.run_work.specs.Trying.{tried_by}
use Rattle.run_work.specs.Working.{IsReady, IsWorker, WorkerView}
use Rattle.run_work.proofs.GoingOn.{IsSessionOf-quiet}
use Rattle.run_work.proofs.Heeding.{Owes-answered}

module _ (desk : DeskView) (worker : WorkerView) (kept : IsWorker desk worker) (most : ℕ) (after : SessionView) (on : GoesOn most worker.session after) where
  -- what is owed after a worker's call
  pub Owes-worker : (asked : Request) (given : Reply)
      → IsAnswered worker.node worker.session after asked given
      → Owes worker.node.desk.setup (tried_by given) worker.session after
  Owes-worker asked given answered =
      Owes-answered worker.node worker.session after
      (subst (λ (d : DeskView). IsSetup d.setup) (sym kept.desk_is) kept.sound)
      (subst₂ (λ (replica : ℕ) (d : DeskView). replica < d.setup.replicas) (sym kept.at.replica) (sym kept.desk_is) kept.among)
      most on asked given answered

  -- with the session gone on, and with what the client then holds
  pub IsWorker-on : (allowances : List AllowanceView) → IsWorker desk (record worker { session = after; allowances = allowances })
  IsWorker-on allowances = record {
    sound = kept.sound;
    desk_is = kept.desk_is;
    among = kept.among;
    replica = kept.replica;
    items = kept.items;
    at = IsAtNode-on worker.node most worker.session after on kept.at;
    number = client-on most worker.session after on ∙ kept.number;
  }

-- it is ready after a call that was answered, with what the client then holds
pub IsReady-answered : (worker : WorkerView) (after : SessionView) (allowances : List AllowanceView) (asked : Request) (given : Reply)
    → IsAtNode worker.node after
    → IsAnswered worker.node worker.session after asked given
    → Holds worker.node (own_calls after) allowances
    → IsReady (record worker { session = after; allowances = allowances })
IsReady-answered worker after allowances asked given at answered holds = record {
  session = record { at = at; certain = answered.certain };
  held = holds;
}

-- it stays ready where no call was made
pub IsReady-quiet : (worker after : WorkerView) (most : ℕ)
    → (let moved : WorkerView = record worker { session = after.session } in after ≡ moved)
    → IsQuiet most worker.session after.session
    → IsReady worker
    → IsReady after
IsReady-quiet worker after most same quiet ready =
    subst IsReady (sym same)
    (record {
      session = IsSessionOf-quiet worker.node most worker.session after.session quiet ready.session;
      held = subst (λ (calls : List Entry). Holds worker.node calls worker.allowances) (sym quiet.calls) ready.held;
    })
