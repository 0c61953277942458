-- Reads, from what a replica keeps: what a need waits for, and the reply.
use Rattle.std.specs.Prelude.{ℕ, ◌==◌, List, map, unwrap_or, Option, Some, None, if◌then◌else◌}
use Rattle.std.specs.Option.{option_map}
use Rattle.tact_base.specs.Admission.{hindrance, wanted_moment}
use Rattle.tact_base.specs.Covers.{slowest, first_late}
use Rattle.tact_base.specs.Images.{image_of, ops_of}
use Rattle.tact_base.specs.Sums.{net_sum, order_sum}
use Rattle.tact_base.specs.WriteOrder.{tentative_past}
use Rattle.tact_base.specs.declared.conit_list.Need.{Need}
use Rattle.access_gate.specs.declared.gate.Facts.{Facts}
use Rattle.access_gate.specs.declared.gate.Verdict.{Verdict}
use Rattle.access_gate.specs.declared.gate.Verdict.TheVariants as verdict
use Rattle.run_model.specs.Replies.{first_some, waiting_by}
use Rattle.run_model.specs.declared.call.Reply.{Reply}
use Rattle.run_model.specs.declared.call.Reply.TheVariants as reply
use Rattle.split_budget.specs.Budgets.{out}
use Rattle.replica_core.specs.States.{Core, origins_of}

-- what a holder has of its bound on a conit, 0 for itself
abbrev pub out_at : Core → ℕ → ℕ → ℕ
out_at core conit holder = if holder == core.replica then 0 else out core.budgets holder conit

-- what it knows of the conit of a need, for a read at a moment
abbrev pub facts_of : Core → ℕ → Need → Facts
facts_of core moment need = record {
  outs = map (out_at core need.conit) (origins_of core);
  tentative = order_sum (tentative_past core.writes.point core.writes.seen) need.conit;
  slowest = slowest core.writes.covers;
  late = first_late core.writes.covers core.replica (wanted_moment moment need);
}

-- what a need waits for
abbrev pub need_refusal : Core → ℕ → Need → Option Reply
need_refusal core moment need =
    let facts = facts_of core moment need in
    option_map (waiting_by need moment) (hindrance need facts.outs facts.tentative facts.slowest facts.late)

-- the reply to a read: what the first need waits for, or the values
abbrev pub read_reply : Core → ℕ → ℕ → List Need → Reply
read_reply core moment key needs =
    unwrap_or (first_some (need_refusal core moment) needs)
    (reply.Value (image_of (ops_of core.writes.seen) key) (map (λ need. net_sum core.writes.seen need.conit) needs))

-- a verdict as a reply, where it isn't to admit
abbrev pub waiting_as : Verdict → Option Reply
waiting_as verdict.Admit = None
waiting_as (verdict.WaitLent conit holder out total num) = Some (reply.WaitLent conit holder out total num)
waiting_as (verdict.WaitOrder conit replica tentative order) = Some (reply.WaitOrder conit replica tentative order)
waiting_as (verdict.WaitStale conit replica moment wanted) = Some (reply.WaitStale conit replica moment wanted)
