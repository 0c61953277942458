use Rattle.std.proofs.Common.{sym, true≢false, ◌∙◌}
use Rattle.serde_json.specs.View.{view}
use Rattle.work_load.proofs.Texts.{workload_in-json, workload_in-not_json}
use Rattle.work_load.proofs.reader.parse_plan.Goals.{in-String-1, in-Array-1, in-Object-1, in-Null-1}
use Rattle.work_load.proofs.reader.parse_plan.Goals as goal

pub returns-in-Ok : goal.returns-in-Ok
returns-in-Ok c =
    rw (workload_in-json c.args.bytes.now (view c.in-Ok.value) c.in-Ok.ensures.ok.0 c.in-Ok.ensures.ok.1) c.plan_of.ensures

pub returns-in-Err-2 : goal.returns-in-Err-2
returns-in-Err-2 c =
    workload_in-not_json c.args.bytes.now (c.in-Err.ensures.err (λ memory. true≢false (sym (c.is_memory.ensures.1 memory) ∙ c.if-is_memory.false)))
