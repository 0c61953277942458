use Rattle.std.proofs.Common.{codes}
use Rattle.std.proofs.lemmas.Result.{IfOk-equal}
use Rattle.run_model.proofs.TextLemmas.{line_from_parts}
use Rattle.run_check.specs.VerdictText.{call_counts, other_counts}
use Rattle.run_check.proofs.printing.print_run.Goals as goal

pub returns-clause-ok : goal.returns-clause-ok
returns-clause-ok c =
    let summary = c.args.summary.now in
    IfOk-equal c.push.result c.push.new.self _ _ c.push.ensures.ok
    (line_from_parts (codes "run") (call_counts summary) (other_counts summary) _ _ _ _
    c.in_ok-append.ensures.ok c.in_ok-print_call_counts.ensures.ok c.in_ok-print_other_counts.ensures.ok)
