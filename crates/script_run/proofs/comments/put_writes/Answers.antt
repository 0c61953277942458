use Rattle.std.proofs.Common.{ap, length}
use Rattle.std.proofs.lemmas.Result.{on_ok_weaker}
use Rattle.script_run.proofs.CommentLemmas.{grown_by_writes}
use Rattle.script_run.proofs.comments.put_writes.Goals as goal

pub returns-clause-ok : goal.returns-clause-ok
returns-clause-ok c =
    let kept = c.args.view.now.core.writes in
    on_ok_weaker c.put_row-2.result
    (grown_by_writes kept.point kept.seen _ _ _ _ _ _ _ _ c.committed_count.ensures.count c.last_committed.ensures.last (ap length c.tentative.ensures)
    c.in_ok-put_row.ensures.ok c.in_ok-put_token.ensures.ok c.in_ok-put_last.ensures.ok)
    c.put_row-2.ensures.ok
