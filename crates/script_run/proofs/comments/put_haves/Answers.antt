use Rattle.std.proofs.Common.{length, decimal, append_assoc}
use Rattle.replica_core.specs.States.{log_at}
use Rattle.script_run.proofs.CommentLemmas.{spaced_map_more}
use Rattle.script_run.proofs.comments.put_haves.Goals as goal

pub loop-origin-preserved : goal.loop-origin-preserved
loop-origin-preserved c =
    let more = spaced_map_more (λ origin. decimal (length (log_at c.args.view.now.core origin))) c.loop-origin.origin in
    rw (more, ← append_assoc, ← c.loop-origin.invariant, ← c.have.ensures) c.in_ok-put_number.ensures.ok
