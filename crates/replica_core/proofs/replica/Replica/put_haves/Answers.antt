use Rattle.std.proofs.Common.{ap, ◌∙◌, arith}
use Rattle.std.proofs.lemmas.Result.{on_ok_weaker}
use Rattle.std.specs.Prelude.{length}
use Rattle.replica_core.specs.States.{ReplicaState, log_at}
use Rattle.replica_core.proofs.FilledRows.{filled_front}
use Rattle.replica_core.proofs.replica.Replica.put_haves.Goals as goal

pub returns : goal.returns
returns c =
    let core = c.args.self.now.core in
    let replicas = ap (λ (s : ReplicaState). s.core.setup.replicas) c.self.view_is in
    on_ok_weaker c.replace.result
    (λ put. put
    ∙ filled_front (λ origin. length (log_at core origin)) c.loop-origin.row c.replicas.result core.setup.replicas (c.replicas.ensures.count ∙ replicas)
    (omega (arith, c.replicas.ensures.high, c.replicas.array_long))
    (λ at below. c.loop-origin.invariant.filled at (omega (arith, below, c.loop-origin-test.false, c.replicas-origin-end.ensures.count, replicas))))
    c.replace.ensures.ok
