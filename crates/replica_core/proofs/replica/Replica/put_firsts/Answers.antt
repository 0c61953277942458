use Rattle.std.proofs.Common.{ap, ◌∙◌, arith}
use Rattle.std.proofs.lemmas.Result.{on_ok_weaker}
use Rattle.replica_core.specs.Sending.{first_told}
use Rattle.replica_core.specs.States.{ReplicaState}
use Rattle.replica_core.proofs.FilledRows.{filled_front}
use Rattle.replica_core.proofs.replica.Replica.put_firsts.Goals as goal

pub returns : goal.returns
returns c =
    let core = c.args.self.now.core in
    let replicas = ap (λ (s : ReplicaState). s.core.setup.replicas) c.self.view_is in
    on_ok_weaker c.replace.result
    (λ put. put
    ∙ filled_front (first_told core c.args.to c.args.given.now) c.loop-origin.row c.replicas.result core.setup.replicas (c.replicas.ensures.count ∙ replicas)
    (omega (arith, c.replicas.ensures.high, c.replicas.array_long))
    (λ at below. c.loop-origin.invariant.filled at (omega (arith, below, c.loop-origin-test.false, c.replicas-origin-end.ensures.count, replicas))))
    c.replace.ensures.ok
