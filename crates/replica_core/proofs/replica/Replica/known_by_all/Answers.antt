use Rattle.std.proofs.Common.{◌≡◌, ℕ, length, ap, ◌∙◌, sym, arith}
use Rattle.replica_core.specs.States.{ReplicaState, log_at, known_at}
use Rattle.replica_core.proofs.TrimmedReads.{least_below-one, least_below-own, least_below-origin}
use Rattle.replica_core.proofs.replica.Replica.known_by_all.Goals.{then-peer-self+then-peer-origin, else-peer-self}
use Rattle.replica_core.proofs.replica.Replica.known_by_all.Goals.{else-peer-self-via-then-peer-self+else-peer-origin}
use Rattle.replica_core.proofs.replica.Replica.known_by_all.Goals.{else-peer-self-via-else-peer-self}
use Rattle.replica_core.proofs.replica.Replica.known_by_all.Goals as goal

pub loop-peer-preserved : goal.loop-peer-preserved
loop-peer-preserved c =
    let core = c.args.self.now.core in
    let origin = c.args.origin in
    let peer = c.loop-peer.peer in
    let have = length (log_at core origin) in
    let number : ℕ → ℕ = λ peer. known_at core peer origin in
    let replica : c.self.inside.replica ≡ core.replica = ap (λ (s : ReplicaState). s.core.replica) c.self.view_is in
    elim c.if-peer-self.branch [
      | then-peer-self+then-peer-origin w ↦
          omega (
            arith,
            w.least-is,
            w.min-least.ensures,
            w.known.ensures,
            c.loop-peer.invariant,
            least_below-one core.replica origin have number peer
                (λ same. w.if-peer-self.true (same ∙ sym replica)) w.if-peer-origin.true,
          )
      | else-peer-self w ↦ elim w.else-peer-self.branch [
        | else-peer-self-via-then-peer-self+else-peer-origin v ↦
            omega (arith, w.least-is, c.loop-peer.invariant, least_below-origin core.replica origin have number peer (λ same. v.if-peer-self.true (same ∙ sym replica)) v.if-peer-origin.false)
        | else-peer-self-via-else-peer-self v ↦ omega (arith, w.least-is, c.loop-peer.invariant, least_below-own core.replica origin have number peer (v.if-peer-self.false ∙ replica))
      ]
    ]
