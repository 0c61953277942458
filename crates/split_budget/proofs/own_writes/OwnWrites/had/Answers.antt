use Rattle.std.proofs.Common.{◌≡◌, ℕ, ◌-◌, length, get_or, ap, ◌∙◌, sym, arith}
use Rattle.std.proofs.lemmas.List.{get_or_read}
use Rattle.split_budget.specs.OwnWrites.{OwnState}
use Rattle.split_budget.proofs.OwnLemmas.{least_below-peer, least_below-own}
use Rattle.split_budget.proofs.own_writes.OwnWrites.had.Goals as goal
use Rattle.split_budget.proofs.own_writes.OwnWrites.had.Goals.{then-peer-self, else-peer-self}

pub loop-peer-preserved : goal.loop-peer-preserved
loop-peer-preserved c =
    let s = c.args.self.now in
    let peer = c.loop-peer.peer in
    let number : ℕ → ℕ = λ peer. get_or s.known peer 0 - s.given_up in
    let replica : c.self.inside.replica ≡ s.replica = ap (λ (o : OwnState). o.replica) c.self.view_is in
    let given_up : c.self.inside.given_up ≡ s.given_up = ap (λ (o : OwnState). o.given_up) c.self.view_is in
    let known : c.self.inside.known.items ≡ s.known = ap (λ (o : OwnState). o.known) c.self.view_is in
    elim c.if-peer-self.branch [
      | then-peer-self w ↦
          let read = get_or_read c.self.inside.known.items peer w.index.result.now (omega (arith, c.loop-peer-test.true, c.len-peer-end.ensures)) w.index.ensures 0
          ∙ ap (λ list. get_or list peer 0) known in
          omega (
            arith,
            w.count-is,
            w.min-count.ensures,
            c.loop-peer.invariant,
            read,
            given_up,
            least_below-peer (length s.weights) s.replica number peer
                (λ same. w.if-peer-self.true (same ∙ sym replica)),
          )
      | else-peer-self w ↦
          omega (arith, w.count-is, c.loop-peer.invariant, least_below-own (length s.weights) s.replica number peer (w.if-peer-self.false ∙ replica))
    ]
