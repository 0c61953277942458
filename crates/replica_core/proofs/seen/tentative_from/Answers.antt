use Rattle.std.proofs.Common.{ℕ, ◌+◌, ◌-◌, ◌≡◌, List, length, drop, ap, ap₂, ◌∙◌, arith}
use Rattle.std.proofs.lemmas.List.{length-drop, take_all}
use Rattle.tact_base.specs.WriteOrder.{committed_to}
use Rattle.tact_base.specs.declared.write.Write.{Write}
use Rattle.replica_core.proofs.seen.tentative_from.Goals as goal

pub returns : goal.returns
returns c =
    let late = c.tentative.result.now in
    let front = c.args.place - (c.dropped.result + length c.committed.result.now) in
    let all = committed_to c.args.ordered.now.point c.args.ordered.now.writes in
    let held : c.dropped.result + length c.committed.result.now ≡ length all =
    omega (arith, c.dropped.ensures.dropped, c.dropped.ensures.within, ap length c.committed.ensures.committed, length-drop c.args.ordered.now.dropped all) in
    take_all _ (drop front late) (omega (arith, length-drop front late))
    ∙ ap₂ (λ (n : ℕ) (writes : List Write). drop (c.args.place - n) writes) held c.tentative.ensures.tentative
