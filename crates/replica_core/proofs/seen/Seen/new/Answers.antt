use Rattle.std.proofs.Common.{refl, sym, ◌∙◌}
use Rattle.replica_core.proofs.SeenLemmas.{KeepsSeen-made}
use Rattle.replica_core.proofs.seen.Seen.new.Goals as goal

pub invariant_of-result : goal.invariant_of-result
invariant_of-result c =
    KeepsSeen-made _ _ _ _ _ c.new-3.ensures.writes c.new-3.ensures.dropped c.new-3.ensures.point refl c.new-4.ensures.committed c.new-4.ensures.base c.new-4.ensures.ops
    c.in_ok-sums.ensures.none c.in_ok-settled.ensures.none
    (c.in_ok-settled.ensures.conits ∙ sym c.in_ok-sums.ensures.conits)
