use Rattle.std.proofs.Common.{ℕ, replicate, ap, ◌∙◌}
use Rattle.replica_network.proofs.Going.{keeps_none}
use Rattle.replica_network.proofs.network.Network.new.Goals as goal

pub invariant_of-result : goal.invariant_of-result
invariant_of-result c =
    keeps_none c.in_ok-new.field-0 c.args.config.now c.new-2.result.items c.new-3.result.items c.in_ok-filled.field-0 c.replicas.ensures.sound c.in_ok-new.ensures.setup
    c.in_ok-new.ensures.stands c.new-2.ensures c.new-3.ensures
    (c.in_ok-filled.ensures ∙ ap (λ (n : ℕ). replicate n 0) c.replicas.ensures.count)
