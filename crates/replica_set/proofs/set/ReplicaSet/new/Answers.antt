use Rattle.std.proofs.Common.{◌≡◌, ℕ, ◌≤◌, List, map, ap, sym, ◌∙◌, subst, arith}
use Rattle.std.proofs.lemmas.List.{map_push}
use Rattle.tact_base.specs.Setup.{Setup}
use Rattle.replica_core.specs.States.{Core}
use Rattle.replica_set.proofs.NewSet.{AreNew, none_are_new, one_more_is_new, new_set, new_stands}
use Rattle.replica_set.proofs.OneReplica.{core_of}
use Rattle.replica_set.proofs.set.ReplicaSet.new.Goals as goal

pub loop-replica-init : goal.loop-replica-init
loop-replica-init c = rw c.new-replicas.ensures.items (none_are_new c.args.config.now)

pub loop-replica-preserved : goal.loop-replica-preserved
loop-replica-preserved c =
    let ones = c.loop-replica.replicas.items in
    let one = c.in_ok-new.field-0 in
    subst (AreNew c.args.config.now _) (sym (ap (map core_of) c.in_ok-push.ensures.items ∙ map_push core_of ones one))
    (one_more_is_new c.args.config.now c.loop-replica.replica (map core_of ones) one.core c.loop-replica.invariant c.in_ok-new.ensures.setup.0 c.in_ok-new.ensures.setup.1 c.in_ok-new.ensures.stands)

-- all of them
all_new : (copied given : Setup) (count most : ℕ) (cores : List Core)
    → copied ≡ given
    → most ≡ given.replicas
    → most ≤ count
    → count ≤ most
    → AreNew given count cores
    → AreNew copied copied.replicas cores
all_new copied given count most cores same all low high are =
    subst (λ s. AreNew s s.replicas cores) (sym same)
    (subst (λ n. AreNew given n cores) (omega (arith, all, low, high)) are)

pub invariant_of-result : goal.invariant_of-result
invariant_of-result c =
    new_set c.in_ok-copy.field-0 (map core_of c.loop-replica.replicas.items)
    (all_new c.in_ok-copy.field-0 c.args.config.now c.loop-replica.replica c.replicas-replica-end.result _ c.in_ok-copy.ensures c.replicas-replica-end.ensures.count
    (omega arith) (omega arith) c.loop-replica.invariant)

pub returns-clause-stands : goal.returns-clause-stands
returns-clause-stands c =
    new_stands c.in_ok-copy.field-0 (map core_of c.loop-replica.replicas.items)
    (all_new c.in_ok-copy.field-0 c.args.config.now c.loop-replica.replica c.replicas-replica-end.result _ c.in_ok-copy.ensures c.replicas-replica-end.ensures.count
    (omega arith) (omega arith) c.loop-replica.invariant)
