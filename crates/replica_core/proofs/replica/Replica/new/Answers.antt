use Rattle.std.proofs.Common.{sym, ap, ◌∙◌, arith}
use Rattle.tact_base.specs.Setup.{Setup}
use Rattle.split_budget.specs.Budgets.{BudgetState}
use Rattle.replica_core.specs.Seen.{SeenState}
use Rattle.replica_core.proofs.NewReplica.{no_seen, Stands-made, IsKept-made}
use Rattle.replica_core.proofs.replica.Replica.new.Goals as goal

pub returns-clause-stands : goal.returns-clause-stands
returns-clause-stands c =
    let count = c.replicas-replicas.ensures.count in
    Stands-made c.args.config.now _ c.args.replica c.in_ok-logs.logs _ _ c.in_ok-seen.seen c.in_ok-budgets.budgets _ c.requires c.in_ok-own.ensures
    (rw count at c.in_ok-logs.ensures.logs) (rw count at c.in_ok-logs.ensures.bases) (rw count at c.in_ok-vector.ensures.covers)
    (rw count at c.in_ok-vector.ensures.known)
    (c.in_ok-seen.ensures.seen ∙ ap no_seen c.conits.ensures.count) (ap (λ (b : BudgetState). let without : BudgetState = record b { room = 0 } in without) c.in_ok-budgets.ensures)
    c.in_ok-seen.ensures.calls

pub invariant_of-result : goal.invariant_of-result
invariant_of-result c =
    let count = c.replicas-replicas.ensures.count in (
      IsKept-made c.args.config.now _ c.args.replica c.in_ok-logs.logs _ _ c.in_ok-seen.seen c.in_ok-budgets.budgets _ c.requires c.in_ok-own.ensures
          (rw count at c.in_ok-logs.ensures.logs) (rw count at c.in_ok-logs.ensures.bases) (rw count at c.in_ok-vector.ensures.covers)
          (rw count at c.in_ok-vector.ensures.known)
          (c.in_ok-seen.ensures.seen ∙ ap no_seen c.conits.ensures.count) (ap (λ (b : BudgetState). let without : BudgetState = record b { room = 0 } in without) c.in_ok-budgets.ensures)
          c.in_ok-seen.ensures.calls
          c.replicas-replicas.ensures.sound,
      record { own = omega arith; others = λ origin other within. omega arith; seen = omega arith; budgets = omega arith },
      ap (λ (seen : SeenState). seen.conits) c.in_ok-seen.ensures.seen ∙ c.conits.ensures.count ∙ sym (ap (λ (s : Setup). s.conits) c.in_ok-own.ensures),
    )
