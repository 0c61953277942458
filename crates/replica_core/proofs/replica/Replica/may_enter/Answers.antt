use Rattle.std.proofs.Common.{Bool, ◌||◌, nat_le, ap, ap₂, ◌∙◌, sym, subst}
use Rattle.std.proofs.lemmas.Bool.{le-leb, lt-leb}
use Rattle.tact_base.specs.declared.limits.TheConstants.{HISTORY_MAX, STAMP_MAX}
use Rattle.replica_core.specs.States.{ReplicaState, IsKept, is_full}
use Rattle.replica_core.proofs.replica.Replica.may_enter.Goals.{then-self-ge-HISTORY_MAX-via-then-self-ge-HISTORY_MAX}
use Rattle.replica_core.proofs.replica.Replica.may_enter.Goals.{then-self-ge-HISTORY_MAX-via-else-self-ge-HISTORY_MAX+then-self-ge-STAMP_MAX}
use Rattle.replica_core.proofs.replica.Replica.may_enter.Goals as goal

pub returns-then-self-ge-HISTORY_MAX-clause-err : goal.returns-then-self-ge-HISTORY_MAX-clause-err
returns-then-self-ge-HISTORY_MAX-clause-err c =
    let count = c.self.inside.count in
    let clock = c.self.inside.clock in
    sym (ap (λ (s : ReplicaState). is_full s.core) c.self.view_is)
    ∙ elim c.then-self-ge-HISTORY_MAX.branch [
      | then-self-ge-HISTORY_MAX-via-then-self-ge-HISTORY_MAX w ↦
          ap (λ (counted : Bool). counted || nat_le STAMP_MAX clock) (le-leb HISTORY_MAX count w.if-self-ge-HISTORY_MAX.true)
      | then-self-ge-HISTORY_MAX-via-else-self-ge-HISTORY_MAX+then-self-ge-STAMP_MAX w ↦
          ap₂ (λ (counted clocked : Bool). counted || clocked) (lt-leb HISTORY_MAX count w.if-self-ge-HISTORY_MAX.false) (le-leb STAMP_MAX clock w.if-self-ge-STAMP_MAX.true)
    ]

pub returns-then-self-ge-HISTORY_MAX-clause-kept : goal.returns-then-self-ge-HISTORY_MAX-clause-kept
returns-then-self-ge-HISTORY_MAX-clause-kept c = subst (λ (s : ReplicaState). IsKept s.core) c.self.view_is c.self.invariant.0

pub returns-clause-ok : goal.returns-clause-ok
returns-clause-ok c =
    sym (ap (λ (s : ReplicaState). is_full s.core) c.self.view_is)
    ∙ ap₂ (λ (counted clocked : Bool). counted || clocked)
    (lt-leb HISTORY_MAX c.self.inside.count c.if-self-ge-HISTORY_MAX.false) (lt-leb STAMP_MAX c.self.inside.clock c.if-self-ge-STAMP_MAX.false)

pub returns-clause-kept : goal.returns-clause-kept
returns-clause-kept c = subst (λ (s : ReplicaState). IsKept s.core) c.self.view_is c.self.invariant.0
