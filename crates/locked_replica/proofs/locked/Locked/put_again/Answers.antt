use Rattle.std.proofs.Common.{replicate, sym, ap, ◌∙◌, subst}
use Rattle.tact_base.specs.Setup.{Setup}
use Rattle.replica_core.specs.Stands.{IsSameReplica, Stands}
use Rattle.locked_replica.specs.Locks.{LockedView, part_in}
use Rattle.locked_replica.proofs.Redrawing.{IsLocked-again}
use Rattle.locked_replica.proofs.locked.Locked.put_again.Goals as goal

pub invariant_of-self : goal.invariant_of-self
invariant_of-self c =
    let before : LockedView = Rattle.locked_replica.specs.declared.locked.Locked.TheView.view c.self.inside in
    let same = subst (λ (v : LockedView). IsSameReplica v.core c.args.replica.core) (sym c.self.view_is) c.requires.same in
    let stands = subst (λ (v : LockedView). Stands (part_in v) c.args.replica.core) (sym c.self.view_is) c.requires.stands in (
      IsLocked-again before c.args.replica.core c.args.replica.spare c.args.replica.beside c.self.invariant.0 same stands,
      c.self.invariant.1 ∙ sym (ap (λ (s : Setup). s.conits) same.0),
      c.self.invariant.2 ∙ sym (ap (λ (s : Setup). replicate s.replicas 0) same.0),
      c.self.invariant.3 ∙ sym same.0,
    )

pub returns-clause-kept : goal.returns-clause-kept
returns-clause-kept c =
    let before : LockedView = Rattle.locked_replica.specs.declared.locked.Locked.TheView.view c.self.inside in
    let same = subst (λ (v : LockedView). IsSameReplica v.core c.args.replica.core) (sym c.self.view_is) c.requires.same in
    let stands = subst (λ (v : LockedView). Stands (part_in v) c.args.replica.core) (sym c.self.view_is) c.requires.stands in
    IsLocked-again before c.args.replica.core c.args.replica.spare c.args.replica.beside c.self.invariant.0 same stands
