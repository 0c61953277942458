use Rattle.std.proofs.Common.{List, All, length, get_or, subst, ap, ◌∙◌, arith}
use Rattle.std.proofs.lemmas.List.{take_all}
use Rattle.std.proofs.lemmas.List.Elements.{All-nil, All-more}
use Rattle.tact_base.specs.declared.write.Write.{Write}
use Rattle.run_model.proofs.OriginWrites.{yes}
use Rattle.replica_core.specs.Fitting.{IsToldDue}
use Rattle.replica_core.proofs.replica.Replica.are_told_due.Goals as goal

pub loop-write-init : goal.loop-write-init
loop-write-init c = All-nil (IsToldDue c.args.self.now.core c.args.message.now)

pub loop-write-preserved : goal.loop-write-preserved
loop-write-preserved c =
    let core = c.args.self.now.core in
    let message = c.args.message.now in
    let at = c.loop-write.write-index in
    let write = c.write-item.result in
    All-more (IsToldDue core message) message.writes at write (omega (arith, c.loop-write-test.true, ap length c.items-write-items.ensures)) c.loop-write.invariant
    (subst (IsToldDue core message) (c.write-item.is ∙ ap (λ (writes : List Write). get_or writes at write) c.items-write-items.ensures)
    (c.is_told_due.ensures.0 c.if-not-is_told_due.false))

pub returns : goal.returns
returns c =
    let message = c.args.message.now in
    yes (subst (All (IsToldDue c.args.self.now.core message))
    (take_all c.loop-write.write-index message.writes (omega (arith, c.loop-write-test.false, ap length c.items-write-items.ensures))) c.loop-write.invariant)
