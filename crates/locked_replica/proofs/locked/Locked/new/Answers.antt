use Rattle.std.proofs.Common.{◌+◌, ◌*◌, replicate, sym, ap, ◌∙◌}
use Rattle.tact_base.specs.Setup.{Setup}
use Rattle.tact_base.specs.declared.limits.TheConstants.{CLIENTS}
use Rattle.weight_ledger.specs.Amounts.{zeros}
use Rattle.locked_replica.proofs.Beginning.{IsLocked-new}
use Rattle.locked_replica.proofs.locked.Locked.new.Goals as goal

pub invariant_of-result : goal.invariant_of-result
invariant_of-result c =
    let conits = c.conits-conits.ensures.count ∙ ap (λ (s : Setup). s.conits) (sym c.in-Ok-new.ensures.setup.0) in (
      IsLocked-new _ (sym (c.in-Ok-new.ensures.setup.1 ∙ c.replica-number.ensures.replica)) c.in-Ok-new.ensures.stands c.requires.drawn c.new-2.ensures c.replica-number.ensures.own
          (c.in-Ok-zeros.ensures ∙ ap (λ n. zeros (n + 2 * CLIENTS)) conits),
      conits,
      c.in-Ok-filled.ensures ∙ ap (λ n. replicate n 0) (c.replicas.ensures.count ∙ ap (λ (s : Setup). s.replicas) (sym c.in-Ok-new.ensures.setup.0)),
      c.in-Ok.ensures ∙ sym c.in-Ok-new.ensures.setup.0,
    )
