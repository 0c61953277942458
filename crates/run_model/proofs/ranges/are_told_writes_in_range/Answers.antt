use Rattle.std.proofs.Common.{length, sym, ap, ◌∙◌, arith}
use Rattle.std.proofs.lemmas.Bool.{false≢true}
use Rattle.run_model.proofs.ranges.are_told_writes_in_range.Goals as goal
use Rattle.run_model.proofs.ranges.are_told_writes_in_range.Goals.{then-writes-le-MESSAGE_WRITES, else-writes-le-MESSAGE_WRITES}

pub returns-else-stand_by_origin : goal.returns-else-stand_by_origin
returns-else-stand_by_origin c = (
  λ t. absurd (false≢true (sym c.if-stand_by_origin.false ∙ t)),
  λ all. elim c.if-writes-le-MESSAGE_WRITES.branch [
    | then-writes-le-MESSAGE_WRITES w ↦ w.value-is ∙ w.stand_by_origin.ensures.1 (rw (c.items-writes.ensures, w.replicas.ensures.count) all.1)
    | else-writes-le-MESSAGE_WRITES w ↦ absurd (omega (arith, all.0, ap length c.items-writes.ensures))
  ],
)
