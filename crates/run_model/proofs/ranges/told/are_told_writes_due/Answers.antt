use Rattle.std.proofs.Common.{◌≡◌, length, sym, ap, ◌∙◌, arith}
use Rattle.std.proofs.lemmas.Bool.{false≢true}
use Rattle.run_model.specs.Taking.{told_writes}
use Rattle.run_model.proofs.OriginWrites.{from_one}
use Rattle.run_model.proofs.ranges.told.are_told_writes_due.Goals as goal
use Rattle.run_model.proofs.ranges.told.are_told_writes_due.Goals.{then-count_of-most, else-count_of-most}

pub returns-else-is_told_to_others : goal.returns-else-is_told_to_others
returns-else-is_told_to_others c =
    let told = told_writes c.args.message.now c.args.origin in
    let size : c.count_of.result ≡ length told = c.count_of.ensures ∙ ap (λ writes. length (from_one c.args.origin writes)) c.items.ensures in (
      λ t. absurd (false≢true (sym c.if-is_told_to_others.false ∙ t)),
      λ all. elim c.if-count_of-most.branch [
        | then-count_of-most w ↦ w.value-is ∙ w.is_told_to_others.ensures.1 all.1
        | else-count_of-most w ↦ absurd (omega (arith, all.0, size))
      ],
    )
