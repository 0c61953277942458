use Rattle.std.proofs.Common.{◌∙◌, sym, arith}
use Rattle.std.proofs.lemmas.List.{take_all}
use Rattle.run_check.proofs.kept.are_same_writes.Goals as goal

pub returns : goal.returns
returns c = λ yes.
    sym (take_all c.loop-place.place c.args.ones.now (omega arith))
    ∙ c.loop-place.invariant
    ∙ take_all c.loop-place.place c.args.others.now (omega arith)
