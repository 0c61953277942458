use Rattle.run_promises.proofs.Kept.{IsPart-run}
use Rattle.run_promises.proofs.laws.each_part_can_be.Goals as goal

pub returns : goal.returns
returns c = λ setup history replica run. IsPart-run setup history run replica
