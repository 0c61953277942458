use Rattle.run_promises.proofs.Kept.{IsKept-run}
use Rattle.run_promises.proofs.StrictReads.{TellsTruth-from}
use Rattle.run_promises.proofs.conclusions.strict_reads_tell_the_truth.Goals as goal

pub returns : goal.returns
returns c = λ setup history good run before after entry is.
    TellsTruth-from setup before entry.replica entry.moment entry.act (run before after entry is) ((IsKept-run setup history good run).answered before after entry is)
