use Rattle.std.proofs.Common.{arith}
use Rattle.script_run.proofs.stage.Stage.moment_of.Goals as goal

pub returns : goal.returns
returns c =
    let stands = c.requires.keeps.stands.parts c.args.replica c.at.result.now.core c.at.ensures in
    omega (arith, c.max.ensures, c.last.ensures, stands.counts.last)
