use Rattle.std.proofs.Common.{arith}
use Rattle.run_check.proofs.judging.judge_take.Goals as goal

pub message-requires : goal.message-requires
message-requires g c = omega (arith, c.requires.1.1.0.act.0, c.requires.1.1.1.sized)
