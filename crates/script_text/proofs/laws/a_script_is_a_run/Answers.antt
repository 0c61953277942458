use Rattle.std.proofs.Common.{arith}
use Rattle.script_text.proofs.ScriptRun.{script_is_whole}
use Rattle.script_text.proofs.laws.a_script_is_a_run.Goals as goal

pub returns-clause-setup : goal.returns-clause-setup
returns-clause-setup c = λ lines script short. (script_is_whole lines script short).good

pub returns-clause-run : goal.returns-clause-run
returns-clause-run c = λ lines script short. (script_is_whole lines script short).made.played.run

pub returns-clause-room : goal.returns-clause-room
returns-clause-room c = λ lines replica script short. omega (arith, short, (script_is_whole lines script short).made.each replica)
