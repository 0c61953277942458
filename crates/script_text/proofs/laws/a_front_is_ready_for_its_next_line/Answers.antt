use Rattle.script_text.proofs.ScriptRun.{front_is_ready}
use Rattle.script_text.proofs.laws.a_front_is_ready_for_its_next_line.Goals as goal

pub returns : goal.returns
returns c = front_is_ready
