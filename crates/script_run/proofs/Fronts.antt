-- The lines that a world stepped, and the next one, are the first of a script: so the next one can be done.
use Rattle.std.proofs.Common.{◌≡◌, ◌≤◌, List, [], ◌∷◌, ◌++◌, length, sym, ap, ◌∙◌, subst, append_assoc, arith}
use Rattle.tact_base.specs.Setup.{Setup}
use Rattle.tact_base.specs.declared.limits.TheConstants.{SCRIPT_LINES}
use Rattle.run_model.specs.ScriptRuns.{played_by}
use Rattle.run_model.specs.declared.entry.Entry.{Entry}
use Rattle.run_model.specs.declared.script_line.Line.{Line}
use Rattle.run_model.specs.declared.script_line.Line.TheVariants as line
use Rattle.script_text.specs.Fronts.{HasItsMessage}
use Rattle.script_text.specs.LineRanges.{IsLineInRange}
use Rattle.script_text.specs.Scripts.{IsStart, IsScript}
use Rattle.script_text.specs.Setups.{setup_of}
use Rattle.script_text.proofs.ScriptRun.{front_is_ready}
use Rattle.script_run.specs.Stages.{IsReadyFor}
use Rattle.script_run.specs.Worlds.{AreFirstLines}

start_is_ready : (setup : Setup) (history : List Entry) (l : Line)
    → IsStart l
    → IsReadyFor setup history l
start_is_ready setup history (line.Start replicas conits alpha loan) start = tt
start_is_ready setup history other start = absurd start

later_is_ready : (setup : Setup) (history : List Entry) (l : Line)
    → IsLineInRange setup l
    → HasItsMessage setup history l
    → IsReadyFor setup history l
later_is_ready setup history (line.Start replicas conits alpha loan) names message = tt
later_is_ready setup history (line.Bound owner conit alpha loan) names message = (names, message)
later_is_ready setup history (line.At moment) names message = (names, message)
later_is_ready setup history (line.Write replica client op weights) names message = (names, message)
later_is_ready setup history (line.Held replica client op weight) names message = (names, message)
later_is_ready setup history (line.Reserve replica client conit amount) names message = (names, message)
later_is_ready setup history (line.Release replica client conit amount) names message = (names, message)
later_is_ready setup history (line.Read replica client key needs) names message = (names, message)
later_is_ready setup history (line.Send from to firsts) names message = (names, message)
later_is_ready setup history (line.Take replica from number) names message = (names, message)
later_is_ready setup history (line.Sync first second) names message = (names, message)
later_is_ready setup history (line.Lend owner holder conit amount) names message = (names, message)
later_is_ready setup history (line.Back holder owner conit amount) names message = (names, message)
later_is_ready setup history (line.Restart replica) names message = (names, message)
later_is_ready setup history (line.Show replica) names message = (names, message)
later_is_ready setup history (line.Ref conit) names message = (names, message)

ready_in : (lines rest : List Line) (l : Line)
    → IsScript (lines ++ l ∷ rest)
    → length (lines ++ l ∷ rest) ≤ SCRIPT_LINES
    → IsReadyFor (setup_of (lines ++ l ∷ rest)) (played_by (setup_of (lines ++ l ∷ rest)) lines).history l
ready_in [] rest l script few = start_is_ready (setup_of (l ∷ rest)) [] l script.0
ready_in (first ∷ before) rest l script few =
    let ready = front_is_ready (first ∷ before) rest l (omega arith) script few in
    later_is_ready _ _ l ready.in_range ready.message

pub next_is_ready : (setup : Setup) (lines : List Line) (l : Line)
    → AreFirstLines setup (lines ++ l ∷ [])
    → IsReadyFor setup (played_by setup lines).history l
next_is_ready setup lines l first =
    let whole : (lines ++ l ∷ []) ++ first.rest ≡ lines ++ l ∷ first.rest = append_assoc lines (l ∷ []) first.rest in
    let setup_is : setup ≡ setup_of (lines ++ l ∷ first.rest) = first.setup_is ∙ ap setup_of whole in
    subst (λ (s : Setup). IsReadyFor s (played_by s lines).history l) (sym setup_is)
    (ready_in lines first.rest l (subst IsScript whole first.script) (subst (λ (ls : List Line). length ls ≤ SCRIPT_LINES) whole first.few))
