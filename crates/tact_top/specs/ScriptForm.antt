-- Playing: what a script asks for, and where a text that is none is at fault.
use Rattle.std.specs.Prelude.{◌≡◌, ℕ, List, Err}
use Rattle.run_model.specs.declared.status.InputKind.{InputKind}
use Rattle.run_model.specs.declared.status.InputKind.TheVariants as input
use Rattle.run_model.specs.declared.status.Status.{Status}
use Rattle.run_model.specs.declared.status.Status.TheVariants as status
use Rattle.script_run.specs.Playing.{IsPlayOf}
use Rattle.script_text.specs.Texts.{script_of}

-- the text of the run of the script that the input is, which is a run that keeps its promises
abbrev pub IsPlayed : List ℕ → Status → List ℕ → Type 0
IsPlayed script answer text = (answer ≡ status.Done) × IsPlayOf script text

-- the first fault of an input that is no script
abbrev pub IsScriptFault : List ℕ → ℕ → InputKind → Type 0
IsScriptFault text place (input.Line kind) = script_of text ≡ Err (place, kind)
IsScriptFault text place other = ⊥
