use Rattle.std.proofs.Common.{◌≡◌, ℕ, List, Ok, ◌∙◌, subst}
use Rattle.run_model.specs.ScriptRuns.{play_text}
use Rattle.script_text.specs.Setups.{setup_of}
use Rattle.script_text.specs.Texts.{script_of}
use Rattle.script_run.proofs.Played.{play_of, text_is_written}
use Rattle.script_run.proofs.playing.play.Goals as goal

pub returns-in-Ok-text_of-clause-written : goal.returns-in-Ok-text_of-clause-written
returns-in-Ok-text_of-clause-written g c =
    let left = g.S.Source.left c.args.source.now in
    let input = c.in-Ok.input in
    let script = c.in-Ok-parse_script.script in
    let text = c.items-in-Ok-text_of.result.now in
    let read : script_of input ≡ Ok script = subst (λ (bytes : List ℕ). script_of bytes ≡ Ok script) c.items.ensures c.in-Ok-parse_script.ensures.read in
    let made : text ≡ play_text (setup_of script) script = c.items-in-Ok-text_of.ensures ∙ c.in-Ok-text_of.ensures in
    text_is_written c.written.result left _ _ text
    (input, c.in-Ok.ensures.all, c.in-Ok.ensures.within, play_of input script text read c.in-Ok-parse_script.ensures.script c.in-Ok-parse_script.ensures.few made)
    c.written.ensures.written
