use Rattle.std.proofs.Common.{◌≡◌, ℕ, List, ◌++◌, length, sym, ap, ap₂, ◌∙◌, arith}
use Rattle.std.specs.List.{flat_map}
use Rattle.tact_base.specs.Setup.{Setup, replicas_of}
use Rattle.run_model.specs.ScriptRuns.{history_of}
use Rattle.run_model.specs.declared.entry.Entry.{Entry}
use Rattle.run_model.specs.declared.script_line.Line.{Line}
use Rattle.script_text.specs.Setups.{setup_of}
use Rattle.tact_top.specs.DrillText.{counts_of, counts_text, shown_line, summary_text}
use Rattle.tact_top.specs.declared.counting.Counts.{Counts}
use Rattle.tact_top.proofs.DrillLemmas.{drawn_is_short}
use Rattle.tact_top.proofs.drilling.summary_of.Goals as goal

pub of-requires-clause-few : goal.of-requires-clause-few
of-requires-clause-few c = omega (arith, drawn_is_short c.args.number, ap (λ (ls : List Line). length ls) c.in_ok-script.ensures.lines)

pub put_replicas-requires : goal.put_replicas-requires
put_replicas-requires c =
    omega (arith, c.replicas.ensures.count, ap (λ (s : Setup). s.replicas) (c.config.ensures ∙ sym c.in_ok-outcome.ensures.setup))

pub returns : goal.returns
returns c =
    let number = c.args.number in
    let script = c.in_ok-script.script in
    let outcome = c.in_ok-outcome.outcome in
    let counts = c.of.new.witness in
    let did = c.in_ok-outcome.ensures in
    let history = history_of (setup_of script) script in
    let shown = λ (s : Setup) (h : List Entry). flat_map (shown_line s h) (replicas_of s) in
    c.in_ok-put_replicas.ensures
    ∙ ap (λ (text : List ℕ). text ++ shown outcome.setup outcome.history)
    (c.in_ok-put_counts.ensures.ok ∙ ap (λ (text : List ℕ). text ++ counts_text number counts) c.new-text.ensures)
    ∙ ap (λ (told : Counts). counts_text number told ++ shown outcome.setup outcome.history) did.saw
    ∙ ap₂ (λ (s : Setup) (h : List Entry). counts_text number (counts_of history) ++ shown s h) did.setup did.history
    ∙ ap (λ (ls : List Line). summary_text number (setup_of ls) (history_of (setup_of ls) ls)) c.in_ok-script.ensures.lines
