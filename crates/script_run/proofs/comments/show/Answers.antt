use Rattle.std.proofs.Common.{◌≡◌, ◌++◌, ℕ, List, ap, ap₂, subst, sym, ◌∙◌, arith}
use Rattle.std.proofs.lemmas.Grind.{common_steps}
use Rattle.std.proofs.lemmas.Result.{on_ok_weaker}
use Rattle.tact_base.specs.Setup.{Setup}
use Rattle.run_model.specs.Histories.{part_of}
use Rattle.run_model.specs.ScriptRuns.{show_text}
use Rattle.replica_core.specs.Stands.{Stands}
use Rattle.script_run.specs.Comments.{shown_core}
use Rattle.script_run.proofs.CommentLemmas.{shown_core-is}
use Rattle.script_run.proofs.comments.show.Goals as goal

pub returns-clause-of_history : goal.returns-clause-of_history
returns-clause-of_history c =
    let core = c.args.view.now.core in
    on_ok_weaker c.all_or_nothing.result
    (λ (shown : c.all_or_nothing.new.out ≡ c.args.out.now ++ shown_core core) history stands.
    shown
    ∙ ap (λ (text : List ℕ). c.args.out.now ++ text)
    (shown_core-is history core (subst (λ (r : ℕ). Stands (part_of history r) core) (sym c.requires.replica) stands)
    ∙ ap₂ (λ (s : Setup) (r : ℕ). show_text s history r) c.requires.setup c.requires.replica))
    (grind (arith, common_steps))
