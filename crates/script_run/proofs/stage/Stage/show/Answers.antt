use Rattle.std.proofs.Common.{◌++◌, ap, ◌∙◌}
use Rattle.std.proofs.lemmas.Result.{on_ok_weaker}
use Rattle.tact_base.specs.Setup.{Setup}
use Rattle.run_model.specs.ScriptRuns.{show_text}
use Rattle.script_run.proofs.stage.Stage.show.Goals as goal

pub returns-clause-ok : goal.returns-clause-ok
returns-clause-ok c =
    let stage = c.args.self.now in
    let history = stage.history.items in
    on_ok_weaker c.show.result
    (λ told. told history (c.requires.keeps.stands.parts c.args.replica c.at-view.result.now.core c.at-view.ensures)
    ∙ ap (λ (s : Setup). c.args.out.now ++ show_text s history c.args.replica) c.config.ensures)
    c.show.ensures.of_history
