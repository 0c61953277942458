use Rattle.std.proofs.Common.{ℕ, List, [], ◌∷◌, ◌++◌, sym, ap, ap₂, ◌∙◌, subst}
use Rattle.std.proofs.lemmas.Result.{on_ok_weaker}
use Rattle.run_model.specs.Histories.{part_of}
use Rattle.tact_base.specs.Setup.{Setup}
use Rattle.std.specs.List.{flat_map}
use Rattle.tact_base.specs.declared.conit_list.Need.{Need}
use Rattle.run_model.specs.Runs.{IsRun}
use Rattle.run_model.specs.ScriptRuns.{need_text}
use Rattle.replica_core.specs.Stands.{Stands}
use Rattle.reference_book.specs.Books.{IsBookOf}
use Rattle.reference_book.proofs.Histories.{length-logs}
use Rattle.script_run.specs.Comments.{TellsTruth}
use Rattle.script_run.specs.Stages.{needs_in}
use Rattle.script_run.proofs.Commenting.{comments_are}
use Rattle.script_run.proofs.stage.Stage.comment_on.Goals as goal

pub needs-requires-clause-replicas : goal.needs-requires-clause-replicas
needs-requires-clause-replicas c =
    let made = c.requires.made in
    let stage = c.args.self.now in
    let core = c.at-view.result.now.core in
    let one = made.stands.is_set.each c.args.entry.now.replica core c.at-view.ensures in
    ap (λ (s : Setup). s.replicas) one.setup
    ∙ sym (length-logs stage.set.setup (stage.history.items ++ c.args.entry.now ∷ []) stage.book (made.book c.requires.prints))

pub returns : goal.returns
returns c =
    let made = c.requires.made in
    let stage = c.args.self.now in
    let entry = c.args.entry.now in
    let setup = stage.set.setup in
    let core = c.at-view.result.now.core in
    let longer = stage.history.items ++ entry ∷ [] in
    let one = made.stands.is_set.each entry.replica core c.at-view.ensures in
    let truth : TellsTruth stage.book core longer = record {
      run = subst (λ s. IsRun s longer) (sym one.setup) made.run;
      book = subst (λ s. IsBookOf s longer stage.book) (sym one.setup) (made.book c.requires.prints);
      stands = subst (λ r. Stands (part_of longer r) core) (sym one.replica) (made.stands.parts entry.replica core c.at-view.ensures);
    } in
    on_ok_weaker c.needs.result
    (λ told. told longer truth
    ∙ ap (λ (needs : List Need). c.args.out.now ++ flat_map (need_text core.setup longer core.replica entry.moment) needs) c.needs_in.ensures
    ∙ ap₂ (λ (s : Setup) (r : ℕ). c.args.out.now ++ flat_map (need_text s longer r entry.moment) (needs_in entry.act)) one.setup one.replica
    ∙ ap (λ (text : List ℕ). c.args.out.now ++ text) (comments_are setup longer entry.replica entry.moment entry.act))
    c.needs.ensures.of_history
