use Rattle.std.proofs.Common.{◌++◌, get_or, ap, ◌∙◌}
use Rattle.tact_base.specs.declared.conit_list.Need.{Need}
use Rattle.run_model.proofs.TextLemmas.{begins_more, begins_append}
use Rattle.run_model.specs.ScriptRuns.{need_text}
use Rattle.reference_book.specs.declared.errors.Errors.{Errors}
use Rattle.script_run.specs.Comments.{need_comment}
use Rattle.script_run.proofs.CommentLemmas.{needs_more}
use Rattle.script_run.proofs.comments.print_needs.Goals as goal

pub loop-need-preserved : goal.loop-need-preserved
loop-need-preserved c = record {
  begins = begins_more c.args.out.now c.loop-need.out c.print_need.new.out (rw c.in_ok-print_need.ensures.ok (begins_append c.loop-need.out _)) c.loop-need.invariant.begins;
  printed = λ history truth.
      let text = need_text c.args.view.now.core.setup history c.args.view.now.core.replica c.args.moment in
      let none : Need = record { conit = 0; num = 0; order = 0; stale = 0 } in
      let need : Need = get_or c.args.needs.now c.loop-need.need-index none in
      c.in_ok-print_need.ensures.ok
      ∙ ap (λ (errors : Errors). c.loop-need.out ++ need_comment errors need) (c.errors-errors.ensures history truth.run truth.book truth.stands)
      ∙ needs_more text c.args.needs.now c.loop-need.need-index none c.args.out.now c.loop-need.out c.loop-need-test.true (c.loop-need.invariant.printed history truth);
}
