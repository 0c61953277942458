use Rattle.std.proofs.Common.{◌≡◌, ◌++◌, List, take, flat_map}
use Rattle.run_model.specs.ScriptRuns.{need_text}
use Rattle.run_model.specs.Text.{BeginsWith}
use Rattle.run_model.specs.declared.entry.Entry.{Entry}
use Rattle.script_run.specs.Comments.{TellsTruth}
use Rattle.script_run.proofs.comments.print_needs.Given as goal

abbrev pub invariant-loop-need : goal.invariant-loop-need
invariant-loop-need l = record {
  begins : BeginsWith l.initial.out l.out;
  printed : (history : List Entry) → TellsTruth l.book l.view.core history
      → l.out ≡ l.initial.out ++ flat_map (need_text l.view.core.setup history l.view.core.replica l.moment) (take l.need-index l.needs);
}
