use Rattle.std.proofs.Common.{◌≡◌, List, [], ◌∷◌, ◌++◌, All, ap, sym, ◌∙◌, subst, arith}
use Rattle.std.proofs.lemmas.List.{append_assoc}
use Rattle.std.proofs.lemmas.List.Elements.{All-push, All-weaker}
use Rattle.run_model.specs.Histories.{IsPrefix}
use Rattle.run_model.proofs.PrefixLemmas.{IsPrefix-trans}
use Rattle.run_history.specs.Seats.{NoteView}
use Rattle.run_work.proofs.Ended.{all_there}
use Rattle.run_work.proofs.run.meet_all.Goals as goal

pub loop-other-preserved : goal.loop-other-preserved
loop-other-preserved c =
    let before : List NoteView = c.loop-other.yielded in
    let other : NoteView = c.in-Some.other in
    let was : NoteView = c.loop-other.note in
    let now : NoteView = c.meet.new.self in
    record {
      all = append_assoc before (other ∷ []) c.next.new.self.rest.items ∙ ap (λ (items : List NoteView). before ++ items) (sym c.in-Some.ensures.steps.0) ∙ c.loop-other.invariant.all;
      table = c.meet.ensures.desk ∙ c.loop-other.invariant.table;
      mine = IsPrefix-trans c.args.note.now.seen was.seen now.seen c.loop-other.invariant.mine c.meet.ensures.mine;
      others = All-push (λ (one : NoteView). IsPrefix one.seen now.seen) before other
          (All-weaker (λ (one : NoteView). IsPrefix one.seen was.seen) (λ (one : NoteView). IsPrefix one.seen now.seen)
          (λ one seen. IsPrefix-trans one.seen was.seen now.seen seen c.meet.ensures.mine) before c.loop-other.invariant.others) c.meet.ensures.other;
    }

pub returns-clause-others : goal.returns-clause-others
returns-clause-others c =
    let all : c.loop-other.yielded ≡ c.args.others.items =
    all_there c.loop-other.yielded c.loop-other.other-iterator.rest.items c.args.others.items c.loop-other.invariant.all (omega (arith, c.in-None.ensures.steps.0)) in
    subst (All (λ (other : NoteView). IsPrefix other.seen c.loop-other.note.seen)) all c.loop-other.invariant.others
