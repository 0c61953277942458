use Rattle.std.proofs.Common.{[], ◌∷◌, ◌++◌, ap, sym, ◌∙◌, subst}
use Rattle.std.proofs.lemmas.List.{append_assoc}
use Rattle.run_history.specs.Closing.{Gathers}
use Rattle.run_history.proofs.Closed.{gathers_more}
use Rattle.run_history.proofs.desk.gather.Goals as goal

pub loop-clerk-preserved : goal.loop-clerk-preserved
loop-clerk-preserved c =
    let invariant = c.loop-clerk.invariant in
    let before = c.loop-clerk.yielded in
    let clerk = c.in-Some.clerk in (
      append_assoc before (clerk ∷ []) c.next.new.self.rest.items ∙ ap (λ items. before ++ items) (sym c.in-Some.ensures.steps.0) ∙ invariant.0,
      c.join_as.ensures.seat.0 ∙ invariant.1,
      ap (λ me. me.1) c.join_as.ensures.seat.1 ∙ invariant.2,
      subst (Gathers (before ++ clerk ∷ [])) (sym (ap (λ me. me.0) c.join_as.ensures.seat.1))
          (gathers_more before clerk c.loop-clerk.seat.me.0 c.into_seat.result.me.0 invariant.3 (sym c.into_seat.ensures.seen) c.into_seat.ensures.part),
    )
