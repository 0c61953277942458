use Rattle.std.proofs.Common.{◌≡◌, ◌++◌, ◌∷◌, [], All, ap, sym, subst, ◌∙◌, arith, map}
use Rattle.std.proofs.lemmas.List.{append_assoc, append-nil, map-append, nil_from_length}
use Rattle.run_history.specs.Closing.{AreAllThere}
use Rattle.run_history.specs.Seats.{ClerkView}
use Rattle.thread_tests.specs.declared.history.Drawn.{Drawn}
use Rattle.thread_tests.proofs.RestartLemmas.{tables_in_place, whole_in_place}
use Rattle.thread_tests.proofs.history.closed.Goals as goal

pub loop-clerk-preserved : goal.loop-clerk-preserved
loop-clerk-preserved c =
    let invariant = c.loop-clerk.invariant in
    let before = c.loop-clerk.yielded in
    let one = c.in-Some.field-0 in
    let more = map-append (λ (one : Drawn). one.clerk) before (one ∷ []) in (
      append_assoc before (one ∷ []) c.next.new.self.rest.items ∙ ap (λ items. before ++ items) (sym c.in-Some.ensures.steps.0) ∙ invariant.0,
      c.in_ok-push.ensures.items ∙ ap (λ items. items ++ one.clerk ∷ []) invariant.1 ∙ sym more,
    )

all : (c : goal.After-drop-clerk-iterator-2)
    → c.loop-clerk.clerks.items ≡ map (λ (one : Drawn). one.clerk) c.args.drawn.items
all c =
    let invariant = c.loop-clerk.invariant in
    let before = c.loop-clerk.yielded in
    let rest = c.loop-clerk.clerk-iterator.rest in
    let none : rest.items ≡ [] = nil_from_length rest.items (omega (arith, rest.ok.0, c.in-None.ensures.steps.0)) in
    invariant.1 ∙ ap (map (λ (one : Drawn). one.clerk)) (sym (append-nil before) ∙ ap (λ rest. before ++ rest) (sym none) ∙ invariant.0)

pub close-requires-clause-desk : goal.close-requires-clause-desk
close-requires-clause-desk c =
    subst (All (λ (clerk : ClerkView). clerk.table ≡ c.args.desk.table)) (sym (all c))
    (tables_in_place c.args.desk (map (λ (one : Drawn). one.clerk) c.args.drawn.items) c.requires)

pub close-requires-clause-whole : goal.close-requires-clause-whole
close-requires-clause-whole c =
    subst (AreAllThere c.args.desk.setup.replicas) (sym (all c))
    (whole_in_place c.args.desk (map (λ (one : Drawn). one.clerk) c.args.drawn.items) c.requires)
