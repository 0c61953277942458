use Rattle.std.proofs.Common.{◌<◌, List, [], ◌∷◌, ◌++◌, length, map, get_or, set, sym, ap, ◌∙◌, subst}
use Rattle.std.specs.List.{All}
use Rattle.std.proofs.lemmas.Result.{err_from_is_err_and}
use Rattle.run_model.specs.declared.entry.Message.{Message}
use Rattle.run_check.specs.declared.kept.Kept.{Kept}
use Rattle.run_check.specs.Keeping.{whole_of, IsPlaced}
use Rattle.run_check.proofs.Keeping.{outboxes_placed_still, outboxes_whole_still, box_within, placed_with, whole_with}
use Rattle.run_check.proofs.outboxes.Outboxes.keep.Goals as goal

-- where memory is wanting, the messages are those of before
pub returns-in-Err-clause-err : goal.returns-in-Err-clause-err
returns-in-Err-clause-err c =
    outboxes_whole_still c.self.inside.written.items c.kept_of.new.written.items c.kept_of.ensures.grown c.self.inside.kept.items c.self.invariant
    ∙ c.self.view_is

pub invariant_of-self-in_err-push_last : goal.invariant_of-self-in_err-push_last
invariant_of-self-in_err-push_last c =
    let after = c.kept_of.new.written.items in
    subst (λ (boxes : List (List Kept)). All (All (IsPlaced after)) boxes) (sym c.in_err-push_last.ensures.err)
    (outboxes_placed_still c.self.inside.written.items after c.kept_of.ensures.grown c.self.inside.kept.items c.self.invariant)

pub returns-in_err-push_last-clause-err : goal.returns-in_err-push_last-clause-err
returns-in_err-push_last-clause-err c =
    let after = c.kept_of.new.written.items in
    let fault = err_from_is_err_and c.from_residual.result c.from_residual.ensures.1 in
    rw fault.1
    (ap (map (map (whole_of after))) c.in_err-push_last.ensures.err
    ∙ outboxes_whole_still c.self.inside.written.items after c.kept_of.ensures.grown c.self.inside.kept.items c.self.invariant
    ∙ c.self.view_is)

-- else the new one stands behind those of its sender
pub invariant_of-self-2 : goal.invariant_of-self-2
invariant_of-self-2 c =
    let before = c.self.inside.written.items in
    let after = c.kept_of.new.written.items in
    let boxes = c.self.inside.kept.items in
    let within : c.args.replica < length boxes = box_within before boxes c.args.self.now c.args.replica c.self.view_is c.requires in
    subst (λ (boxes : List (List Kept)). All (All (IsPlaced after)) boxes) (sym c.in_ok-push_last.ensures.ok)
    (placed_with before after boxes c.args.replica c.in-Ok.kept c.kept_of.ensures.grown c.self.invariant within c.in-Ok.ensures.placed)

pub returns-clause-ok : goal.returns-clause-ok
returns-clause-ok c =
    let before = c.self.inside.written.items in
    let after = c.kept_of.new.written.items in
    let boxes = c.self.inside.kept.items in
    let within : c.args.replica < length boxes = box_within before boxes c.args.self.now c.args.replica c.self.view_is c.requires in
    ap (map (map (whole_of after))) c.in_ok-push_last.ensures.ok
    ∙ whole_with before after boxes c.args.replica c.in-Ok.kept c.kept_of.ensures.grown c.self.invariant within c.args.message c.in-Ok.ensures.ok
    ∙ ap (λ (seen : List (List Message)). set seen c.args.replica (get_or seen c.args.replica [] ++ c.args.message ∷ [])) c.self.view_is
