use Rattle.std.proofs.Common.{◌≡◌, ℕ, ◌-◌, List, ◌++◌, take, drop, sym, subst, ap, ap₂, ◌∙◌}
use Rattle.std.proofs.lemmas.List.{map-append, take-append-drop}
use Rattle.tact_base.specs.Images.{ops_of}
use Rattle.tact_base.specs.WriteOrder.{tentative_past}
use Rattle.tact_base.specs.declared.write.Op.{Op}
use Rattle.tact_base.specs.declared.write.Write.{Write}
use Rattle.rollback_apply.specs.Image.{AreJoined}
use Rattle.replica_core.proofs.ImageSteps.{op_of}
use Rattle.replica_core.proofs.seen.follow.Goals as goal

-- The front and what lies behind it are all the operations.
whole : (ops : List Op) (late rest : List Write) (front count place : ℕ)
    → take front ops ≡ ops_of (take front late)
    → rest ≡ drop (place - count) late
    → place - count ≡ front
    → take front ops ++ ops_of rest ≡ ops_of late
whole ops late rest front count place stays is at =
    ap₂ (λ (before after : List Op). before ++ after) stays (ap ops_of (is ∙ ap (λ n. drop n late) at))
    ∙ sym (map-append op_of (take front late) (drop front late)) ∙ ap ops_of (take-append-drop front late)

pub insert_all-requires-clause-joined : goal.insert_all-requires-clause-joined
insert_all-requires-clause-joined c =
    let late = tentative_past c.args.ordered.now.point c.args.ordered.now.writes in
    let image = c.args.image.now in
    subst (AreJoined image.ops (ops_of c.args.new.now))
    (sym (whole image.ops late c.tentative_from.result.now (c.args.place - image.committed) _ c.args.place c.requires.stays
    c.tentative_from.ensures (ap (λ n. c.args.place - n) (sym c.requires.committed))))
    c.requires.joined

pub returns-else-new-eq1-clause-ops : goal.returns-else-new-eq1-clause-ops
returns-else-new-eq1-clause-ops c =
    let late = tentative_past c.args.ordered.now.point c.args.ordered.now.writes in
    let image = c.args.image.now in
    c.insert_all.ensures.ops
    ∙ whole image.ops late c.tentative_from.result.now (c.args.place - image.committed) _ c.args.place c.requires.stays
    c.tentative_from.ensures (ap (λ n. c.args.place - n) (sym c.requires.committed))
