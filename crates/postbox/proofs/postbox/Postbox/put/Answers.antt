use Rattle.std.proofs.Common.{◌≡◌, subst}
use Rattle.std.proofs.lemmas.Result.{on_err_weaker}
use Rattle.link_faults.specs.Inboxes.{fate_due}
use Rattle.link_faults.specs.declared.plan.Fate.TheVariants.{Doubled}
use Rattle.postbox.specs.Posts.{IsFateBy, PostboxView}
use Rattle.postbox.proofs.Posting.{due-by_plan}
use Rattle.postbox.proofs.postbox.Postbox.put.Goals as goal

pub returns-clause-for_a_copy : goal.returns-clause-for_a_copy
returns-clause-for_a_copy g c =
    let post = c.lock-held.result.1 in
    on_err_weaker {P = fate_due post.inbox ≡ Doubled} {Q = IsFateBy c.args.self.now.plan Doubled} c.put-fate.result
    (λ due. subst (λ (box : PostboxView). IsFateBy box.plan Doubled) c.self.view_is (due-by_plan post _ Doubled c.lock-held.ensures.label due))
    c.put-fate.ensures.for_a_copy
