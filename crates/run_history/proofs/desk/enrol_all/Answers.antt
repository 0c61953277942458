use Rattle.std.proofs.Common.{◌∙◌, ◌+◌, ◌∷◌, [], ap}
use Rattle.run_history.specs.Steps.{part_with}
use Rattle.run_history.proofs.Enrolling.{fresh_clerk_is, fresh_clerks_more}
use Rattle.run_history.proofs.desk.enrol_all.Goals as goal

pub loop-replica-preserved : goal.loop-replica-preserved
loop-replica-preserved c =
    let invariant = c.loop-replica.invariant in
    let table = c.args.table.now.shared.table_id in
    let badge = c.into_badge-badge.ensures in
    let clerk = fresh_clerk_is c.into_badge-badge.result.table_id table c.loop-replica.replica c.into_badge-badge.result.views c.enrol_as.result.me.0
    (badge.0 ∙ (c.enrol_as.ensures.clerk.0 ∙ invariant.0)) badge.2 c.enrol_as.ensures.fresh.0
    (c.enrol_as.ensures.fresh.1 ∙ ap (λ number. part_with number [] ∷ []) invariant.4) in (
      c.enrol_as.ensures.seat.0 ∙ invariant.0,
      c.enrol_as.ensures.opener.0,
      c.enrol_as.ensures.opener.1,
      c.enrol_as.ensures.opener.2,
      c.enrol_as.ensures.enrolled ∙ ap (λ number. number + 1) invariant.4,
      fresh_clerks_more table c.loop-replica.replica c.loop-replica.clerks.items c.push.new.self.items _ invariant.5 c.in_ok-push.ensures.items clerk,
    )
