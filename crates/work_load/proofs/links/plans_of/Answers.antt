use Rattle.std.proofs.Common.{eqb, [], ap, arith, length, ◌∙◌}
use Rattle.std.specs.Prelude.{find}
use Rattle.std.proofs.lemmas.List.FromFn.{length-map-range_with_len}
use Rattle.tact_base.proofs.RangeLists.{mapped_more}
use Rattle.work_load.specs.Links.{plan_by}
use Rattle.work_load.proofs.links.plans_of.Goals as goal

pub loop-to-preserved : goal.loop-to-preserved
loop-to-preserved c =
    mapped_more (λ to. plan_by (find (λ link. eqb link.to to) c.args.links.now)) c.loop-to.to [] c.loop-to.plans
    c.push.new.self c.plan_of.result c.loop-to.invariant c.in_ok-push.ensures.ok c.plan_of.ensures

pub returns-clause-length : goal.returns-clause-length
returns-clause-length c =
    ap length c.loop-to.invariant
    ∙ length-map-range_with_len (λ to. plan_by (find (λ link. eqb link.to to) c.args.links.now)) 0 c.loop-to.to ∙ omega arith
