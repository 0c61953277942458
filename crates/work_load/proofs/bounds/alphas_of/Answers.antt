use Rattle.std.proofs.Common.{◌/◌, ◌%◌, []}
use Rattle.tact_base.proofs.RangeLists.{mapped_more}
use Rattle.work_load.specs.Bounds.{alpha_by, bound_of}
use Rattle.work_load.proofs.bounds.alphas_of.Goals as goal

pub loop-place-preserved : goal.loop-place-preserved
loop-place-preserved c =
    mapped_more (λ place. alpha_by (bound_of c.args.bounds.now (place / c.args.conits) (place % c.args.conits))) c.loop-place.place [] c.loop-place.list
    c.push.new.self c.alpha_in.result c.loop-place.invariant c.in_ok-push.ensures.ok c.alpha_in.ensures
