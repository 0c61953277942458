use Rattle.std.proofs.Common.{subst, sym}
use Rattle.run_model.specs.Bytes.{AreWeightsOf}
use Rattle.run_record.specs.Splitting.{tokens}
use Rattle.run_record.proofs.ItemLemmas.{weights_are_good, weights_not_refused}
use Rattle.run_record.proofs.lists.some_weights_at.Goals as goal

pub unreachable-requires : goal.unreachable-requires
unreachable-requires c =
    weights_not_refused c.args.conits c.requires c.args.end (tokens c.args.rest.now) _ c.in-Err.field-0 c.in_ok-count.ensures.read c.in-Err.ensures

pub returns-clause-within : goal.returns-clause-within
returns-clause-within c =
    subst (AreWeightsOf c.args.conits) (sym c.in-Ok.ensures.1)
    (weights_are_good c.args.conits c.requires c.args.end (tokens c.args.rest.now) _ c.in_ok-count.ensures.read)
