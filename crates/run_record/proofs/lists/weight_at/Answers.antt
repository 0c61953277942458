use Rattle.run_model.proofs.WeightBytes.{limits_hold}
use Rattle.run_record.specs.Splitting.{tokens}
use Rattle.run_record.proofs.ItemLemmas.{weight_at-item}
use Rattle.run_record.proofs.lists.weight_at.Goals as goal

pub returns-clause-conit : goal.returns-clause-conit
returns-clause-conit c = (weight_at-item c.args.conits c.requires 0 (tokens c.args.rest.now) _ c.in_ok-weight.ensures.exact).below

pub returns-clause-nweight : goal.returns-clause-nweight
returns-clause-nweight c = (limits_hold _ _ (weight_at-item c.args.conits c.requires 0 (tokens c.args.rest.now) _ c.in_ok-weight.ensures.exact).limits).0

pub returns-clause-oweight : goal.returns-clause-oweight
returns-clause-oweight c = (limits_hold _ _ (weight_at-item c.args.conits c.requires 0 (tokens c.args.rest.now) _ c.in_ok-weight.ensures.exact).limits).1
