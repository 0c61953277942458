use Rattle.std.proofs.Common.{cond, eqb}
use Rattle.tact_base.proofs.RangeLists.{mapped_more}
use Rattle.script_text.proofs.setups.push_row.Goals as goal

pub loop-holder-preserved : goal.loop-holder-preserved
loop-holder-preserved c =
    mapped_more (λ holder. cond (eqb holder c.args.owner) 0 c.args.loan) c.loop-holder.holder c.args.list.now c.loop-holder.list
    c.push.new.self c.loan_to.result c.loop-holder.invariant c.in_ok-push.ensures.ok c.loan_to.ensures
