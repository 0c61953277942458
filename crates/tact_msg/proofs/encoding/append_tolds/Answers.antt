use Rattle.tact_msg.proofs.Loops.{told_more}
use Rattle.tact_msg.proofs.encoding.append_tolds.Goals as goal

pub loop-origin-preserved : goal.loop-origin-preserved
loop-origin-preserved c =
    told_more c.args.message.now c.loop-origin.origin c.args.out.now c.loop-origin.out c.append_told.new.out c.told_of.result
    c.loop-origin.invariant c.told_of.ensures.told c.in_ok-append_told.ensures.ok
