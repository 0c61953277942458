use Rattle.tact_top.specs.DrillText.{shown_line}
use Rattle.tact_top.proofs.DrillLemmas.{shown_more}
use Rattle.tact_top.proofs.drilling.put_replicas.Goals as goal

pub loop-replica-preserved : goal.loop-replica-preserved
loop-replica-preserved c =
    let l = c.loop-replica in
    let ended = c.args.outcome.now in
    shown_more (shown_line ended.setup ended.history) l.replica c.args.out.now l.out c.put_replica.new.out l.invariant c.in_ok-put_replica.ensures
