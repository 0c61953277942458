use Rattle.std.proofs.Common.{◌∙◌, arith}
use Rattle.conit_weights.specs.Running.{HoldsAll}
use Rattle.replica_core.proofs.SeenLemmas.{with_one_more}
use Rattle.replica_core.proofs.seen.add_all.Goals as goal

pub loop-write-preserved : goal.loop-write-preserved
loop-write-preserved c =
    let l = c.loop-write in record {
      conits = c.add.ensures.conits ∙ l.invariant.conits;
      held = omega (arith, c.add.ensures.held, l.invariant.held);
      added = λ held of. with_one_more (HoldsAll l.sums) (HoldsAll c.add.new.self) held c.args.writes.now l.write-index c.write-item.result c.loop-write-test.true
          c.write-item.is c.add.ensures.added (l.invariant.added held of);
    }
