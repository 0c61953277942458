use Rattle.std.proofs.Common.{[], ◌∙◌, get_or, arith}
use Rattle.primary_commit.proofs.TakingLemmas.{log_after-step}
use Rattle.primary_commit.proofs.taking.add_items.Goals as goal

pub loop-item-preserved : goal.loop-item-preserved
loop-item-preserved c =
    let held = c.loop-item.invariant in
    record {
      sized = c.add.ensures.sized ∙ held.sized;
      room = omega (arith, held.room, c.add.ensures.room);
      logs = λ firsts next origin within.
          log_after-step firsts c.args.items.now next c.loop-item.item-index _ c.loop-item-test.true origin (get_or c.args.logs.now.logs origin [])
          (get_or c.loop-item.logs.logs origin []) (get_or c.add.new.logs.logs origin []) (held.logs firsts next origin within)
          (c.add.ensures.logs origin (omega (arith, within, held.sized)));
    }
