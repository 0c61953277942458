use Rattle.std.proofs.Common.{◌≡◌, arith, sym, ◌∙◌, subst}
use Rattle.run_model.specs.Histories.{part_of, last_moment}
use Rattle.run_model.specs.declared.cause.Cause.TheVariants as cause
use Rattle.run_check.specs.Causes.{IsFirstCause}
use Rattle.run_check.specs.Checking.{short_at}
use Rattle.run_check.proofs.AtReplica.{count_is, last_is}
use Rattle.run_check.proofs.FirstCauses.{full_is_first, moment_is_first}
use Rattle.run_check.proofs.judging.test_time.Goals as goal

pub returns-then-count-ge-HISTORY_MAX-clause-err : goal.returns-then-count-ge-HISTORY_MAX-clause-err
returns-then-count-ge-HISTORY_MAX-clause-err g c =
    let count = count_is g.history c.args.set.now c.requires.0 c.args.at c.requires.1 c.at-replica.result.now.core c.at-replica.ensures in
    λ act. full_is_first c.args.set.now.setup g.history c.args.at act (omega (arith, count, c.count.ensures, c.if-count-ge-HISTORY_MAX.true))

pub returns-then-at-last-clause-err : goal.returns-then-at-last-clause-err
returns-then-at-last-clause-err g c =
    let count = count_is g.history c.args.set.now c.requires.0 c.args.at c.requires.1 c.at-replica.result.now.core c.at-replica.ensures in
    let last = last_is g.history c.args.set.now c.requires.0 c.args.at c.requires.1 c.at-replica.result.now.core c.at-replica.ensures in
    let is : c.last-last.result ≡ last_moment (part_of g.history c.args.at.replica) = c.last-last.ensures ∙ last in
    λ act. subst (λ n. IsFirstCause c.args.set.now.setup g.history (short_at c.args.at act) (cause.Moment c.args.at.moment n)) (sym is)
    (moment_is_first c.args.set.now.setup g.history c.args.at act (omega (arith, count, c.count.ensures, c.if-count-ge-HISTORY_MAX.false)) (omega (arith, is, c.if-at-last.true)))

pub returns-clause-ok : goal.returns-clause-ok
returns-clause-ok g c =
    let count = count_is g.history c.args.set.now c.requires.0 c.args.at c.requires.1 c.at-replica.result.now.core c.at-replica.ensures in
    let last = last_is g.history c.args.set.now c.requires.0 c.args.at c.requires.1 c.at-replica.result.now.core c.at-replica.ensures in
    record {
      room = omega (arith, count, c.count.ensures, c.if-count-ge-HISTORY_MAX.false);
      moment = omega (arith, last, c.last-last.ensures, c.if-at-last.false);
    }
