use Rattle.std.proofs.Common.{rules, ap, subst}
use Rattle.run_model.specs.Histories.{moment_at}
use Rattle.run_model.specs.declared.call.Request.TheVariants as request
use Rattle.replica_lock.specs.Allowances.{AllowanceView}
use Rattle.replica_lock.specs.Answering.{HasAnswered}
use Rattle.locked_replica.specs.Locks.{part_in}
use Rattle.replica_lock.proofs.Replying.{reserve-waits}
use Rattle.replica_lock.proofs.turn.Turn.reserve.Goals as goal

pub returns-in_default : goal.returns-in_default
returns-in_default g c =
    let locked = c.args.self.now.state in
    let asked = request.Reserve c.args.conit c.args.amount in
    let given = c.in_ok-reply.reply in
    let conit = ap (λ (a : AllowanceView). a.conit) c.empty-granted.ensures.empty in
    let answered = subst (λ session. HasAnswered c.args.self.now c.ask.new.self session c.ask.new.session c.args.moment c.args.conit asked given) c.empty-granted.ensures.session
    (subst (λ at. HasAnswered c.args.self.now c.ask.new.self c.empty-granted.new.session c.ask.new.session c.args.moment at asked given) conit c.in_ok-reply.ensures.answered) in
    record {
      node = c.ask.ensures.node;
      kept = c.ask.ensures.kept;
      seen = c.ask.ensures.seen;
      reserved = (
        answered,
        reserve-waits locked.core.setup locked.core.replica (part_in locked)
            (moment_at (part_in locked) c.args.moment) given c.args.conit c.args.amount answered.due c.in_default.not-Granted,
      );
      refused = tt;
      spare = c.ask.ensures.spare;
      room = c.ask.ensures.room;
      journaled = c.ask.ensures.journaled;
      going = c.in_ok-reply.ensures.going;
      met = tt;
      enough = λ spare room journal told. search rules;
      journal_room = c.ask.ensures.journal_room;
      counts = c.ask.ensures.counts;
    }
