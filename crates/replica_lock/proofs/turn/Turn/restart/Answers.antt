use Rattle.std.proofs.Common.{◌∙◌, subst, arith}
use Rattle.std.proofs.lemmas.Result.{IfErr-weaker, on_ok_weaker}
use Rattle.run_model.specs.declared.entry.Act.TheVariants as act
use Rattle.locked_replica.specs.declared.fault.RestartFault.{RestartFault}
use Rattle.replica_lock.specs.Restarts.{HasBegun, HasRestarted}
use Rattle.replica_lock.specs.Sessions.{HasHeard, HasMade, NodeView, marked_restart}
use Rattle.replica_lock.proofs.Anew.{begun_heard, heard_twice, made_heard}
use Rattle.replica_lock.proofs.Hearing.{marking_restart}
use Rattle.replica_lock.proofs.turn.Turn.restart.Goals as goal

pub returns-clause-begun : goal.returns-clause-begun
returns-clause-begun g c =
    on_ok_weaker c.begin.result
    (λ (begun : HasBegun c.recover.new.self c.begin.new.self c.recover.new.session c.args.moment).
    let restarted : HasRestarted c.args.self.now c.begin.new.self c.args.session.now c.args.moment =
    record { between = c.recover.new.self; found = c.in_ok-recover.ensures.found; begun = begun_heard c.in_ok-recover.ensures.heard c.args.moment begun } in
    restarted)
    c.begin.ensures.begun

pub returns-clause-restarted : goal.returns-clause-restarted
returns-clause-restarted g c =
    on_ok_weaker c.begin.result
    (λ (made : HasMade c.recover.new.self.node.desk.setup c.recover.new.session c.begin.new.session c.args.moment act.Restart).
    made_heard c.in_ok-recover.ensures.heard c.args.moment act.Restart
    (subst (λ (n : NodeView). HasMade n.desk.setup c.recover.new.session c.begin.new.session c.args.moment act.Restart) c.recover.ensures.node made))
    c.begin.ensures.restarted

pub returns-clause-refused : goal.returns-clause-refused
returns-clause-refused g c =
    IfErr-weaker c.begin.result
    (λ (told : RestartFault). HasHeard c.recover.new.self.node.desk.setup c.recover.new.session (marked_restart told c.recover.new.session) c.begin.new.session)
    (λ (told : RestartFault). HasHeard c.args.self.now.node.desk.setup c.args.session.now (marked_restart told c.args.session.now) c.begin.new.session)
    (λ (told : RestartFault) (heard : HasHeard c.recover.new.self.node.desk.setup c.recover.new.session (marked_restart told c.recover.new.session) c.begin.new.session).
    heard_twice c.in_ok-recover.ensures.heard (marked_restart told) (marking_restart told)
    (subst (λ (n : NodeView). HasHeard n.desk.setup c.recover.new.session (marked_restart told c.recover.new.session) c.begin.new.session) c.recover.ensures.node heard))
    c.begin.ensures.refused

pub returns-clause-counts : goal.returns-clause-counts
returns-clause-counts g c =
    (c.begin.ensures.counts.0 ∙ c.recover.ensures.counts.0, omega (arith, c.recover.ensures.counts.1, c.begin.ensures.counts.1))
