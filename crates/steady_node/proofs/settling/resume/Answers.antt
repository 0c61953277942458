use Rattle.steady_node.proofs.Mends.{GoesOn-resumed, HasComeBack-again, nearer-resumed}
use Rattle.steady_node.proofs.settling.resume.Goals as goal

pub returns-in-Ok-clause-on : goal.returns-in-Ok-clause-on
returns-in-Ok-clause-on g c =
    let made = c.in_ok-restart.ensures.made in
    GoesOn-resumed c.args.node.now.desk.setup c.args.session.now c.loop-session.session c.restart.new.session made.0 c.requires.marked c.loop-session.invariant made.1
    c.resume.new.session c.in-Ok.resumed c.in-Ok.ensures.resumed

pub returns-in-Ok-clause-nearer : goal.returns-in-Ok-clause-nearer
returns-in-Ok-clause-nearer g c =
    let made = c.in_ok-restart.ensures.made in
    nearer-resumed c.args.node.now.desk.setup c.args.session.now c.loop-session.session c.restart.new.session made.0 c.requires.marked c.loop-session.invariant made.1
    c.resume.new.session c.in-Ok.resumed c.in-Ok.ensures.resumed

pub returns-in-Ok-clause-back : goal.returns-in-Ok-clause-back
returns-in-Ok-clause-back g c =
    let made = c.in_ok-restart.ensures.made in
    HasComeBack-again c.args.node.now.desk.setup c.args.session.now c.loop-session.session c.restart.new.session made.0 c.requires.marked c.loop-session.invariant made.1
    c.resume.new.session c.in-Ok.resumed c.in-Ok.ensures.resumed c.requires.counted
