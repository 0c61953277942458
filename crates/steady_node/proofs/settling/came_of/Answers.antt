use Rattle.std.proofs.Common.{refl, inl}
use Rattle.replica_lock.specs.Sessions.{NodeView}
use Rattle.steady_node.specs.Lost.{IsCallLost, IsDueBack}
use Rattle.steady_node.proofs.Losses.{IsCallLost-told, if_lost}
use Rattle.steady_node.proofs.Mends.{only-halted}
use Rattle.steady_node.proofs.settling.came_of.Goals as goal

pub returns-in_ok-mend-clause-failed : goal.returns-in_ok-mend-clause-failed
returns-in_ok-mend-clause-failed g c = inl (only-halted c.args.fault c.in_default.not-JournalFault c.in_ok-mend.ensures.halted refl)

pub returns-in_ok-resumed-clause-cause : goal.returns-in_ok-resumed-clause-cause
returns-in_ok-resumed-clause-cause g c =
    let asked = c.args.asked.now in
    let told = c.in_ok-resumed.resumed in
    if_lost c.as_asked.result ((any : NodeView) → IsDueBack any asked told → ⊥) (IsCallLost c.args.node.now asked c.args.session.now c.resume.new.session) c.as_asked.ensures.other
    (IsCallLost-told c.args.node.now asked c.args.session.now c.resume.new.session told c.in_ok-resumed.ensures.marked c.in_ok-resumed.ensures.back)
