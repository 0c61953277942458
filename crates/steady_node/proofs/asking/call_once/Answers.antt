use Rattle.std.proofs.Common.{◌≢◌, None}
use Rattle.steady_node.specs.Lost.{IsCallLost}
use Rattle.steady_node.specs.Settled.{back_in}
use Rattle.steady_node.proofs.Losses.{IsCallLost-plain, if_lost}
use Rattle.steady_node.proofs.Tries.{IsCallLost-later}
use Rattle.steady_node.proofs.asking.call_once.Goals as goal

pub returns-in_ok-came_of-in-Err-clause-lost : goal.returns-in_ok-came_of-in-Err-clause-lost
returns-in_ok-came_of-in-Err-clause-lost g c =
    let node = c.args.node.now in
    let asked = c.args.asked.now in
    let came = c.in_ok-came_of-in-Err.field-0 in
    let after = c.came_of.new.session in
    if_lost c.plain.result (back_in came ≢ None) (IsCallLost node asked c.args.session.now after) c.plain.ensures.other
    (λ some.
    IsCallLost-later node c.args.session.now c.call.new.session after c.in-Err.fault c.requires.session.certain c.in-Err.ensures.refused asked
    (IsCallLost-plain node asked c.call.new.session after c.in-Err.fault came c.in_ok-came_of-in-Err.ensures.failed c.in_ok-came_of-in-Err.ensures.outcome
    c.requires.plain some))
