use Rattle.run_model.specs.declared.call.Request.TheVariants as request
use Rattle.steady_node.specs.Answered.{IsNoReserving}
use Rattle.steady_node.specs.Lost.{IsCallLost}
use Rattle.steady_node.proofs.Losses.{IsCallLost-reserve, ended_if, if_lost}
use Rattle.steady_node.proofs.Tries.{IsCallLost-later}
use Rattle.steady_node.proofs.asking.reserve_once.Goals as goal

pub returns-in-Ok-came_of-clause-lost : goal.returns-in-Ok-came_of-clause-lost
returns-in-Ok-came_of-clause-lost g c =
    let node = c.args.node.now in
    let asked = request.Reserve c.args.conit c.args.amount in
    let came = c.in-Ok-came_of.came in
    let so = c.in-Ok-came_of.ensures in
    let after = c.came_of.new.session in
    if_lost c.reserving.result (IsNoReserving came c.args.conit c.args.amount) (IsCallLost node asked c.args.session.now after) c.reserving.ensures.other
    (λ none.
    IsCallLost-later node c.args.session.now c.reserve.new.session after c.in-Err.fault c.requires.session.certain c.in-Err.ensures.refused asked
    (IsCallLost-reserve node c.args.conit c.args.amount c.reserve.new.session after c.in-Err.fault came so.failed so.outcome none))

pub returns-in-Ok-came_of-clause-ending : goal.returns-in-Ok-came_of-clause-ending
returns-in-Ok-came_of-clause-ending g c =
    let came = c.in-Ok-came_of.came in
    let so = c.in-Ok-came_of.ensures in
    let after = c.came_of.new.session in
    ended_if c.reserving.result (IsNoReserving came c.args.conit c.args.amount) g.J.Journal.tells c.args.session.now after c.reserving.ensures.other
    (λ none.
    (IsCallLost-reserve c.args.node.now c.args.conit c.args.amount c.reserve.new.session after c.in-Err.fault came so.failed so.outcome none).marked)
