use Rattle.std.proofs.Common.{◌≡◌, ◌-◌, FitsSigned, w64, refl, arith, rules}
use Rattle.std.specs.Prelude.{unsigned_abs}
use Rattle.std.proofs.lemmas.Int.{to_z-of_z}
use Rattle.run_model.specs.declared.call.Reply.TheVariants as reply
use Rattle.run_model.specs.declared.call.Request.TheVariants as request
use Rattle.replica_lock.specs.declared.reserving.Accepted.{Accepted}
use Rattle.steady_node.specs.Answered.{IsOtherThan}
use Rattle.steady_node.specs.Lost.{IsCallLost, IsDone}
use Rattle.steady_node.proofs.Losses.{IsCallLost-answered, IsCallLost-taken, always_lost, if_lost}
use Rattle.steady_node.proofs.Tries.{GoesOn-later, IsCallLost-later, IsTried-taken, tried_if}
use Rattle.steady_node.proofs.asking.held_once.Goals as goal

pub returns-in_ok-taken-in-Err-clause-tried : goal.returns-in_ok-taken-in-Err-clause-tried
returns-in_ok-taken-in-Err-clause-tried g c =
    let came = c.in-Ok-came_of.ensures in
    tried_if c.args.node.now (request.Held c.args.weight c.args.op) c.args.session.now c.came_of.new.session (λ (accepted : Accepted). reply.Done accepted.index accepted.stamp) c.accepted.result c.in_ok-taken-in-Err.field-0 c.accepted.ensures.same
    (IsTried-taken c.args.node.now c.args.session.now c.write_held.new.session c.came_of.new.session c.in-Err.fault c.requires.session.certain c.in-Err.ensures.refused
    (request.Held c.args.weight c.args.op) came.marked came.certain came.nearer c.in-Ok-came_of.came c.write_held.new.allowance c.taken.new.allowance c.amount-whole.result (c.amount-whole.result - c.unsigned_abs.result) c.in_ok-taken-in-Err.field-0
    came.outcome c.in_ok-taken-in-Err.ensures.taken)

pub returns-in-Err-came_of-clause-on : goal.returns-in-Err-came_of-clause-on
returns-in-Err-came_of-clause-on g c =
    GoesOn-later c.args.node.now c.args.session.now c.write_held.new.session c.came_of.new.session c.in-Err.fault c.requires.session.certain c.in-Err.ensures.refused
    c.came_of.ensures.on

pub returns-in_err-taken-in-Err-clause-on : goal.returns-in_err-taken-in-Err-clause-on
returns-in_err-taken-in-Err-clause-on g c =
    GoesOn-later c.args.node.now c.args.session.now c.write_held.new.session c.came_of.new.session c.in-Err.fault c.requires.session.certain c.in-Err.ensures.refused
    c.came_of.ensures.on

pub returns-in_ok-taken-in-Err-clause-on : goal.returns-in_ok-taken-in-Err-clause-on
returns-in_ok-taken-in-Err-clause-on g c =
    GoesOn-later c.args.node.now c.args.session.now c.write_held.new.session c.came_of.new.session c.in-Err.fault c.requires.session.certain c.in-Err.ensures.refused
    c.came_of.ensures.on

pub returns-in_err-taken-in-Err-clause-lost : goal.returns-in_err-taken-in-Err-clause-lost
returns-in_err-taken-in-Err-clause-lost g c =
    let node = c.args.node.now in
    let asked = request.Held c.args.weight c.args.op in
    let was = c.args.allowance.now in
    let came = c.in-Ok-came_of.ensures in
    let after = c.came_of.new.session in
    let fits : FitsSigned w64 c.args.weight.nweight = search rules in
    let spent : c.unsigned_abs.result ≡ unsigned_abs c.args.weight.nweight = simp to_z-of_z at c.unsigned_abs.ensures.value in
    always_lost c.from_residual.result (IsCallLost node asked c.args.session.now after)
    (IsCallLost-later node c.args.session.now c.write_held.new.session after c.in-Err.fault c.requires.session.certain c.in-Err.ensures.refused asked
    (IsCallLost-taken node asked c.write_held.new.session after c.in-Err.fault c.in-Ok-came_of.came came.failed came.outcome was c.write_held.new.allowance
    (unsigned_abs c.args.weight.nweight) c.amount-whole.result (c.amount-whole.result - c.unsigned_abs.result) refl (λ given. refl) c.requires.conit
    c.amount-whole.ensures c.requires.size (omega (arith, spent)) c.in-Err.ensures.left c.in_err-taken-in-Err.ensures.other.1))

pub returns-in_ok-taken-in-Err-clause-lost : goal.returns-in_ok-taken-in-Err-clause-lost
returns-in_ok-taken-in-Err-clause-lost g c =
    let node = c.args.node.now in
    let asked = request.Held c.args.weight c.args.op in
    let came = c.in-Ok-came_of.ensures in
    let tried = c.in_ok-taken-in-Err.field-0 in
    let after = c.came_of.new.session in
    if_lost c.accepted.result (IsOtherThan IsDone tried) (IsCallLost node asked c.args.session.now after) c.accepted.ensures.other
    (λ not.
    IsCallLost-later node c.args.session.now c.write_held.new.session after c.in-Err.fault c.requires.session.certain c.in-Err.ensures.refused asked
    (IsCallLost-answered node asked c.write_held.new.session after c.in-Err.fault c.in-Ok-came_of.came came.failed came.outcome c.write_held.new.allowance
    c.taken.new.allowance c.amount-whole.result (c.amount-whole.result - c.unsigned_abs.result) tried c.in_ok-taken-in-Err.ensures.taken not))
