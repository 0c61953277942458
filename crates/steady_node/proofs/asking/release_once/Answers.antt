use Rattle.std.proofs.Common.{◌≡◌, ℕ, Some, refl, sym, subst, subst₂, arith}
use Rattle.run_model.specs.declared.call.Reply.TheVariants as reply
use Rattle.run_model.specs.declared.call.Request.TheVariants as request
use Rattle.replica_lock.specs.Allowances.{lost_with}
use Rattle.steady_node.specs.Answered.{IsOtherThan, IsTried}
use Rattle.steady_node.specs.Lost.{IsCallLost, IsReleased}
use Rattle.steady_node.proofs.Losses.{IsCallLost-answered, IsCallLost-taken, always_lost, if_lost}
use Rattle.steady_node.proofs.Tries.{IsCallLost-later, IsTried-taken, tried_if}
use Rattle.steady_node.proofs.asking.release_once.Goals as goal

pub returns-in_ok-taken-in-Err-clause-tried : goal.returns-in_ok-taken-in-Err-clause-tried
returns-in_ok-taken-in-Err-clause-tried g c =
    let came = c.in-Ok-came_of.ensures in
    let was = c.args.allowance.now in
    tried_if c.args.node.now (request.Release was.conit was.amount) c.args.session.now c.came_of.new.session (λ (amount : ℕ). reply.Released) c.released.result
    c.in_ok-taken-in-Err.field-0 c.released.ensures.same
    (subst₂ (λ (conit amount : ℕ). IsTried c.args.node.now (request.Release conit amount) c.args.session.now c.came_of.new.session c.in_ok-taken-in-Err.field-0)
    c.conit.ensures c.amount-whole.ensures
    (IsTried-taken c.args.node.now c.args.session.now c.release.new.session c.came_of.new.session c.in-Err.fault c.requires.session.certain c.in-Err.ensures.refused
    (request.Release c.conit.result c.amount-whole.result) came.marked came.certain came.nearer c.in-Ok-came_of.came c.release.new.allowance c.taken.new.allowance
    c.amount-whole.result 0 c.in_ok-taken-in-Err.field-0 came.outcome c.in_ok-taken-in-Err.ensures.taken))

pub returns-in_err-taken-in-Err-clause-lost : goal.returns-in_err-taken-in-Err-clause-lost
returns-in_err-taken-in-Err-clause-lost g c =
    let node = c.args.node.now in
    let asked = request.Release c.conit.result c.amount-whole.result in
    let was = c.args.allowance.now in
    let hand = c.release.new.allowance in
    let came = c.in-Ok-came_of.ensures in
    let after = c.came_of.new.session in
    always_lost c.from_residual.result (IsCallLost node (request.Release was.conit was.amount) c.args.session.now after)
    (subst₂ (λ (conit amount : ℕ). IsCallLost node (request.Release conit amount) c.args.session.now after) c.conit.ensures c.amount-whole.ensures
    (IsCallLost-later node c.args.session.now c.release.new.session after c.in-Err.fault c.requires.session.certain c.in-Err.ensures.refused asked
    (IsCallLost-taken node asked c.release.new.session after c.in-Err.fault c.in-Ok-came_of.came came.failed came.outcome was hand c.amount-whole.result
    c.amount-whole.result 0 refl (λ given. refl) c.conit.ensures c.amount-whole.ensures (omega arith) (omega arith)
    (subst (λ (size : ℕ). hand ≡ lost_with (Some size) c.in-Err.fault was) (sym c.amount-whole.ensures) c.in-Err.ensures.left)
    c.in_err-taken-in-Err.ensures.other.1)))

pub returns-in_ok-taken-in-Err-clause-lost : goal.returns-in_ok-taken-in-Err-clause-lost
returns-in_ok-taken-in-Err-clause-lost g c =
    let node = c.args.node.now in
    let asked = request.Release c.conit.result c.amount-whole.result in
    let was = c.args.allowance.now in
    let came = c.in-Ok-came_of.ensures in
    let tried = c.in_ok-taken-in-Err.field-0 in
    let after = c.came_of.new.session in
    if_lost c.released.result (IsOtherThan IsReleased tried) (IsCallLost node (request.Release was.conit was.amount) c.args.session.now after)
    c.released.ensures.other
    (λ not.
    subst₂ (λ (conit amount : ℕ). IsCallLost node (request.Release conit amount) c.args.session.now after) c.conit.ensures c.amount-whole.ensures
    (IsCallLost-later node c.args.session.now c.release.new.session after c.in-Err.fault c.requires.session.certain c.in-Err.ensures.refused asked
    (IsCallLost-answered node asked c.release.new.session after c.in-Err.fault c.in-Ok-came_of.came came.failed came.outcome c.release.new.allowance
    c.taken.new.allowance c.amount-whole.result 0 tried c.in_ok-taken-in-Err.ensures.taken not)))
