use Rattle.std.proofs.Common.{◌≡◌, false, sym, subst, inl, arith}
use Rattle.std.specs.Prelude.{Err, IfErr, Ok, OnOk, Result}
use Rattle.replica_lock.specs.Sessions.{own_calls}
use Rattle.steady_node.specs.declared.ending.Ending.{Ending}
use Rattle.run_work.specs.Serving.{IsObeyed, Owes}
use Rattle.run_work.specs.Trying.{HasBegun, HasTried}
use Rattle.run_work.specs.Working.{WorkerView}
use Rattle.run_work.proofs.Staying.{IsReady-quiet}
use Rattle.run_work.proofs.TryingLoop.{HasBegun-now, HasBegun-try, HasDone-now, HasDone-try, IsHeeded-try, IsObeyed-try, IsSameBut-session, IsTrying-more, IsTrying-start}
use Rattle.run_work.proofs.worker.Worker.do_item.Goals as goal

-- what holds anyway holds where a result is none, and where it is an error, if no call is lost
on_ok : {A E P : Type 0} (answer : Result A E) → P → OnOk answer P
on_ok (Ok given) holds = holds
on_ok (Err fault) holds = tt

if_kept : {A P : Type 0} (answer : Result A Ending) → P → IfErr answer (λ (ending : Ending). ending.lost ≡ false → P)
if_kept (Ok given) holds = tt
if_kept (Err ending) holds = λ kept. holds

pub loop-tried-init : goal.loop-tried-init
loop-tried-init g c = IsTrying-start _ _ c.requires.ready

pub returns-in-Err-clause-begun : goal.returns-in-Err-clause-begun
returns-in-Err-clause-begun g c = λ kept.
    subst (HasBegun c.args.tries c.args.item.now (own_calls c.args.self.now.session)) (sym (c.in-Err.ensures.ending.calls kept))
    (HasBegun-now c.args.item.now c.args.self.now c.loop-tried._tried c.loop-tried.self c.loop-tried.invariant c.args.tries c.loop-tried-test.true)

pub returns-in-Final-clause-done : goal.returns-in-Final-clause-done
returns-in-Final-clause-done g c =
    on_ok c.tend.result
    (HasDone-try c.args.item.now c.args.self.now c.loop-tried._tried c.loop-tried.self c.loop-tried.invariant c.attempt.new.self c.tend.new.self
    (record { is = c.attempt.ensures.same }) (IsSameBut-session _ _ c.tend.ensures.same) c.attempt.ensures.later c.tend.ensures.quiet
    c.args.tries c.loop-tried-test.true
    (subst (λ tried. HasTried c.args.item.now tried (own_calls c.loop-tried.self.session) (own_calls c.attempt.new.self.session)) c.in-Final.is c.in-Ok.ensures.tried))

pub returns-in-Final-clause-begun : goal.returns-in-Final-clause-begun
returns-in-Final-clause-begun g c =
    if_kept c.tend.result
    (inl (HasDone-try c.args.item.now c.args.self.now c.loop-tried._tried c.loop-tried.self c.loop-tried.invariant c.attempt.new.self c.tend.new.self
    (record { is = c.attempt.ensures.same }) (IsSameBut-session _ _ c.tend.ensures.same) c.attempt.ensures.later c.tend.ensures.quiet
    c.args.tries c.loop-tried-test.true
    (subst (λ tried. HasTried c.args.item.now tried (own_calls c.loop-tried.self.session) (own_calls c.attempt.new.self.session)) c.in-Final.is c.in-Ok.ensures.tried)))

pub returns-in-Final-clause-heeded : goal.returns-in-Final-clause-heeded
returns-in-Final-clause-heeded g c =
    on_ok c.tend.result
    (IsHeeded-try c.args.item.now c.args.self.now c.loop-tried._tried c.loop-tried.self c.loop-tried.invariant c.attempt.new.self c.tend.new.self
    (record { is = c.attempt.ensures.same }) (IsSameBut-session _ _ c.tend.ensures.same) c.attempt.ensures.later c.tend.ensures.quiet
    c.loop-tried.self.node.desk.setup
    (subst (λ tried. Owes c.loop-tried.self.node.desk.setup tried c.loop-tried.self.session c.attempt.new.self.session) c.in-Final.is c.in-Ok.ensures.owes))

pub returns-in-Final-clause-obeyed : goal.returns-in-Final-clause-obeyed
returns-in-Final-clause-obeyed g c =
    on_ok c.tend.result
    (subst (λ (w : WorkerView). IsObeyed w.node.desk.setup c.args.item.now c.args.self.now.session c.tend.new.self.session) c.loop-tried.invariant.same.is
    (IsObeyed-try c.args.item.now c.args.self.now c.loop-tried._tried c.loop-tried.self c.loop-tried.invariant c.attempt.new.self c.tend.new.self
    (record { is = c.attempt.ensures.same }) (IsSameBut-session _ _ c.tend.ensures.same) c.attempt.ensures.later c.tend.ensures.quiet
    c.loop-tried.self.node.desk.setup c.in-Ok.ensures.obeyed))

pub returns-in_err-tend-in-Waiting-clause-begun : goal.returns-in_err-tend-in-Waiting-clause-begun
returns-in_err-tend-in-Waiting-clause-begun g c =
    if_kept c.from_residual.result
    (HasBegun-try c.args.item.now c.args.self.now c.loop-tried._tried c.loop-tried.self c.loop-tried.invariant c.attempt.new.self c.tend-in-Waiting.new.self
    (record { is = c.attempt.ensures.same }) (IsSameBut-session _ _ c.tend-in-Waiting.ensures.same) c.attempt.ensures.later c.tend-in-Waiting.ensures.quiet
    c.args.tries c.in-Waiting.wish c.loop-tried-test.true
    (subst (λ tried. HasTried c.args.item.now tried (own_calls c.loop-tried.self.session) (own_calls c.attempt.new.self.session)) c.in-Waiting.is c.in-Ok.ensures.tried))

pub loop-tried-preserved : goal.loop-tried-preserved
loop-tried-preserved g c =
    IsTrying-more c.args.item.now c.args.self.now c.loop-tried._tried c.loop-tried.self c.loop-tried.invariant c.attempt.new.self c.tend-in-Waiting.new.self
    (record { is = c.attempt.ensures.same }) (IsSameBut-session _ _ c.tend-in-Waiting.ensures.same) c.attempt.ensures.later c.tend-in-Waiting.ensures.quiet
    c.loop-tried.self.node.desk.setup c.in-Waiting.wish
    (IsReady-quiet c.attempt.new.self c.tend-in-Waiting.new.self 23 c.tend-in-Waiting.ensures.same c.tend-in-Waiting.ensures.quiet c.in-Ok.ensures.ready)
    (subst (λ tried. HasTried c.args.item.now tried (own_calls c.loop-tried.self.session) (own_calls c.attempt.new.self.session)) c.in-Waiting.is c.in-Ok.ensures.tried)
    (subst (λ tried. Owes c.loop-tried.self.node.desk.setup tried c.loop-tried.self.session c.attempt.new.self.session) c.in-Waiting.is c.in-Ok.ensures.owes)
    c.in_ok-tend-in-Waiting.ensures.sent

pub returns-clause-done : goal.returns-clause-done
returns-clause-done g c =
    HasDone-now c.args.item.now c.args.self.now c.loop-tried._tried c.loop-tried.self c.loop-tried.invariant c.args.tries c.requires.tries
    (omega (arith, c.loop-tried-test.false, c.loop-tried.auto._tried-end))
