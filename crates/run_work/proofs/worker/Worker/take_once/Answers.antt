use Rattle.std.proofs.Common.{◌≡◌, false, sym, subst}
use Rattle.std.proofs.lemmas.Result.{err_from_is_err_and}
use Rattle.postbox.specs.Posts.{IsFor}
use Rattle.replica_lock.specs.Sessions.{HasHeard, IsSessionOf, marked_by}
use Rattle.run_work.specs.Working.{WorkerView}
use Rattle.steady_node.proofs.Goings.{GoesOn-made, GoesOn-trans}
use Rattle.run_work.proofs.GoingOn.{GoesOn-heard, IsQuiet-heard, IsQuiet-made, IsQuiet-mended, IsSessionOf-quiet, IsTold-heard, left-mended}
use Rattle.run_work.proofs.Staying.{IsWorker-on}
use Rattle.run_work.proofs.worker.Worker.take_once.Goals as goal

pub invariant_of-self : goal.invariant_of-self
invariant_of-self g c = IsWorker-on _ _ c.self.invariant 1 _ (GoesOn-made _ _ _ _ _ c.in-Ok.ensures.taken) _

pub mend-requires-clause-session : goal.mend-requires-clause-session
mend-requires-clause-session g c =
    let of = subst (λ (w : WorkerView). IsSessionOf w.node w.session) (sym c.self.view_is) c.requires.session in
    IsSessionOf-quiet _ 0 _ _ (IsQuiet-heard _ _ _ of.certain 0 c.in-Err.field-0.fault c.in-Err.ensures.refused) of

pub mend-requires-clause-told : goal.mend-requires-clause-told
mend-requires-clause-told g c = IsTold-heard _ _ _ c.in-Err.field-0.fault c.in-Err.ensures.refused c.in-Err.ensures.fault_seen

pub invariant_of-self-in_err-mend-in-Err : goal.invariant_of-self-in_err-mend-in-Err
invariant_of-self-in_err-mend-in-Err g c =
    IsWorker-on _ _ c.self.invariant 1 _ (GoesOn-trans 0 1 _ _ _ (GoesOn-heard _ _ _ 0 c.in-Err.field-0.fault c.in-Err.ensures.refused) c.mend.ensures.on) _

pub invariant_of-self-in-Err : goal.invariant_of-self-in-Err
invariant_of-self-in-Err g c =
    IsWorker-on _ _ c.self.invariant 1 _ (GoesOn-trans 0 1 _ _ _ (GoesOn-heard _ _ _ 0 c.in-Err.field-0.fault c.in-Err.ensures.refused) c.mend.ensures.on) _

pub returns-in_err-mend-in-Err-clause-quiet : goal.returns-in_err-mend-in-Err-clause-quiet
returns-in_err-mend-in-Err-clause-quiet g c =
    let certain : c.self.inside.session.doubt ≡ false = subst (λ (w : WorkerView). w.session.doubt ≡ false) (sym c.self.view_is) c.requires.session.certain in
    rw (← c.self.view_is)
    (IsQuiet-mended _ _ _ _ c.in-Err.field-0.fault certain c.in-Err.ensures.refused c.mend.ensures.on c.mend.ensures.calls c.mend.ensures.session.certain)

pub returns-in-Ok-clause-quiet : goal.returns-in-Ok-clause-quiet
returns-in-Ok-clause-quiet g c =
    let certain : c.self.inside.session.doubt ≡ false = subst (λ (w : WorkerView). w.session.doubt ≡ false) (sym c.self.view_is) c.requires.session.certain in
    rw (← c.self.view_is) (IsQuiet-made _ _ _ certain _ _ c.in-Ok.ensures.taken)

pub returns-in_ok-mend-in-Err-clause-quiet : goal.returns-in_ok-mend-in-Err-clause-quiet
returns-in_ok-mend-in-Err-clause-quiet g c =
    let certain : c.self.inside.session.doubt ≡ false = subst (λ (w : WorkerView). w.session.doubt ≡ false) (sym c.self.view_is) c.requires.session.certain in
    rw (← c.self.view_is)
    (IsQuiet-mended _ _ _ _ c.in-Err.field-0.fault certain c.in-Err.ensures.refused c.mend.ensures.on c.mend.ensures.calls c.mend.ensures.session.certain)

pub returns-in_ok-mend-in-Err-clause-taking : goal.returns-in_ok-mend-in-Err-clause-taking
returns-in_ok-mend-in-Err-clause-taking g c =
    let node = c.args.self.now.node in
    let setup = c.turn-turn.result.node.desk.setup in
    let before = c.self.inside.session in
    let heard : HasHeard setup before (marked_by c.in-Err.field-0.fault before) c.take-taken.new.session = c.in-Err.ensures.refused in (
      subst (IsFor node.desk.table node.replica) (sym c.in-Err.ensures.back) c.requires.parcel,
      c.in_ok-mend-in-Err.ensures.marked,
      rw (← c.self.view_is) (left-mended setup before c.take-taken.new.session c.mend.new.session c.in-Err.field-0.fault heard c.in_ok-mend-in-Err.ensures.nearer),
    )

pub returns-in_err-mend-in-Err-clause-ending : goal.returns-in_err-mend-in-Err-clause-ending
returns-in_err-mend-in-Err-clause-ending g c =
    let given = err_from_is_err_and c.from_residual.result c.from_residual.ensures.1 in
    rw (given.1, given.2) (c.in_err-mend-in-Err.ensures.ending.cause, c.in_err-mend-in-Err.ensures.kept)
