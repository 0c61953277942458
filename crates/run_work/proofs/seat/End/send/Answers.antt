use Rattle.std.proofs.Common.{ap, arith}
use Rattle.std.proofs.lemmas.Result.{err_from_is_err_and}
use Rattle.replica_lock.specs.Sessions.{SessionView}
use Rattle.run_model.specs.declared.entry.Message.{Message}
use Rattle.run_work.proofs.Leads.{HasGoneOn-lead, HasSeenSending-made, IsKeptStop-lead, lead-of, made_by-lead, made_by-unmarked, unmarked-lead}
use Rattle.run_work.proofs.Settled.{HasStayed-made, HasStayed-told, HasStayed-trans, IsSessionOf-stayed}
use Rattle.run_work.proofs.GoingOn.{IsTold-heard}
use Rattle.run_work.proofs.Stopped.{made-marked}
use Rattle.run_work.proofs.seat.End.send.Goals as goal

pub returns-in-Ok-clause-on : goal.returns-in-Ok-clause-on
returns-in-Ok-clause-on g c =
    let end = c.args.self.now in
    let of = lead-of end c.lead-lead.result c.index_mut-session.result.now c.lead-lead.ensures c.index_mut-session.ensures.value c.args.node.now c.requires.end in
    HasGoneOn-lead end _ _ c.lead-lead.ensures c.index_mut-session.ensures.value c.send.new.session
    (HasStayed-made _ _ _ of.certain _ _ c.in-Ok.ensures.sent.made)

pub returns-in-Ok-clause-made : goal.returns-in-Ok-clause-made
returns-in-Ok-clause-made g c unmarked =
    made_by-lead c.args.self.now _ _ c.lead-lead.ensures c.index_mut-session.ensures.value c.send.new.session 1
    (omega (arith, ap (λ (s : SessionView). s.made) c.in-Ok.ensures.sent.made.counts))

pub returns-in-Ok-clause-sent : goal.returns-in-Ok-clause-sent
returns-in-Ok-clause-sent g c front seen =
    let end = c.args.self.now in
    let made = c.in-Ok.ensures.sent.made in
    let of = lead-of end c.lead-lead.result c.index_mut-session.result.now c.lead-lead.ensures c.index_mut-session.ensures.value c.args.node.now c.requires.end in
    HasSeenSending-made end c.lead-lead.result c.index_mut-session.result.now c.lead-lead.ensures c.index_mut-session.ensures.value
    c.args.node.now.desk.setup c.send.new.session c.moment.result c.in-Ok.parcel.message c.args.node.now.replica c.args.to front made
    (HasStayed-made _ _ _ of.certain _ _ made) of.at.replica
    (ap (λ (m : Message). m.to) c.in-Ok.ensures.sent.message_is)
    seen

pub mend_for-requires-clause-session : goal.mend_for-requires-clause-session
mend_for-requires-clause-session g c =
    let node = c.args.node.now in
    let of = lead-of c.args.self.now c.lead-lead.result c.index_mut-session.result.now c.lead-lead.ensures c.index_mut-session.ensures.value node c.requires.end in
    IsSessionOf-stayed _ _ (HasStayed-told _ _ _ of.certain c.in-Err.fault c.in-Err.ensures.refused) node of

pub mend_for-requires-clause-told : goal.mend_for-requires-clause-told
mend_for-requires-clause-told g c = IsTold-heard _ _ _ c.in-Err.fault c.in-Err.ensures.refused c.in-Err.ensures.fault

pub returns-in_err-mend_for-in-Err-clause-on : goal.returns-in_err-mend_for-in-Err-clause-on
returns-in_err-mend_for-in-Err-clause-on g c =
    let end = c.args.self.now in
    let of = lead-of end c.lead-lead.result c.index_mut-session.result.now c.lead-lead.ensures c.index_mut-session.ensures.value c.args.node.now c.requires.end in
    HasGoneOn-lead end _ _ c.lead-lead.ensures c.index_mut-session.ensures.value c.mend_for.new.session
    (HasStayed-trans _ _ _ (HasStayed-told _ _ _ of.certain c.in-Err.fault c.in-Err.ensures.refused) c.mend_for.ensures.stayed)

pub returns-in_err-mend_for-in-Err-clause-made : goal.returns-in_err-mend_for-in-Err-clause-made
returns-in_err-mend_for-in-Err-clause-made g c =
    made_by-unmarked c.args.self.now _ _ c.lead-lead.ensures c.index_mut-session.ensures.value c.mend_for.new.session 1
    (λ unmarked. omega (arith, c.mend_for.ensures.few unmarked, made-marked _ _ _ c.in-Err.fault c.in-Err.ensures.refused))

pub returns-in_err-mend_for-in-Err-clause-stop : goal.returns-in_err-mend_for-in-Err-clause-stop
returns-in_err-mend_for-in-Err-clause-stop g c =
    let p = err_from_is_err_and c.from_residual.result c.from_residual.ensures.1 in
    rw (p.1, p.2)
    (IsKeptStop-lead c.args.self.now _ _ c.lead-lead.ensures c.index_mut-session.ensures.value _ c.args.node.now.desk c.mend_for.new.session _
    c.in_err-mend_for-in-Err.ensures.stop)

pub returns-in_ok-mend_for-in-Err-clause-on : goal.returns-in_ok-mend_for-in-Err-clause-on
returns-in_ok-mend_for-in-Err-clause-on g c =
    let end = c.args.self.now in
    let of = lead-of end c.lead-lead.result c.index_mut-session.result.now c.lead-lead.ensures c.index_mut-session.ensures.value c.args.node.now c.requires.end in
    HasGoneOn-lead end _ _ c.lead-lead.ensures c.index_mut-session.ensures.value c.mend_for.new.session
    (HasStayed-trans _ _ _ (HasStayed-told _ _ _ of.certain c.in-Err.fault c.in-Err.ensures.refused) c.mend_for.ensures.stayed)

pub returns-in_ok-mend_for-in-Err-clause-made : goal.returns-in_ok-mend_for-in-Err-clause-made
returns-in_ok-mend_for-in-Err-clause-made g c =
    made_by-unmarked c.args.self.now _ _ c.lead-lead.ensures c.index_mut-session.ensures.value c.mend_for.new.session 1
    (λ unmarked. omega (arith, c.mend_for.ensures.few unmarked, made-marked _ _ _ c.in-Err.fault c.in-Err.ensures.refused))

pub returns-in_ok-mend_for-in-Err-clause-none : goal.returns-in_ok-mend_for-in-Err-clause-none
returns-in_ok-mend_for-in-Err-clause-none g c none unmarked =
    c.in_ok-mend_for-in-Err.ensures.marked (unmarked-lead c.args.self.now _ _ c.lead-lead.ensures c.index_mut-session.ensures.value c.mend_for.new.session unmarked)
