use Rattle.std.proofs.Common.{ℕ, List, ◌++◌, refl, sym, ap, ap₂, ◌∙◌, subst}
use Rattle.std.proofs.lemmas.Result.{on_ok_weaker}
use Rattle.tact_base.specs.Setup.{Setup}
use Rattle.std.specs.Result.{OnOk}
use Rattle.run_model.specs.ScriptRuns.{Played, line_comment, passes}
use Rattle.run_model.specs.declared.call.Request.TheVariants as request
use Rattle.run_model.specs.declared.script_line.Line.{Line}
use Rattle.run_model.specs.declared.script_line.Line.TheVariants as line
use Rattle.script_run.specs.Stages.{Enters, Steps, asked_by, setup_in}
use Rattle.script_run.proofs.Stepping.{enters_twice, steps_by_entries, steps_by_comment}
use Rattle.script_run.proofs.stage.Stage.step.Goals as goal

pub returns-in_ok-pass-in-Sync-clause-steps : goal.returns-in_ok-pass-in-Sync-clause-steps
returns-in_ok-pass-in-Sync-clause-steps g c =
    let old = c.args.self.now in
    let mid = c.pass.new.self in
    let one = c.in_ok-pass-in-Sync.ensures.enters in
    subst (λ (l : Line). OnOk c.pass-in-Sync.result (Steps old c.pass-in-Sync.new.self l c.args.out.now c.pass-in-Sync.new.out)) (sym c.in-Sync.is)
    (on_ok_weaker c.pass-in-Sync.result
    (λ two. steps_by_entries old c.pass-in-Sync.new.self (line.Sync c.in-Sync.first c.in-Sync.second) c.args.out.now c.pass-in-Sync.new.out refl
    (subst (λ (p : Played). Enters old c.pass-in-Sync.new.self p c.args.out.now c.pass-in-Sync.new.out)
    (ap₂ (λ (s : Setup) (p : Played). passes s p c.in-Sync.second c.in-Sync.first) one.goes.setup one.goes.played)
    (enters_twice old mid c.pass-in-Sync.new.self _ _ c.args.out.now c.pass.new.out c.pass-in-Sync.new.out one two)))
    c.pass-in-Sync.ensures.enters)

pub returns-in-Show-clause-steps : goal.returns-in-Show-clause-steps
returns-in-Show-clause-steps g c =
    let old = c.args.self.now in
    subst (λ (l : Line). OnOk c.show.result (Steps old old l c.args.out.now c.show.new.out)) (sym c.in-Show.is)
    (on_ok_weaker c.show.result
    (λ told. steps_by_comment old old (line.Show c.in-Show.replica) c.args.out.now c.show.new.out refl
    (record { keeps = c.requires.keeps; setup = refl; played = refl; prints = refl })
    (λ prints. told ∙ ap (λ (front : List ℕ). front ++ line_comment (setup_in old) old.history.items (line.Show c.in-Show.replica)) c.out.view_is))
    c.show.ensures.ok)

pub returns-in-Ref-clause-steps : goal.returns-in-Ref-clause-steps
returns-in-Ref-clause-steps g c =
    let old = c.args.self.now in
    subst (λ (l : Line). OnOk c.tell_reference.result (Steps old old l c.args.out.now c.tell_reference.new.out)) (sym c.in-Ref.is)
    (on_ok_weaker c.tell_reference.result
    (λ told. steps_by_comment old old (line.Ref c.in-Ref.conit) c.args.out.now c.tell_reference.new.out refl
    (record { keeps = c.requires.keeps; setup = refl; played = refl; prints = refl })
    (λ prints. told prints ∙ ap (λ (front : List ℕ). front ++ line_comment (setup_in old) old.history.items (line.Ref c.in-Ref.conit)) c.out-in-Ref.view_is))
    c.tell_reference.ensures)

pub call-requires-clause-asks : goal.call-requires-clause-asks
call-requires-clause-asks g c = (request.Write c.in-Write.weights c.in-Write.op, ap asked_by c.in-Write.is)

pub call-requires-in-Held-clause-asks : goal.call-requires-in-Held-clause-asks
call-requires-in-Held-clause-asks g c = (request.Held c.in-Held.weight c.in-Held.op, ap asked_by c.in-Held.is)

pub call-requires-in-Reserve-clause-asks : goal.call-requires-in-Reserve-clause-asks
call-requires-in-Reserve-clause-asks g c = (request.Reserve c.in-Reserve.conit c.in-Reserve.amount, ap asked_by c.in-Reserve.is)

pub call-requires-in-Release-clause-asks : goal.call-requires-in-Release-clause-asks
call-requires-in-Release-clause-asks g c = (request.Release c.in-Release.conit c.in-Release.amount, ap asked_by c.in-Release.is)

pub call-requires-in-Read-clause-asks : goal.call-requires-in-Read-clause-asks
call-requires-in-Read-clause-asks g c = (request.Read c.in-Read.key c.in-Read.needs, ap asked_by c.in-Read.is)
