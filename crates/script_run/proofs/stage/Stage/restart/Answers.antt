use Rattle.std.proofs.Common.{ℕ, refl, ap}
use Rattle.std.proofs.lemmas.Result.{on_ok_weaker}
use Rattle.run_model.specs.declared.entry.Act.TheVariants as act
use Rattle.run_model.specs.declared.entry.Entry.{Entry}
use Rattle.script_run.specs.declared.stage.Stage.{Stage}
use Rattle.script_run.proofs.Entering.{is_made_quiet, enters_alone}
use Rattle.script_run.proofs.stage.Stage.restart.Goals as goal

pub enter-requires-clause-made : goal.enter-requires-clause-made
enter-requires-clause-made g c =
    let mid : Stage = record c.args.self.now { set = c.restart.new.self } in
    let entry : Entry = record { replica = c.args.replica; moment = c.moment_of-moment.result; act = act.Restart } in
    is_made_quiet c.args.self.now c.requires.keeps c.args.replica c.requires.replica c.restart.new.self c.restart.ensures.setup (λ part. act.Restart) c.in-Ok.ensures.goes_on entry
    (ap (λ (moment : ℕ). let e : Entry = record { replica = c.args.replica; moment = moment; act = act.Restart } in e) c.moment_of-moment.ensures) tt mid refl refl refl refl refl

pub returns-clause-enters : goal.returns-clause-enters
returns-clause-enters g c =
    let mid : Stage = record c.args.self.now { set = c.restart.new.self } in
    let entry : Entry = record { replica = c.args.replica; moment = c.moment_of-moment.result; act = act.Restart } in
    on_ok_weaker c.enter.result (λ entered. enters_alone c.args.self.now mid c.enter.new.self c.requires.keeps entry c.args.out.now c.enter.new.out c.args.replica (λ part moment. act.Restart)
    c.restart.ensures.setup refl refl (ap (λ (moment : ℕ). let e : Entry = record { replica = c.args.replica; moment = moment; act = act.Restart } in e) c.moment_of-moment.ensures)
    (is_made_quiet c.args.self.now c.requires.keeps c.args.replica c.requires.replica c.restart.new.self c.restart.ensures.setup (λ part. act.Restart) c.in-Ok.ensures.goes_on entry
    (ap (λ (moment : ℕ). let e : Entry = record { replica = c.args.replica; moment = moment; act = act.Restart } in e) c.moment_of-moment.ensures) tt mid
    refl refl refl refl refl) entered) c.enter.ensures.entered
