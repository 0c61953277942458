use Rattle.std.proofs.Common.{◌≡◌, ℕ, ◌≤◌, [], ◌∷◌, ◌++◌, codes, refl, ap, ap₂, ◌∙◌, subst, arith}
use Rattle.std.proofs.lemmas.Result.{on_ok_weaker}
use Rattle.run_model.specs.Histories.{part_of}
use Rattle.run_model.specs.declared.entry.Act.TheVariants as act
use Rattle.run_model.specs.declared.entry.Entry.{Entry}
use Rattle.script_run.specs.declared.stage.Stage.{Stage}
use Rattle.script_run.proofs.Entering.{is_made_quiet, enters_alone}
use Rattle.tact_base.specs.Setup.{Setup}
use Rattle.run_model.specs.Loans.{home}
use Rattle.replica_set.proofs.StandingRuns.{core_there}
use Rattle.replica_core.specs.Lending.{IsLendFault}
use Rattle.replica_core.specs.declared.fault.LoanFault.TheVariants as fault
use Rattle.script_run.specs.Comments.{refusal_comment}
use Rattle.script_run.proofs.Entering.{same_set}
use Rattle.script_run.proofs.Stepping.{lends, lends_not}
use Rattle.script_run.proofs.stage.Stage.lend.Goals as goal

pub enter-requires-clause-made : goal.enter-requires-clause-made
enter-requires-clause-made g c =
    let mid : Stage = record c.args.self.now { set = c.lend.new.self } in
    let entry : Entry = record { replica = c.args.owner; moment = c.moment_of-moment.result; act = act.Lend c.args.holder c.args.conit c.args.amount } in
    is_made_quiet c.args.self.now c.requires.keeps c.args.owner c.requires.owner c.lend.new.self c.lend.ensures.setup
    (λ part. act.Lend c.args.holder c.args.conit c.args.amount) c.in-Ok.ensures.goes_on entry
    (ap (λ (moment : ℕ). let e : Entry = record { replica = c.args.owner; moment = moment; act = act.Lend c.args.holder c.args.conit c.args.amount }
    in e) c.moment_of-moment.ensures) tt mid refl refl refl refl refl

pub returns-in-Ok-clause-steps : goal.returns-in-Ok-clause-steps
returns-in-Ok-clause-steps g c =
    let old = c.args.self.now in
    let there = core_there old.set c.args.owner c.requires.keeps.stands.is_set c.requires.owner in
    let one = c.requires.keeps.stands.is_set.each c.args.owner there.0 there.1 in
    let may = (c.in-Ok.ensures.may there.0 there.1).2 (part_of old.history.items c.args.owner) (c.requires.keeps.stands.parts c.args.owner there.0 there.1) in
    let within : c.args.amount ≤ home old.set.setup c.args.owner (part_of old.history.items c.args.owner) c.args.conit =
    subst (λ (s : Setup). c.args.amount ≤ home s c.args.owner (part_of old.history.items c.args.owner) c.args.conit) one.setup
    (subst (λ (r : ℕ). c.args.amount ≤ home there.0.setup r (part_of old.history.items c.args.owner) c.args.conit) one.replica may) in
    let mid : Stage = record c.args.self.now { set = c.lend.new.self } in
    let entry : Entry = record { replica = c.args.owner; moment = c.moment_of-moment.result; act = act.Lend c.args.holder c.args.conit c.args.amount } in
    on_ok_weaker c.enter.result (λ entered. lends old c.enter.new.self c.args.owner c.args.holder c.args.conit c.args.amount c.args.out.now c.enter.new.out within
    (enters_alone c.args.self.now mid c.enter.new.self c.requires.keeps entry c.args.out.now c.enter.new.out c.args.owner (λ part moment. act.Lend c.args.holder c.args.conit c.args.amount)
    c.lend.ensures.setup refl refl (ap (λ (moment : ℕ). let e : Entry = record
    { replica = c.args.owner; moment = moment; act = act.Lend c.args.holder c.args.conit c.args.amount } in e) c.moment_of-moment.ensures)
    (is_made_quiet c.args.self.now c.requires.keeps c.args.owner c.requires.owner c.lend.new.self c.lend.ensures.setup
    (λ part. act.Lend c.args.holder c.args.conit c.args.amount) c.in-Ok.ensures.goes_on entry
    (ap (λ (moment : ℕ). let e : Entry = record { replica = c.args.owner; moment = moment; act = act.Lend c.args.holder c.args.conit c.args.amount } in e)
    c.moment_of-moment.ensures) tt mid refl refl refl refl refl) entered)) c.enter.ensures.entered

pub returns-in-Err-Home-clause-steps : goal.returns-in-Err-Home-clause-steps
returns-in-Err-Home-clause-steps g c =
    let old = c.args.self.now in
    let keeps = c.requires.keeps in
    let there = core_there old.set c.args.owner keeps.stands.is_set c.requires.owner in
    let one = keeps.stands.is_set.each c.args.owner there.0 there.1 in
    let part = part_of old.history.items c.args.owner in
    let fault : IsLendFault there.0 c.args.conit c.args.amount (fault.Home c.in-Err-Home.field-0-0 c.in-Err-Home.home) = subst
    (IsLendFault there.0 c.args.conit c.args.amount) c.in-Err-Home.field-0-is (c.in-Err-Home.ensures.fault there.0 there.1) in
    let limit : c.in-Err-Home.home ≡ home old.set.setup c.args.owner part c.args.conit =
    fault.3.1 part (keeps.stands.parts c.args.owner there.0 there.1)
    ∙ ap₂ (λ (s : Setup) (r : ℕ). home s r part c.args.conit) one.setup one.replica in
    on_ok_weaker c.lend_refused.result
    (λ text. lends_not old _ c.args.owner c.args.holder c.args.conit c.args.amount c.args.out.now c.lend_refused.new.page
    (omega (arith, fault.2, limit))
    (same_set old c.lend.new.self c.in-Err-Home.ensures.err keeps)
    (text ∙ ap (λ (most : ℕ). c.args.out.now ++ refusal_comment (codes "lend") (c.args.owner ∷ c.args.holder ∷ c.args.conit ∷ c.args.amount ∷ []) (codes "home") most) limit))
    c.lend_refused.ensures.ok
