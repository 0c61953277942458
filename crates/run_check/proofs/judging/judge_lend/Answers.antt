use Rattle.std.proofs.Common.{subst}
use Rattle.replica_core.specs.Lending.{IsLendFault}
use Rattle.replica_set.specs.Sets.{HoldsAt}
use Rattle.run_check.proofs.AtReplica.{lending_isnt_full, lending_isnt_free, home_told}
use Rattle.run_check.proofs.FirstCauses.{home_is_first}
use Rattle.run_check.proofs.Passing.{lend_passes}
use Rattle.run_check.proofs.judging.judge_lend.Goals as goal

pub unreachable-requires : goal.unreachable-requires
unreachable-requires g c =
    lending_isnt_free g.history c.args.set.now c.requires.0 c.args.at c.requires.1.1.replica c.args.conit c.args.amount c.in-Err-Free.field-0-0 c.in-Err-Free.field-0-1
    (subst (λ f. HoldsAt c.args.set.now c.args.at.replica (λ core. IsLendFault core c.args.conit c.args.amount f)) c.in-Err-Free.field-0-is c.in-Err-Free.ensures.fault)

pub unreachable-requires-in-Err-Full : goal.unreachable-requires-in-Err-Full
unreachable-requires-in-Err-Full g c =
    lending_isnt_full g.history c.args.set.now c.requires.0 c.args.at c.requires.1.1.replica c.requires.1.0 c.args.conit c.args.amount c.in-Err-Full.field-0-0 c.in-Err-Full.field-0-1
    (subst (λ f. HoldsAt c.args.set.now c.args.at.replica (λ core. IsLendFault core c.args.conit c.args.amount f)) c.in-Err-Full.field-0-is c.in-Err-Full.ensures.fault)

pub returns-in-Ok-clause-ok : goal.returns-in-Ok-clause-ok
returns-in-Ok-clause-ok g c =
    lend_passes g.history c.args.set.now c.requires.0 c.args.at c.requires.1.1.replica c.requires.1.0 c.lend.new.self c.in-Ok.ensures.setup
    c.args.to c.args.conit c.args.amount (c.in-Ok.ensures.goes_on g.history c.requires.0.stands)

pub returns-in-Err-Home-clause-err : goal.returns-in-Err-Home-clause-err
returns-in-Err-Home-clause-err g c =
    let told = home_told g.history c.args.set.now c.requires.0 c.args.at c.requires.1.1.replica c.args.conit c.args.amount c.in-Err-Home.field-0-0 c.in-Err-Home.home
    (subst (λ f. HoldsAt c.args.set.now c.args.at.replica (λ core. IsLendFault core c.args.conit c.args.amount f)) c.in-Err-Home.field-0-is c.in-Err-Home.ensures.fault) in
    home_is_first c.args.set.now.setup g.history c.args.at c.requires.1.0 c.args.to c.args.conit c.args.amount c.in-Err-Home.home told.0 told.1
