use Rattle.std.proofs.Common.{refl, length, sym, subst}
use Rattle.session_guard.proofs.Going.{sends_on, takes_on}
use Rattle.session_guard.specs.Journeys.{GoesOnBy}
use Rattle.session_guard.specs.Roaming.{MayStep}
use Rattle.session_guard.specs.declared.journey.Journey.{Journey}
use Rattle.session_guard.specs.declared.steps.Outcome.TheVariants.{Moved}
use Rattle.session_guard.proofs.journey.Journey.step.Goals as goal

pub returns-in_ok-send-in-Send-clause-goes : goal.returns-in_ok-send-in-Send-clause-goes
returns-in_ok-send-in-Send-clause-goes c =
    let old = c.args.self.now in
    let new : Journey = record old { network = c.send.new.self } in
    subst (λ next. GoesOnBy old new c.args.moment next Moved) (sym c.in-Send.is)
    (sends_on old new c.args.moment c.requires.keeps refl c.send.ensures.run c.in-Send.from c.in-Send.to c.in_ok-send-in-Send.ensures.made)

pub returns-in_ok-take-in-Take-clause-goes : goal.returns-in_ok-take-in-Take-clause-goes
returns-in_ok-take-in-Take-clause-goes c =
    let old = c.args.self.now in
    let new : Journey = record old { network = c.take.new.self } in
    let may = subst (MayStep old.network.setup (length old.clients.items) old.network.entries) c.in-Take.is c.requires.may in
    subst (λ next. GoesOnBy old new c.args.moment next Moved) (sym c.in-Take.is)
    (takes_on old new c.args.moment c.requires.keeps refl c.take.ensures.run c.in-Take.message may c.in_ok-take-in-Take.ensures.made)
