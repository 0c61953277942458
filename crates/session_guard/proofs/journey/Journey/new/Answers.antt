use Rattle.std.proofs.Common.{◌≡◌, ℕ, ap, replicate, ◌∙◌, arith}
use Rattle.session_guard.proofs.NewJourney.{fresh_client, opens, opens_fresh}
use Rattle.session_guard.specs.declared.journey.Journey.{Journey}
use Rattle.session_guard.proofs.journey.Journey.new.Goals as goal

pub returns-clause-keeps : goal.returns-clause-keeps
returns-clause-keeps c =
    let setup = c.args.config.now in
    let new : Journey = record { network = c.in_ok-new-2.field-0; clients = c.loop-pass.clients } in
    let all : c.loop-pass._pass ≡ c.args.passes = omega arith in
    opens new setup c.args.passes c.replicas-n.ensures.sound c.in_ok-new-2.ensures
    (c.loop-pass.invariant ∙ ap (λ (n : ℕ). replicate n (fresh_client setup)) all)
    c.requires

pub returns-clause-made : goal.returns-clause-made
returns-clause-made c =
    let setup = c.args.config.now in
    let new : Journey = record { network = c.in_ok-new-2.field-0; clients = c.loop-pass.clients } in
    let all : c.loop-pass._pass ≡ c.args.passes = omega arith in
    opens_fresh new setup c.args.passes c.in_ok-new-2.ensures (c.loop-pass.invariant ∙ ap (λ (n : ℕ). replicate n (fresh_client setup)) all)
