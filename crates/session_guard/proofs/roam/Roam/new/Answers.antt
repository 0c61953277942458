use Rattle.std.proofs.Common.{◌≡◌, ℕ, List, [], length, refl, sym, ap, ap₂, ◌∙◌}
use Rattle.std.proofs.lemmas.List.{length-map, length-replicate}
use Rattle.tact_base.specs.Setup.{Setup}
use Rattle.session_guard.proofs.Roaming.{none_roamed}
use Rattle.session_guard.specs.Passes.{fresh_pass}
use Rattle.session_guard.specs.Roaming.{Roamed, not_roamed}
use Rattle.session_guard.specs.Roams.{RoamState}
use Rattle.session_guard.specs.Journeys.{made_in}
use Rattle.session_guard.specs.declared.client.Client.{Client}
use Rattle.session_guard.specs.declared.journey.Journey.{Journey}
use Rattle.session_guard.specs.declared.steps.Handed.{Handed}
use Rattle.session_guard.proofs.roam.Roam.new.Goals as goal

-- how many clients there are
many : (journey : Journey) (setup : Setup) (passes : ℕ)
    → made_in journey [] ≡ not_roamed setup passes
    → length journey.clients.items ≡ passes
many journey setup passes made =
    sym (length-map journey.clients.items (λ (client : Client). client.pass))
    ∙ ap (λ (r : Roamed). length r.passes) made
    ∙ length-replicate passes (fresh_pass setup.replicas)

pub invariant_of-result : goal.invariant_of-result
invariant_of-result c =
    let journey = c.in_ok-new.field-0 in
    none_roamed _ journey c.in_ok-new.ensures.keeps refl refl c.new-2.ensures
    (c.in_ok-new.ensures.made
    ∙ ap₂ (λ (s : Setup) (n : ℕ). not_roamed s n) (sym c.in_ok-new.ensures.setup) (sym (many journey c.args.config.now c.args.passes c.in_ok-new.ensures.made)))

pub returns : goal.returns
returns c =
    let journey = c.in_ok-new.field-0 in
    ap₂ (λ (s : Setup) (n : ℕ). let one : RoamState = record { setup = s; passes = n; steps = c.new-2.result.items } in one) c.in_ok-new.ensures.setup
    (many journey c.args.config.now c.args.passes c.in_ok-new.ensures.made)
    ∙ ap (λ (hs : List Handed). let one : RoamState = record { setup = c.args.config.now; passes = c.args.passes; steps = hs } in one) c.new-2.ensures
