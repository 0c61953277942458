use Rattle.std.proofs.Common.{◌≡◌, ◌<◌, ◌++◌, ◌∷◌, [], ℕ, List, length, sym, ap, ap₂, ◌∙◌, subst, arith}
use Rattle.tact_base.specs.Setup.{Setup}
use Rattle.session_guard.proofs.Roaming.{are_guarded, has_stayed, has_stepped, is_kept}
use Rattle.session_guard.specs.Journeys.{GoesOnBy, Stays}
use Rattle.session_guard.specs.Roams.{HasRoamed, RoamState, with_step}
use Rattle.session_guard.specs.declared.journey.Journey.{Journey}
use Rattle.session_guard.specs.declared.roam.TheConstants.{STEPS_MAX}
use Rattle.session_guard.specs.declared.steps.Handed.{Handed}
use Rattle.session_guard.specs.declared.steps.Outcome.{Outcome}
use Rattle.session_guard.specs.declared.steps.Step.{Step}
use Rattle.session_guard.proofs.roam.Roam.step.Goals as goal

-- the clients of a journey, and steps
abbrev state_of : Journey → List Handed → RoamState
state_of journey steps = record { setup = journey.network.setup; passes = length journey.clients.items; steps = steps }

-- with the steps in more memory
in_room : (journey : Journey) (steps more : List Handed)
    → more ≡ steps
    → HasRoamed (state_of journey steps) journey
    → HasRoamed (state_of journey more) journey
in_room journey steps more same is = subst (λ (hs : List Handed). HasRoamed (state_of journey hs) journey) (sym same) is

-- of what was made the state is that of the journey
as_state : (state : RoamState) (journey : Journey)
    → HasRoamed state journey
    → HasRoamed (state_of journey state.steps) journey
as_state state journey is =
    subst (λ (s : RoamState). HasRoamed s journey)
    (ap₂ (λ (s : Setup) (n : ℕ). let one : RoamState = record { setup = s; passes = n; steps = state.steps } in one) is.setup is.passes) is

-- what is so after a step, and after none
stepped_on : (old new : Journey) (steps before after : List Handed) (moment : ℕ) (next : Step) (outcome : Outcome)
    → HasRoamed (state_of old steps) old
    → before ≡ steps
    → GoesOnBy old new moment next outcome
    → length steps < STEPS_MAX
    → after ≡ before ++ record { moment = moment; step = next } ∷ []
    → HasRoamed (state_of new after) new
stepped_on old new steps before after moment next outcome is room goes few kept =
    in_room new (with_step (state_of old steps) moment next).steps after
    (kept ∙ ap (λ (hs : List Handed). hs ++ record { moment = moment; step = next } ∷ []) room)
    (as_state (with_step (state_of old steps) moment next) new (has_stepped (state_of old steps) old new moment next outcome is goes few))

stayed_on : (old new : Journey) (steps before : List Handed)
    → HasRoamed (state_of old steps) old
    → before ≡ steps
    → Stays old new
    → HasRoamed (state_of new before) new
stayed_on old new steps before is room stays =
    in_room new steps before room (as_state (state_of old steps) new (has_stayed (state_of old steps) old new is stays))

pub returns-in_err-reserve-clause-kept : goal.returns-in_err-reserve-clause-kept
returns-in_err-reserve-clause-kept c =
    is_kept _ c.self.inside.journey (in_room c.self.inside.journey c.self.inside.steps.items c.reserve.new.self.items c.reserve.ensures.items c.self.invariant)

pub returns-in_err-reserve-clause-guarded : goal.returns-in_err-reserve-clause-guarded
returns-in_err-reserve-clause-guarded c =
    are_guarded _ c.self.inside.journey (in_room c.self.inside.journey c.self.inside.steps.items c.reserve.new.self.items c.reserve.ensures.items c.self.invariant)

pub invariant_of-self-in_err-outcome : goal.invariant_of-self-in_err-outcome
invariant_of-self-in_err-outcome c =
    stayed_on c.self.inside.journey c.step.new.self c.self.inside.steps.items c.reserve.new.self.items c.self.invariant c.reserve.ensures.items c.in_err-outcome.ensures.err

pub returns-in_err-outcome-clause-kept : goal.returns-in_err-outcome-clause-kept
returns-in_err-outcome-clause-kept c =
    is_kept _ c.step.new.self
    (stayed_on c.self.inside.journey c.step.new.self c.self.inside.steps.items c.reserve.new.self.items c.self.invariant c.reserve.ensures.items c.in_err-outcome.ensures.err)

pub returns-in_err-outcome-clause-guarded : goal.returns-in_err-outcome-clause-guarded
returns-in_err-outcome-clause-guarded c =
    are_guarded _ c.step.new.self
    (stayed_on c.self.inside.journey c.step.new.self c.self.inside.steps.items c.reserve.new.self.items c.self.invariant c.reserve.ensures.items c.in_err-outcome.ensures.err)

pub returns-clause-kept : goal.returns-clause-kept
returns-clause-kept c =
    let few : length c.self.inside.steps.items < STEPS_MAX = omega (arith, c.requires.few, ap (λ (s : RoamState). length s.steps) c.self.view_is) in
    is_kept _ c.step.new.self
    (stepped_on c.self.inside.journey c.step.new.self c.self.inside.steps.items c.reserve.new.self.items c.keep.new.steps.items c.args.moment c.args.step.now c.in_ok-outcome.outcome
    c.self.invariant c.reserve.ensures.items c.in_ok-outcome.ensures.goes few c.keep.ensures)

pub returns-clause-guarded : goal.returns-clause-guarded
returns-clause-guarded c =
    let few : length c.self.inside.steps.items < STEPS_MAX = omega (arith, c.requires.few, ap (λ (s : RoamState). length s.steps) c.self.view_is) in
    are_guarded _ c.step.new.self
    (stepped_on c.self.inside.journey c.step.new.self c.self.inside.steps.items c.reserve.new.self.items c.keep.new.steps.items c.args.moment c.args.step.now c.in_ok-outcome.outcome
    c.self.invariant c.reserve.ensures.items c.in_ok-outcome.ensures.goes few c.keep.ensures)
