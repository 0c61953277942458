-- The verdict on a read: the first hindrance of its needs, as they are listed.
use Rattle.std.specs.Prelude.{◌≡◌, ℕ, ◌≤◌, List, length, sum, slice_get, unwrap_or, Option}
use Rattle.std.specs.List.{Contains, filter_map, zip}
use Rattle.std.specs.Option.{option_map}
use Rattle.tact_base.specs.Admission.{Hindrance, lent, unordered, stale, hindrance, wanted_moment}
use Rattle.tact_base.specs.declared.conit_list.Need.{Need}
use Rattle.tact_base.specs.declared.limits.TheConstants.{ALPHA_MAX}
use Rattle.access_gate.specs.declared.gate.Facts.{Facts}
use Rattle.access_gate.specs.declared.gate.Verdict.{Verdict}
use Rattle.access_gate.specs.declared.gate.Verdict.TheVariants.{Admit, WaitLent, WaitOrder, WaitStale}

-- the outs of a replica's bound, by holder: one of them, its own, is 0, and they are parts of one bound
abbrev pub AreOuts : ℕ → List ℕ → Type 0
AreOuts replicas outs = (length outs ≡ replicas) × Contains outs 0 × (sum outs ≤ ALPHA_MAX)

-- what is told of a hindrance, to a read at a moment
abbrev pub refusal_of : ℕ → Need → Hindrance → Verdict
refusal_of moment need (lent holder out total) = WaitLent need.conit holder out total need.num
refusal_of moment need (unordered replica tentative) = WaitOrder need.conit replica tentative need.order
refusal_of moment need (stale late) = WaitStale need.conit late.replica late.moment (wanted_moment moment need)

-- what is told of a need with its facts, where something hinders it
abbrev pub refusal : ℕ → Need → Facts → Option Verdict
refusal moment need facts = option_map (refusal_of moment need) (hindrance need facts.outs facts.tentative facts.slowest facts.late)

-- what is told of each need that something hinders
abbrev pub refusals : ℕ → List Need → List Facts → List Verdict
refusals moment needs facts = filter_map (λ pair. refusal moment pair.0 pair.1) (zip needs facts)

-- the verdict on a read at a moment
abbrev pub admission : ℕ → List Need → List Facts → Verdict
admission moment needs facts = unwrap_or (slice_get (refusals moment needs facts) 0) Admit
