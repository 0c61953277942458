-- What a desk's closing gathers.
use Rattle.std.specs.Prelude.{◌≡◌, ℕ, ◌<◌, false, List, All, Contains, map}
use Rattle.std.specs.List.{flat_map}
use Rattle.run_model.specs.declared.entry.Entry.{Entry}
use Rattle.run_history.specs.declared.view.View.{View}
use Rattle.run_history.specs.Seats.{ClerkView}
use Rattle.run_history.specs.Steps.{part_with}

-- all that clerks drew
abbrev pub all_drawn : List ClerkView → List (ℕ × Entry)
all_drawn clerks = flat_map (λ clerk. clerk.pairs) clerks

-- there is a clerk of each replica below a count
abbrev pub AreAllThere : ℕ → List ClerkView → Type 0
AreAllThere replicas clerks =
    (replica : ℕ) → replica < replicas → Contains (map (λ clerk. clerk.replica) clerks) replica

-- a seat has taken in the parts of clerks and what they have seen
pub record Gathers (clerks : List ClerkView) (view : View) : Type 0 where
  pub closed : view.opens ≡ false
  pub parts : view.parts ≡ map (λ (clerk : ClerkView). part_with clerk.replica clerk.pairs) clerks
  pub seen : All (λ (clerk : ClerkView). Contains view.olds clerk.seen) clerks
