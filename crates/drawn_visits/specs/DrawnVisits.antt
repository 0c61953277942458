-- The steps that a number draws: four clients that roam among four replicas at random, messages between these, and no other
-- choice.
use Rattle.std.specs.Prelude.{◌≡◌, ℕ, pos, nat_lt, Bool, true, false, List, [], ◌∷◌, ◌++◌, count_by, length, map, Option, if◌then◌else◌}
use Rattle.std.specs.Option.{option_map}
use Rattle.tact_base.specs.Setup.{Setup}
use Rattle.tact_base.specs.declared.conit_list.Weight.{Weight}
use Rattle.tact_base.specs.declared.write.Op.TheVariants.{Add}
use Rattle.run_model.specs.Histories.{sent_in}
use Rattle.run_model.specs.declared.call.Request.TheVariants as request
use Rattle.script_text.specs.Setups.{opening}
use Rattle.drawn_scripts.specs.Draws.{Drawing, drawn, ◌>>=◌, after_steps, listed, one_drawn, pick, some_drawn, two_drawn}
use Rattle.session_guard.specs.Roaming.{Roamed, roamed}
use Rattle.session_guard.specs.Roams.{RoamState}
use Rattle.session_guard.specs.declared.steps.Handed.{Handed}
use Rattle.session_guard.specs.declared.steps.Outcome.{Outcome}
use Rattle.session_guard.specs.declared.steps.Outcome.TheVariants.{Moved, Visited}
use Rattle.session_guard.specs.declared.steps.Step.{Step}
use Rattle.session_guard.specs.declared.steps.Step.TheVariants as step
use Rattle.session_guard.specs.declared.steps.Visit.TheVariants.{Answered, Behind}

-- the setup of the replicas, and the weight of a drawn write
abbrev pub four : Setup
four = opening 4 1 1000 250

abbrev pub weight_of : ℕ → Weight
weight_of size = record { conit = 0; nweight = pos size; oweight = 1 }

-- a visit for a write, and one for a read
unfoldable pub write_drawn : Drawing Step
write_drawn = do
  pass ← pick 4
  replica ← pick 4
  size ← pick 5
  key ← pick 8
  drawn (step.Visit pass replica (request.Write (weight_of size ∷ []) (Add key (pos 1))))

unfoldable pub read_drawn : Drawing Step
read_drawn = do
  pass ← pick 4
  replica ← pick 4
  key ← pick 8
  drawn (step.Visit pass replica (request.Read key []))

-- a sending from one replica to another, and the taking of one of so many messages
unfoldable pub send_drawn : Drawing Step
send_drawn = do
  two ← two_drawn
  drawn (step.Send two.0 two.1)

unfoldable pub take_drawn : ℕ → Drawing (Option Step)
take_drawn sent = do
  place ← one_drawn sent
  drawn (option_map step.Take place)

-- what a step does, by a number below ten
abbrev pub kind_drawn : ℕ → ℕ → Drawing (Option Step)
kind_drawn sent kind =
    if nat_lt kind 3 then some_drawn write_drawn
    else if nat_lt kind 6 then some_drawn read_drawn
    else if nat_lt kind 8 then some_drawn send_drawn
    else take_drawn sent

-- one more step, where one is drawn, handed its number as the moment
abbrev pub handed_at : ℕ → Option Step → List Handed
handed_at moment drawn_step = map (λ one. record { moment = moment; step = one }) (listed drawn_step)

unfoldable pub step_drawn : ℕ → List Handed → Drawing (List Handed)
step_drawn number steps = do
  kind ← pick 10
  more ← kind_drawn (length (sent_in (roamed four 4 steps).entries)) kind
  drawn (steps ++ handed_at number more)

-- the steps after so many drawings, and those that a number draws
abbrev pub steps_after : ℕ → Drawing (List Handed)
steps_after steps = after_steps step_drawn [] steps

abbrev pub drawn_steps : ℕ → List Handed
drawn_steps number = (steps_after 1000 number).0

-- four clients among four replicas
pub record IsAmongFour (roam : RoamState) : Type 0 where
  pub setup : roam.setup ≡ four
  pub passes : roam.passes ≡ 4

-- whether a client was kept away, and how often one was
unfoldable pub is_behind : Outcome → Bool
is_behind (Visited (Behind origin have wanted)) = true
is_behind (Visited (Answered reply)) = false
is_behind Moved = false

abbrev pub kept_away : Roamed → ℕ
kept_away made = count_by is_behind made.outcomes
