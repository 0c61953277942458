-- The script that a number draws: four replicas that write, send, take, meet and read at random, and no other choice.
use Rattle.std.specs.Prelude.{ℕ, ◌==◌, pos, ◌-ℤ◌, nat_lt, List, [], ◌∷◌, ◌++◌, fold, length, replicate, slice_get, Option, None, if◌then◌else◌}
use Rattle.std.specs.Option.{option_map}
use Rattle.tact_base.specs.declared.conit_list.Need.{Need}
use Rattle.tact_base.specs.declared.conit_list.Weight.{Weight}
use Rattle.tact_base.specs.declared.write.Op.TheVariants.{Add}
use Rattle.run_model.specs.declared.script_line.Line.{Line}
use Rattle.run_model.specs.declared.script_line.Line.TheVariants as line
use Rattle.drawn_scripts.specs.Counting.{sent_from}
use Rattle.drawn_scripts.specs.Draws.{Drawing, drawn, ◌>>=◌, after_steps, listed, pick, some_drawn, two_drawn}
use Rattle.drawn_scripts.specs.declared.sent.SentOne.{SentOne}

-- the messages that lines sent, in order, after one more message: its number counts those of its sender
abbrev pub with_message : List SentOne → ℕ → ℕ → List SentOne
with_message sent from to = sent ++ record { from = from; to = to; number = length (sent_from sent from) } ∷ []

-- the same after one more line: a `sync` sends there and back
abbrev pub messages_after : List SentOne → Line → List SentOne
messages_after sent (line.Send from to firsts) = with_message sent from to
messages_after sent (line.Sync first second) = with_message (with_message sent first second) second first
messages_after sent other = sent

abbrev pub messages_of : List Line → List SentOne
messages_of lines = fold messages_after [] lines

-- the weight of a drawn write, from -4 to 4, and the need of a drawn read
abbrev pub weight_of : ℕ → ℕ → Weight
weight_of conit size = record { conit = conit; nweight = pos size -ℤ pos 4; oweight = 1 }

abbrev pub need_of : ℕ → Need
need_of conit = record { conit = conit; num = 60; order = 8; stale = 200 }

unfoldable pub write_drawn : Drawing Line
write_drawn = do
  replica ← pick 4
  conit ← pick 2
  size ← pick 9
  key ← pick 16
  drawn (line.Write replica 0 (Add key (pos 1)) (weight_of conit size ∷ []))

unfoldable pub send_drawn : Drawing Line
send_drawn = do
  two ← two_drawn
  drawn (line.Send two.0 two.1 (replicate 4 0))

unfoldable pub sync_drawn : Drawing Line
sync_drawn = do
  two ← two_drawn
  drawn (line.Sync two.0 two.1)

-- the taking of a message by its receiver
abbrev pub take_of : SentOne → Line
take_of one = line.Take one.to one.from one.number

-- the taking of one of the messages so far; where there is none, nothing is drawn
unfoldable pub take_drawn : List SentOne → Drawing (Option Line)
take_drawn [] = drawn None
take_drawn (first ∷ rest) = do
  place ← pick (length (first ∷ rest))
  drawn (option_map take_of (slice_get (first ∷ rest) place))

-- a read with one need
unfoldable pub read_drawn : Drawing Line
read_drawn = do
  replica ← pick 4
  conit ← pick 2
  key ← pick 16
  drawn (line.Read replica 0 key (need_of conit ∷ []))

-- what a step does, by a number below ten
abbrev pub line_drawn : List SentOne → ℕ → Drawing (Option Line)
line_drawn sent kind =
    if nat_lt kind 5 then some_drawn write_drawn
    else if nat_lt kind 7 then some_drawn send_drawn
    else if kind == 7 then take_drawn sent
    else if kind == 8 then some_drawn sync_drawn
    else some_drawn read_drawn

-- one more step, handed its number as the moment
unfoldable pub step_drawn : ℕ → List Line → Drawing (List Line)
step_drawn step lines = do
  kind ← pick 10
  more ← line_drawn (messages_of lines) kind
  drawn (lines ++ line.At step ∷ listed more)

-- the lines after so many steps
abbrev pub steps_drawn : ℕ → Drawing (List Line)
steps_drawn steps = after_steps step_drawn (line.Start 4 2 60 20 ∷ []) steps

-- the lines of the script that a number draws
abbrev pub drawn_script : ℕ → List Line
drawn_script number = (steps_drawn 2000 number).0
