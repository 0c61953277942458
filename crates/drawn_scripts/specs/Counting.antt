-- How many messages each replica has sent.
use Rattle.std.specs.Prelude.{◌≡◌, ◌≢◌, ℕ, ◌<◌, ◌==◌, List, filter, length, slice_index}
use Rattle.run_model.specs.declared.script_line.Line.{Line}
use Rattle.run_model.specs.declared.script_line.Line.TheVariants as line
use Rattle.drawn_scripts.specs.declared.sent.SentOne.{SentOne}

-- the messages of one sender
abbrev pub sent_from : List SentOne → ℕ → List SentOne
sent_from sent from = filter (λ one. one.from == from) sent

pub record AreCounts (sent : List SentOne) (counts : List ℕ) : Type 0 where
  pub size : length counts ≡ 4
  pub each : (from : ℕ) → from < 4 → slice_index counts from ≡ length (sent_from sent from)

-- a message from one of four replicas to another
pub record IsAmongFour (one : SentOne) : Type 0 where
  pub from_in : one.from < 4
  pub to_in : one.to < 4
  pub others : one.from ≢ one.to

-- a line whose senders are among four replicas
abbrev pub AreFourSenders : Line → Type 0
AreFourSenders (line.Send from to firsts) = from < 4
AreFourSenders (line.Sync first second) = (first < 4) × (second < 4)
AreFourSenders other = Unit {0}
