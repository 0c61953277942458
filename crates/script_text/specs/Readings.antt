-- What the reader of a script keeps of the lines so far.
use Rattle.std.specs.Prelude.{◌≡◌, false, [], ◌∷◌}
use Rattle.tact_base.specs.Setup.{Setup}
use Rattle.run_model.specs.declared.script_line.Line.{Line}
use Rattle.script_text.specs.Scripts.{IsScript}
use Rattle.script_text.specs.Sending.{sent_by}
use Rattle.script_text.specs.Setups.{setup_of, is_past_setup}
use Rattle.script_text.specs.declared.reader.Reader.{Reader}

pub record IsReading (reader : Reader) : Type 0 where
  pub setup : reader.config ≡ setup_of reader.lines.items
  pub past : reader.past ≡ is_past_setup reader.lines.items
  pub sent : reader.sent.receivers.items ≡ sent_by reader.lines.items
  pub script : IsScript reader.lines.items

-- a first line, and the setup that it makes
pub record IsBegun (first : Line) (config : Setup) : Type 0 where
  pub setup : config ≡ setup_of (first ∷ [])
  pub up : is_past_setup (first ∷ []) ≡ false
  pub script : IsScript (first ∷ [])
