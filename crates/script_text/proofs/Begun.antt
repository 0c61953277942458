-- A reader that has a first line alone.
use Rattle.std.proofs.Common.{◌≡◌, false, [], ◌∷◌, sym, ap, ◌∙◌, subst}
use Rattle.std.specs.Prelude.{replicate}
use Rattle.tact_base.specs.Setup.{Setup}
use Rattle.run_model.specs.declared.script_line.Line.{Line}
use Rattle.script_text.specs.declared.reader.Reader.{Reader}
use Rattle.script_text.specs.Readings.{IsReading, IsBegun}
use Rattle.script_text.specs.Scripts.{IsScript}
use Rattle.script_text.specs.Sending.{sent_by}
use Rattle.script_text.specs.Setups.{setup_of, is_past_setup}
use Rattle.script_text.proofs.SetupGrowth.{unsent}

pub begun_is : (reader : Reader) (first : Line)
    → reader.lines.items ≡ first ∷ []
    → IsBegun first reader.config
    → reader.past ≡ false
    → reader.sent.receivers.items ≡ replicate reader.config.replicas []
    → IsReading reader
begun_is reader first lines is past sent = record {
  setup = is.setup ∙ ap setup_of (sym lines);
  past = past ∙ sym is.up ∙ ap is_past_setup (sym lines);
  sent = sent ∙ ap (λ (s : Setup). replicate s.replicas []) is.setup ∙ sym (unsent (first ∷ []) is.up) ∙ ap sent_by (sym lines);
  script = subst IsScript (sym lines) is.script;
}
