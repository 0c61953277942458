-- A reader that goes on by a line.
use Rattle.std.proofs.Common.{◌≡◌, ◌||◌, ◌++◌, ◌∷◌, [], ℕ, List, Bool, not, Result, Ok, Err, ap, sym, subst, ◌∙◌}
use Rattle.std.specs.Prelude.{OnOk}
use Rattle.tact_base.specs.Setup.{Setup}
use Rattle.run_model.specs.declared.script_line.Line.{Line}
use Rattle.script_text.specs.declared.reader.Reader.{Reader}
use Rattle.script_text.specs.LineRanges.{IsLineInRange}
use Rattle.script_text.specs.Readings.{IsReading}
use Rattle.script_text.specs.Scripts.{IsPlacedBy, IsScript}
use Rattle.script_text.specs.Sending.{sent_after, sent_by}
use Rattle.script_text.specs.Setups.{setup_of, setup_after, sets_up, is_past_setup}
use Rattle.script_text.proofs.ReaderLemmas.{script_more, past-push}
use Rattle.script_text.proofs.SetupGrowth.{counts_kept, setup_of-push, sent_by-push}

-- with a line that may stand there
reading_more : (before after : Reader) (l : Line)
    → IsReading before
    → IsLineInRange before.config l
    → after.lines.items ≡ before.lines.items ++ l ∷ []
    → IsPlacedBy before.config before.past before.sent.receivers.items l
    → after.config ≡ setup_after before.config l
    → after.past ≡ (before.past || not (sets_up l))
    → after.sent.receivers.items ≡ sent_after before.sent.receivers.items l
    → IsReading after
reading_more before after l reading in_range lines in_place config past sent =
    let ls = before.lines.items in
    let onward : setup_of (ls ++ l ∷ []) ≡ setup_after (setup_of ls) l = setup_of-push ls l in
    let names : IsLineInRange (setup_of ls) l = subst (λ (s : Setup). IsLineInRange s l) reading.setup in_range in
    let counts = counts_kept (setup_of ls) (setup_of ls) l names in
    let placed : IsPlacedBy (setup_of ls) (is_past_setup ls) (sent_by ls) l =
    subst (λ (sent : List (List ℕ)). IsPlacedBy (setup_of ls) (is_past_setup ls) sent l) reading.sent
    (subst (λ (past : Bool). IsPlacedBy (setup_of ls) past before.sent.receivers.items l) reading.past
    (subst (λ (s : Setup). IsPlacedBy s before.past before.sent.receivers.items l) reading.setup in_place)) in
    record {
      setup = config ∙ ap (λ (s : Setup). setup_after s l) reading.setup ∙ sym onward ∙ ap setup_of (sym lines);
      past = past ∙ ap (λ (b : Bool). b || not (sets_up l)) reading.past ∙ sym (past-push ls l) ∙ ap is_past_setup (sym lines);
      sent = sent ∙ ap (λ sent. sent_after sent l) reading.sent
          ∙ sym (sent_by-push ls l (ap (λ (s : Setup). s.replicas) onward ∙ counts.replicas)) ∙ ap sent_by (sym lines);
      script = subst IsScript (sym lines) (script_more ls l reading.script (record { in_range = names; in_place = placed }));
    }

-- where what is judged of the line lets it stand
pub reading_on : {X Y : Type 0} (result : Result X Y) (before after : Reader) (l : Line)
    → IsReading before
    → IsLineInRange before.config l
    → after.lines.items ≡ before.lines.items ++ l ∷ []
    → OnOk result (IsPlacedBy before.config before.past before.sent.receivers.items l)
    → OnOk result (after.config ≡ setup_after before.config l)
    → OnOk result (after.past ≡ (before.past || not (sets_up l)))
    → OnOk result (after.sent.receivers.items ≡ sent_after before.sent.receivers.items l)
    → OnOk result (IsReading after)
reading_on (Ok x) before after l reading in_range lines placed config past sent =
    reading_more before after l reading in_range lines placed config past sent
reading_on (Err y) before after l reading in_range lines placed config past sent = tt
