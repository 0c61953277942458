use Rattle.std.proofs.Common.{◌≡◌, ◌∷◌, ◌++◌, [], ℕ, Ok, length, refl, ap, sym, subst, ◌∙◌}
use Rattle.tact_base.specs.Setup.{Setup}
use Rattle.run_model.specs.declared.script_line.Line.{Line}
use Rattle.run_record.specs.Fields.{Fails, Gives}
use Rattle.run_record.specs.Splitting.{tokens}
use Rattle.run_record.proofs.ListLoop.{fails_alike}
use Rattle.script_text.specs.Forms.{later_at}
use Rattle.script_text.specs.LineRanges.{IsLineInRange, bare}
use Rattle.script_text.specs.Texts.{later_line, of_whole, with_line}
use Rattle.script_text.proofs.RangesKept.{line_kept}
use Rattle.script_text.proofs.ReaderLemmas.{joined_is, length-sent_by, line_after_is}
use Rattle.script_text.proofs.Reading.{reading_on}
use Rattle.script_text.proofs.reader.read_tokens.Goals as goal

pub note-requires-clause-all : goal.note-requires-clause-all
note-requires-clause-all c =
    ap length c.requires.sent ∙ length-sent_by c.args.reader.now.lines.items ∙ sym (ap (λ (s : Setup). s.replicas) c.requires.setup)

pub returns-in-Ok-clause-reading : goal.returns-in-Ok-clause-reading
returns-in-Ok-clause-reading c =
    let reader = c.args.reader.now in
    let adds = c.in-Ok.ensures in
    let last : adds.line ≡ c.last_of.result.now = sym (c.last_of.ensures _ adds.line (c.deref.ensures.value ∙ adds.added)) in
    let named : IsLineInRange reader.config adds.line =
    line_kept (bare c.replicas-replicas.result c.conits-conits.result) reader.config
    (record { replicas = c.replicas-replicas.ensures.count; conits = c.conits-conits.ensures.count }) adds.line adds.in_range in
    let noted = c.note.ensures in
    reading_on c.note.result reader _ c.last_of.result.now c.requires
    (subst (λ (l : Line). IsLineInRange reader.config l) last named)
    (adds.added ∙ ap (λ (l : Line). reader.lines.items ++ l ∷ []) last)
    noted.placed noted.config noted.past noted.sent

pub returns-in-Ok-clause-read : goal.returns-in-Ok-clause-read
returns-in-Ok-clause-read c =
    let reader = c.args.reader.now in
    let reading = c.requires in
    let ts = tokens c.args.raw.now in
    let adds = c.in-Ok.ensures in
    let last : c.last_of.result.now ≡ adds.line = c.last_of.ensures _ adds.line (c.deref.ensures.value ∙ adds.added) in
    let read : later_at reader.config.replicas reader.config.conits ts ≡ Ok adds.line =
    subst (λ (n : ℕ). later_at n reader.config.conits ts ≡ Ok adds.line) c.replicas-replicas.ensures.count
    (subst (λ (m : ℕ). later_at c.replicas-replicas.result m ts ≡ Ok adds.line) c.conits-conits.ensures.count adds.says) in
    joined_is c.note.result reader.lines.items _ ts adds.line reader.config reader.past reader.sent.receivers.items
    (line_after_is reader.lines.items ts _ _ _ reading.script reading.setup reading.past reading.sent) read
    (subst (λ (l : Line). Gives (λ _. l) c.note.result (of_whole reader.config reader.past reader.sent.receivers.items l)) last c.note.ensures.whole)
    adds.added

pub returns-in-Err-clause-read : goal.returns-in-Err-clause-read
unfolding with_line later_line
returns-in-Err-clause-read c =
    let reader = c.args.reader.now in
    let reading = c.requires in
    let ts = tokens c.args.raw.now in
    let fault = c.in-Err.fault in
    let failed : Fails fault (later_at reader.config.replicas reader.config.conits ts) =
    subst (λ (n : ℕ). Fails fault (later_at n reader.config.conits ts)) c.replicas-replicas.ensures.count
    (subst (λ (m : ℕ). Fails fault (later_at c.replicas-replicas.result m ts)) c.conits-conits.ensures.count c.in-Err.ensures) in
    fails_alike fault (later_at reader.config.replicas reader.config.conits ts) (with_line reader.lines.items ts)
    (λ kind is. rw (line_after_is reader.lines.items ts reader.config reader.past reader.sent.receivers.items reading.script reading.setup reading.past reading.sent, is) refl)
    failed
