-- Line by line, the text of a script; and what is left of the sink.
use Rattle.std.proofs.Common.{◌≡◌, ℕ, ◌+◌, ◌<◌, ◌≤◌, List, [], ◌∷◌, ◌++◌, length, get_or, take, drop, Option, Ok, inr, sym, ap, ◌∙◌, subst, append_assoc}
use Rattle.std.specs.List.{fold}
use Rattle.std.proofs.lemmas.List.{append-nil, take-append-drop, take_more}
use Rattle.std.proofs.lemmas.List.Sums.{fold-append}
use Rattle.tact_base.specs.declared.limits.TheConstants.{SCRIPT_LINES}
use Rattle.tact_base.specs.Setup.{Setup}
use Rattle.run_model.specs.ScriptRuns.{Played, after_line, history_of, not_played, played_by, text_after, lines_text, play_text}
use Rattle.run_model.specs.declared.script_line.Line.{Line}
use Rattle.run_model.specs.declared.status.Status.{Status}
use Rattle.run_model.specs.declared.status.Status.TheVariants as status
use Rattle.run_promises.proofs.Kept.{IsKept-run}
use Rattle.script_text.specs.Scripts.{IsScript}
use Rattle.script_text.specs.Setups.{setup_of}
use Rattle.script_text.specs.Texts.{script_of}
use Rattle.script_text.proofs.ScriptRun.{script_is_whole}
use Rattle.script_run.specs.Playing.{IsPlayOf, WasRead, Writes, WritesText}
use Rattle.script_run.specs.Worlds.{AreFirstLines}

-- what one more line prints
pub lines_text-push : (setup : Setup) (played : Played) (lines : List Line) (l : Line)
    → lines_text setup played (lines ++ l ∷ []) ≡ lines_text setup played lines ++ text_after setup (fold (after_line setup) played lines) l
lines_text-push setup played [] l = append-nil (text_after setup played l)
lines_text-push setup played (x ∷ xs) l =
    ap (λ (more : List ℕ). text_after setup played x ++ more) (lines_text-push setup (after_line setup played x) xs l)
    ∙ sym (append_assoc (text_after setup played x) (lines_text setup (after_line setup played x) xs) (text_after setup (fold (after_line setup) (after_line setup played x) xs) l))

pub played_by-push : (setup : Setup) (lines : List Line) (l : Line)
    → played_by setup (lines ++ l ∷ []) ≡ after_line setup (played_by setup lines) l
played_by-push setup lines l = fold-append (after_line setup) not_played lines (l ∷ [])

-- the first lines with the next one, and all with those after it
pub front_is : (lines : List Line) (i : ℕ) (l : Line)
    → i < length lines
    → l ≡ get_or lines i l
    → take (i + 1) lines ≡ take i lines ++ l ∷ []
front_is lines i l within read = take_more lines i l within ∙ ap (λ (x : Line). take i lines ++ x ∷ []) (sym read)

whole_is : (lines : List Line) (i : ℕ) (l : Line)
    → i < length lines
    → l ≡ get_or lines i l
    → (take i lines ++ l ∷ []) ++ drop (i + 1) lines ≡ lines
whole_is lines i l within read =
    ap (λ (front : List Line). front ++ drop (i + 1) lines) (sym (front_is lines i l within read)) ∙ take-append-drop (i + 1) lines

-- the first lines of a script and the next one are its first ones
pub AreFirstLines-next : (setup : Setup) (lines stepped : List Line) (i : ℕ) (l : Line)
    → IsScript lines
    → length lines ≤ SCRIPT_LINES
    → setup ≡ setup_of lines
    → stepped ≡ take i lines
    → i < length lines
    → l ≡ get_or lines i l
    → AreFirstLines setup (stepped ++ l ∷ [])
AreFirstLines-next setup lines stepped i l script few setup_is first within read =
    let whole : (stepped ++ l ∷ []) ++ drop (i + 1) lines ≡ lines =
    ap (λ (front : List Line). (front ++ l ∷ []) ++ drop (i + 1) lines) first ∙ whole_is lines i l within read in
    record {
      rest = drop (i + 1) lines;
      script = subst IsScript (sym whole) script;
      few = subst (λ (ls : List Line). length ls ≤ SCRIPT_LINES) (sym whole) few;
      setup_is = setup_is ∙ ap setup_of (sym whole);
    }

-- the text of a script that was read
pub play_of : (input : List ℕ) (lines : List Line) (text : List ℕ)
    → script_of input ≡ Ok lines
    → IsScript lines
    → length lines ≤ SCRIPT_LINES
    → text ≡ play_text (setup_of lines) lines
    → IsPlayOf input text
play_of input lines text read script few is =
    let whole = script_is_whole lines script few in
    let run = whole.made.played.run in
    (lines, read, script, is, run, IsKept-run (setup_of lines) (history_of (setup_of lines) lines) whole.good run)

-- what is left of the sink after a text was written
pub text_is_written : (answer : Status) (left before after : Option (List ℕ)) (text : List ℕ)
    → WasRead left (λ input. IsPlayOf input text)
    → WritesText text answer before after
    → Writes answer left before after
text_is_written status.Done left before after text play gains = (text, gains, play)
text_is_written status.WriteFault left before after text play gains = (text, gains, play)
text_is_written status.NoMemory left before after text play gains = inr (text, gains, play)
text_is_written other left before after text play gains = gains
