-- Scripts as their reader has them, growing by a line.
use Rattle.std.proofs.Common.{◌≡◌, ℕ, Bool, true, false, not, ◌||◌, List, [], ◌∷◌, ◌++◌, Result, Ok, Err, length, refl, ap, ◌∙◌}
use Rattle.std.specs.List.{fold}
use Rattle.std.specs.Prelude.{replicate}
use Rattle.std.proofs.lemmas.List.{length-set, length-replicate}
use Rattle.std.proofs.lemmas.List.Folds.{list_any-append}
use Rattle.tact_base.specs.Setup.{Setup, IsSetup}
use Rattle.run_model.specs.declared.script_line.Line.{Line}
use Rattle.run_model.specs.declared.script_line.Line.TheVariants as line
use Rattle.run_model.proofs.PrefixLemmas.{EachAfter-nil, EachAfter-push}
use Rattle.script_text.specs.Scripts.{FitsAfter, IsScript}
use Rattle.script_text.specs.Sending.{with_sent, sent_after, sent_by}
use Rattle.run_record.specs.declared.line_fault.LineFault.{LineFault}
use Rattle.run_record.specs.declared.line_fault.LineFault.TheVariants as faults
use Rattle.run_record.specs.Fields.{Gives}
use Rattle.script_text.specs.Readings.{IsBegun}
use Rattle.script_text.specs.Setups.{opening, setup_of, sets_up, is_past_setup}
use Rattle.script_text.specs.Forms.{later_at}
use Rattle.script_text.specs.Texts.{line_after, later_line, of_whole, with_line}

length-with_sent : (sent : List (List ℕ)) (from to : ℕ) → length (with_sent sent from to) ≡ length sent
length-with_sent sent from to = length-set sent from _

pub length-sent_after : (sent : List (List ℕ)) (l : Line) → length (sent_after sent l) ≡ length sent
length-sent_after sent (line.Send from to firsts) = length-with_sent sent from to
length-sent_after sent (line.Sync first second) = length-with_sent (with_sent sent first second) second first ∙ length-with_sent sent first second
length-sent_after sent other = refl

length-sent_from : (sent : List (List ℕ)) (ls : List Line)
    → length (fold sent_after sent ls) ≡ length sent
length-sent_from sent [] = refl
length-sent_from sent (l ∷ ls) = length-sent_from (sent_after sent l) ls ∙ length-sent_after sent l

-- a script keeps a list of receivers for each replica
pub length-sent_by : (ls : List Line) → length (sent_by ls) ≡ (setup_of ls).replicas
length-sent_by ls = length-sent_from (replicate (setup_of ls).replicas []) ls ∙ length-replicate (setup_of ls).replicas []

pub script_more : (ls : List Line) (l : Line)
    → IsScript ls
    → FitsAfter ls l
    → IsScript (ls ++ l ∷ [])
script_more [] l script fits = absurd script
script_more (first ∷ rest) l script fits =
    (script.0, EachAfter-push (λ before line. FitsAfter (first ∷ before) line) rest l script.1 fits)

-- whether lines are past the setup, with one more
pub past-push : (ls : List Line) (l : Line)
    → is_past_setup (ls ++ l ∷ []) ≡ (is_past_setup ls || not (sets_up l))
past-push ls l = list_any-append (λ line. not (sets_up line)) ls (l ∷ []) ∙ ap (λ (b : Bool). is_past_setup ls || b) (or_false (not (sets_up l)))
  where
    or_false : (b : Bool) → (b || false) ≡ b
    or_false true = refl
    or_false false = refl

-- a later line, by what the reader keeps
pub line_after_is : (ls : List Line) (ts : List (List ℕ)) (setup : Setup) (past : Bool) (sent : List (List ℕ))
    → IsScript ls
    → setup ≡ setup_of ls
    → past ≡ is_past_setup ls
    → sent ≡ sent_by ls
    → line_after ls ts ≡ later_line setup past sent ts
unfolding line_after
line_after_is [] ts setup past sent script setup-is past-is sent-is = absurd script
line_after_is (first ∷ rest) ts setup past sent script setup-is past-is sent-is = rw (setup-is, past-is, sent-is) refl

-- the lines with a later line, by what is judged of it
pub joined_is : {X : Type 0} (result : Result X LineFault) (ls new : List Line) (ts : List (List ℕ)) (l : Line) (setup : Setup) (past : Bool) (sent : List (List ℕ))
    → line_after ls ts ≡ later_line setup past sent ts
    → later_at setup.replicas setup.conits ts ≡ Ok l
    → Gives (λ _. l) result (of_whole setup past sent l)
    → new ≡ ls ++ l ∷ []
    → Gives (λ _. new) result (with_line ls ts)
unfolding with_line later_line
joined_is (Ok x) ls new ts l setup past sent after at whole added = rw (after, at, whole, added) refl
joined_is (Err faults.NoMemory) ls new ts l setup past sent after at whole added = tt
joined_is (Err (faults.Kind kind)) ls new ts l setup past sent after at whole added = rw (after, at, whole) refl

-- what a `start` line begins
pub start_is_begun : (replicas conits alpha loan : ℕ) (config : Setup)
    → config ≡ opening replicas conits alpha loan
    → IsSetup (opening replicas conits alpha loan)
    → IsBegun (line.Start replicas conits alpha loan) config
start_is_begun replicas conits alpha loan config is good = record {
  setup = is;
  up = refl;
  script = (good, EachAfter-nil (λ before next. FitsAfter (line.Start replicas conits alpha loan ∷ before) next));
}
