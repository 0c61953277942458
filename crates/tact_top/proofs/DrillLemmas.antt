-- The script of a drill is short; what is counted with one more entry; and what is shown with one more replica.
use Rattle.std.proofs.Common.{◌≡◌, ℕ, zero, suc, ◌+◌, ◌*◌, ◌≤◌, Bool, true, false, cond, List, [], ◌∷◌, ◌++◌, length, Option, None, Some, append_assoc, refl, sym, ap, ◌∙◌, subst, arith}
use Rattle.std.specs.List.{count_by, flat_map, range_with_len}
use Rattle.std.proofs.lemmas.List.{length-append}
use Rattle.std.proofs.lemmas.List.Sums.{sum_by-append, sum_by-cons}
use Rattle.tact_base.proofs.RangeLists.{flat_map_range_more}
use Rattle.run_model.specs.declared.entry.Entry.{Entry}
use Rattle.run_model.specs.declared.script_line.Line.{Line}
use Rattle.run_model.specs.declared.script_line.Line.TheVariants as line
use Rattle.drawn_scripts.specs.Draws.{listed, pick}
use Rattle.drawn_scripts.specs.DrawnScripts.{drawn_script, line_drawn, messages_of, step_drawn, steps_drawn}
use Rattle.drawn_scripts.proofs.DrawsLemmas.{after_none}
use Rattle.drawn_scripts.proofs.StepLemmas.{steps_more}

-- a step draws at most two lines
length-listed : (l : Option Line) → length (listed l) ≤ 1
length-listed None = omega (arith)
length-listed (Some l) = omega (arith)

step_is_short : (step : ℕ) (lines : List Line) (state : ℕ)
    → length (step_drawn step lines state).0 ≤ length lines + 2
unfolding step_drawn
step_is_short step lines state =
    let kind = pick 10 state in
    let more = (line_drawn (messages_of lines) kind.0 kind.1).0 in
    omega (arith, length-append lines (line.At step ∷ listed more), length-listed more)

none_is_short : (number : ℕ) → length (steps_drawn 0 number).0 ≤ 1
none_is_short number = subst (λ (after : List Line × ℕ). length after.0 ≤ 1) (sym (after_none step_drawn (line.Start 4 2 60 20 ∷ []) number)) (omega (arith))

steps_are_short : (n number : ℕ) → length (steps_drawn n number).0 ≤ 1 + 2 * n
steps_are_short zero number = none_is_short number
steps_are_short (suc n) number =
    let before = steps_drawn n number in
    omega (arith, ap (λ (after : List Line × ℕ). length after.0) (steps_more n number), step_is_short n before.0 before.1, steps_are_short n number)

pub drawn_is_short : (number : ℕ) → length (drawn_script number) ≤ 4001
drawn_is_short number = omega (arith, steps_are_short 2000 number)

-- one more entry of a kind, and one of another
count_more : (p : Entry → Bool) (history : List Entry) (entry : Entry)
    → count_by p (history ++ entry ∷ []) ≡ count_by p history + (cond (p entry) 1 0 + 0)
count_more p history entry =
    let one = λ (e : Entry). cond (p e) 1 0 in
    sum_by-append one history (entry ∷ []) ∙ ap (λ (n : ℕ). count_by p history + n) (sum_by-cons one entry [])

pub count_more_yes : (p : Entry → Bool) (history : List Entry) (entry : Entry)
    → p entry ≡ true
    → count_by p (history ++ entry ∷ []) ≡ count_by p history + 1
count_more_yes p history entry passes = count_more p history entry ∙ ap (λ (test : Bool). count_by p history + (cond test 1 0 + 0)) passes

pub count_more_no : (p : Entry → Bool) (history : List Entry) (entry : Entry)
    → p entry ≡ false
    → count_by p (history ++ entry ∷ []) ≡ count_by p history
count_more_no p history entry fails =
    count_more p history entry ∙ ap (λ (test : Bool). count_by p history + (cond test 1 0 + 0)) fails ∙ omega arith

-- the lines of the replicas so far, with one more
pub shown_more : (line : ℕ → List ℕ) (replica : ℕ) (before shown after : List ℕ)
    → shown ≡ before ++ flat_map line (range_with_len 0 replica)
    → after ≡ shown ++ line replica
    → after ≡ before ++ flat_map line (range_with_len 0 (replica + 1))
shown_more line replica before shown after is more =
    more ∙ ap (λ (text : List ℕ). text ++ line replica) is
    ∙ append_assoc before (flat_map line (range_with_len 0 replica)) (line replica)
    ∙ ap (λ (text : List ℕ). before ++ text) (sym (flat_map_range_more line replica))
