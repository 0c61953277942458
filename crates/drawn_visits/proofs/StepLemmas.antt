-- What a step draws may be made after the steps so far.
use Rattle.std.proofs.Common.{◌≡◌, ℕ, ◌+◌, ◌≤◌, ◌==◌, Bool, true, false, nat_lt, cond, List, [], ◌∷◌, ◌++◌, length, Option, None, refl, sym, ap, ◌∙◌, subst, arith}
use Rattle.std.specs.List.{count_by}
use Rattle.std.specs.Option.{IfSome, option_map}
use Rattle.std.proofs.lemmas.Bool.{eqb-false}
use Rattle.std.proofs.lemmas.List.Elements.{All-nil}
use Rattle.std.proofs.lemmas.List.Sums.{sum_by_push}
use Rattle.tact_base.proofs.ListLemmas.{All-one}
use Rattle.run_model.specs.Histories.{sent_in}
use Rattle.run_model.specs.Ranges.{IsNeedInRange, IsWeightInRange}
use Rattle.run_model.specs.declared.entry.Entry.{Entry}
use Rattle.drawn_scripts.specs.Draws.{drawn, one_drawn, pick, some_drawn}
use Rattle.drawn_scripts.proofs.DrawnLemmas.{picked_below, two_are_two}
use Rattle.drawn_scripts.proofs.DrawsLemmas.{after_more, after_none}
use Rattle.session_guard.specs.Roaming.{MayStep}
use Rattle.session_guard.specs.Roams.{RoamState, entries_of, roamed_by}
use Rattle.session_guard.specs.declared.steps.Handed.{Handed}
use Rattle.session_guard.specs.declared.steps.Outcome.{Outcome}
use Rattle.session_guard.specs.declared.steps.Step.{Step}
use Rattle.session_guard.specs.declared.steps.Step.TheVariants as step
use Rattle.drawn_visits.specs.DrawnVisits.{IsAmongFour, four, is_behind, kept_away, kind_drawn, read_drawn, send_drawn, step_drawn, steps_after, take_drawn, weight_of, write_drawn}

-- what may be drawn may be made
write_may : (entries : List Entry) (state : ℕ) → MayStep four 4 entries (write_drawn state).0
unfolding write_drawn
write_may entries state =
    let s1 = (pick 4 state).1 in
    let s2 = (pick 4 s1).1 in
    let s3 = (pick 5 s2).1 in
    let size = (pick 5 s2).0 in (
      picked_below 4 state (omega (arith)),
      picked_below 4 s1 (omega (arith)),
      (
        record {
          each = All-one (IsWeightInRange four) (weight_of size)
              (record { conit = omega (arith); nweight = omega (arith, picked_below 5 s2 (omega (arith))); oweight = omega (arith) });
          listed = refl;
        },
        (omega (arith, picked_below 8 s3 (omega (arith))), omega (arith)),
      ),
      tt,
    )

read_may : (entries : List Entry) (state : ℕ) → MayStep four 4 entries (read_drawn state).0
unfolding read_drawn
read_may entries state =
    let s1 = (pick 4 state).1 in
    let s2 = (pick 4 s1).1 in (
      picked_below 4 state (omega (arith)),
      picked_below 4 s1 (omega (arith)),
      (omega (arith, picked_below 8 s2 (omega (arith))), record { each = All-nil (IsNeedInRange four); listed = refl }),
      tt,
    )

send_may : (entries : List Entry) (state : ℕ) → MayStep four 4 entries (send_drawn state).0
unfolding send_drawn
send_may entries state = let two = two_are_two state in (two.first_in, two.second_in, two.others)

take_may : (entries : List Entry) (state : ℕ) → IfSome (take_drawn (length (sent_in entries)) state).0 (MayStep four 4 entries)
unfolding take_drawn one_drawn
take_may entries state = go (sent == 0) refl
  where
    sent : ℕ
    sent = length (sent_in entries)

    go : (none : Bool) → (sent == 0) ≡ none → IfSome (option_map step.Take (cond none (drawn None) (some_drawn (pick sent)) state).0) (MayStep four 4 entries)
    go true is = tt
    go false is = picked_below sent state (omega (arith, eqb-false sent 0 is))

kind_may : (entries : List Entry) (kind state : ℕ) → IfSome (kind_drawn (length (sent_in entries)) kind state).0 (MayStep four 4 entries)
kind_may entries kind state = go (nat_lt kind 3) (nat_lt kind 6) (nat_lt kind 8)
  where
    go : (write read send : Bool)
        → IfSome (cond write (some_drawn write_drawn) (cond read (some_drawn read_drawn)
        (cond send (some_drawn send_drawn) (take_drawn (length (sent_in entries))))) state).0 (MayStep four 4 entries)
    go true read send = write_may entries state
    go false true send = read_may entries state
    go false false true = send_may entries state
    go false false false = take_may entries state

pub drawn_may : (roam : RoamState) (sent kind state state' : ℕ) (found : Option Step)
    → IsAmongFour roam
    → sent ≡ length (sent_in (entries_of roam))
    → kind_drawn sent kind state ≡ (found, state')
    → IfSome found (MayStep roam.setup roam.passes (entries_of roam))
drawn_may roam sent kind state state' found is all drawn =
    subst (λ s. IfSome found (MayStep s roam.passes (entries_of roam))) (sym is.setup)
    (subst (λ (n : ℕ). IfSome found (MayStep four n (entries_of roam))) (sym is.passes)
    (subst (λ (one : Option Step). IfSome one (MayStep four 4 (entries_of roam)))
    (ap (λ (n : ℕ). (kind_drawn n kind state).0) (sym all) ∙ ap (λ (taken : Option Step × ℕ). taken.0) drawn)
    (kind_may (entries_of roam) kind state)))

-- what has been drawn in so many steps
pub record IsDrawnTo (number done : ℕ) (roam : RoamState) (behind draws : ℕ) : Type 0 where
  pub steps : steps_after done number ≡ (roam.steps, draws)
  pub few : length roam.steps ≤ done
  pub among : IsAmongFour roam
  pub counted : behind ≡ kept_away (roamed_by roam)
  pub count : behind ≤ done

pub drawn_to_begins : (number : ℕ) (roam : RoamState) → roam ≡ record { setup = four; passes = 4; steps = [] } → IsDrawnTo number 0 roam 0 number
drawn_to_begins number roam same = subst (λ (r : RoamState). IsDrawnTo number 0 r 0 number) (sym same) (record {
  steps = after_none step_drawn [] number;
  few = omega (arith);
  among = record { setup = refl; passes = refl };
  counted = refl;
  count = omega (arith);
})

pub drawn_to_more : (number done : ℕ) (roam new : RoamState) (behind behind' draws draws' : ℕ)
    → IsDrawnTo number done roam behind draws
    → step_drawn done roam.steps draws ≡ (new.steps, draws')
    → length new.steps ≤ length roam.steps + 1
    → IsAmongFour new
    → behind' ≡ kept_away (roamed_by new)
    → behind' ≤ behind + 1
    → IsDrawnTo number (done + 1) new behind' draws'
drawn_to_more number done roam new behind behind' draws draws' is next few among counted count = record {
  steps = after_more step_drawn [] number done ∙ ap (λ (before : List Handed × ℕ). step_drawn done before.0 before.1) is.steps ∙ next;
  few = omega (arith, few, is.few);
  among = among;
  counted = counted;
  count = omega (arith, count, is.count);
}

pub drawn_to_ends : (number : ℕ) (roam : RoamState) (behind draws : ℕ)
    → IsDrawnTo number 1000 roam behind draws
    → roam ≡ record { setup = four; passes = 4; steps = (steps_after 1000 number).0 }
drawn_to_ends number roam behind draws is =
    ap (λ s. let one : RoamState = record { setup = s; passes = roam.passes; steps = roam.steps } in one) is.among.setup
    ∙ ap (λ (n : ℕ). let one : RoamState = record { setup = four; passes = n; steps = roam.steps } in one) is.among.passes
    ∙ ap (λ (after : List Handed × ℕ). let one : RoamState = record { setup = four; passes = 4; steps = after.0 } in one) (sym is.steps)

-- one more outcome counts where it kept a client away
pub counted_more : (before after : List Outcome) (outcome : Outcome)
    → after ≡ before ++ outcome ∷ []
    → count_by is_behind after ≡ count_by is_behind before + cond (is_behind outcome) 1 0
counted_more before after outcome same =
    ap (count_by is_behind) same ∙ sum_by_push (λ (o : Outcome). cond (is_behind o) 1 0) before outcome
