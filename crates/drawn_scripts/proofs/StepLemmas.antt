-- The lines that the steps of the drill draw are those of a script.
use Rattle.std.proofs.Common.{◌≡◌, ℕ, zero, suc, ◌+◌, ◌*◌, ◌≤◌, List, [], ◌∷◌, ◌++◌, length, get_or, Option, None, Some, append_assoc, append-nil, refl, sym, ap, ◌∙◌, subst, arith}
use Rattle.std.specs.Prelude.{replicate}
use Rattle.std.specs.List.{All}
use Rattle.std.proofs.lemmas.List.{get_or-replicate}
use Rattle.std.proofs.lemmas.List.Elements.{All-nil, All-weaker}
use Rattle.std.proofs.lemmas.Option.{slice_get-get_or, slice_get_within}
use Rattle.std.proofs.lemmas.List.Sums.{fold-append}
use Rattle.tact_base.specs.Setup as setups
use Rattle.tact_base.specs.declared.limits.TheConstants.{MOMENT_MAX}
use Rattle.run_model.specs.declared.script_line.Line.{Line}
use Rattle.run_model.specs.declared.script_line.Line.TheVariants as line
use Rattle.script_text.specs.Scripts.{IsScript, IsPlacedBy}
use Rattle.script_text.specs.Sending.{with_sent, sent_after, sent_by}
use Rattle.script_text.specs.Setups.{setup_of, is_past_setup}
use Rattle.script_text.proofs.ReaderLemmas.{script_more, start_is_begun}
use Rattle.script_text.proofs.SetupGrowth.{setup_of-kept, sent_by-push}
use Rattle.drawn_scripts.specs.Counting.{IsAmongFour}
use Rattle.drawn_scripts.specs.Draws.{listed, pick}
use Rattle.drawn_scripts.specs.DrawnScripts.{messages_after, messages_of, line_drawn, step_drawn, steps_drawn}
use Rattle.drawn_scripts.specs.declared.sent.SentOne.{SentOne}
use Rattle.drawn_scripts.proofs.SentLemmas.{IsThere, HasAll, there_is_sent, has_one_more}
use Rattle.drawn_scripts.proofs.DrawsLemmas.{after_more, after_none}
use Rattle.drawn_scripts.proofs.DrawnLemmas.{four, IsDrawn, IsDrawnIfAny, line_is_drawn}

-- the lines of a script of four, whose messages are counted
pub record GoesOn (lines : List Line) : Type 0 where
  pub script : IsScript lines
  pub setup : setup_of lines ≡ four
  pub all : HasAll (messages_of lines) (sent_by lines)

pub all_among : (sent : List SentOne) (by : List (List ℕ)) → HasAll sent by → All IsAmongFour sent
all_among sent by has = All-weaker (IsThere by) IsAmongFour (λ one is. is.among) sent has.there

pub messages_of-push : (lines : List Line) (l : Line) → messages_of (lines ++ l ∷ []) ≡ messages_after (messages_of lines) l
messages_of-push lines l = fold-append messages_after [] lines (l ∷ [])

-- a drawn line may stand where it is drawn
placed : (lines : List Line) (l : Line)
    → HasAll (messages_of lines) (sent_by lines)
    → IsDrawn (messages_of lines) l
    → IsPlacedBy (setup_of lines) (is_past_setup lines) (sent_by lines) l
placed lines (line.Start n m a k) has drawn = tt
placed lines (line.Bound o c a k) has drawn = cc (drawn.up)
placed lines (line.Take replica from number) has drawn =
    let sent = messages_of lines in
    let place = drawn.takes.0 in
    let one = drawn.takes.1 in
    let found = drawn.takes.2 in
    let within = slice_get_within sent place one found in
    let here : get_or sent place one ≡ one = cc (found, slice_get-get_or sent place one within) in
    let there = there_is_sent (sent_by lines) one (subst (IsThere (sent_by lines)) here (has.there place one within)) in
    cc (there, drawn.takes.3, drawn.takes.4, drawn.takes.5)
placed lines other has drawn = tt

-- the messages that are counted, after a drawn line
all_after : (sent : List SentOne) (by : List (List ℕ)) (l : Line)
    → HasAll sent by
    → IsDrawn sent l
    → HasAll (messages_after sent l) (sent_after by l)
all_after sent by (line.Send from to firsts) has drawn =
    let two = drawn.in_range.0 in has_one_more sent by from to has two.first_in two.second_in (λ same. two.others (sym same))
all_after sent by (line.Sync first second) has drawn =
    let two = drawn.in_range in
    let there = has_one_more sent by first second has two.first_in two.second_in (λ same. two.others (sym same)) in
    has_one_more _ (with_sent by first second) second first there two.second_in two.first_in two.others
all_after sent by other has drawn = has

pub goes_push : (lines : List Line) (l : Line) → GoesOn lines → IsDrawn (messages_of lines) l → GoesOn (lines ++ l ∷ [])
goes_push lines l goes drawn =
    let kept : setup_of (lines ++ l ∷ []) ≡ setup_of lines = setup_of-kept lines l drawn.up in
    record {
      script = script_more lines l goes.script
          (record { in_range = rw goes.setup drawn.in_range; in_place = placed lines l goes.all drawn });
      setup = kept ∙ goes.setup;
      all = rw (messages_of-push lines l, sent_by-push lines l (ap (λ s. s.replicas) kept)) (all_after (messages_of lines) (sent_by lines) l goes.all drawn);
    }

-- with what may have been drawn
goes_listed : (lines : List Line) (l : Option Line) → GoesOn lines → IsDrawnIfAny (messages_of lines) l → GoesOn (lines ++ listed l)
goes_listed lines None goes drawn = subst GoesOn (sym (append-nil lines)) goes
goes_listed lines (Some l) goes drawn = goes_push lines l goes drawn

pub goes_step : (step : ℕ) (lines : List Line) (state : ℕ) → step ≤ MOMENT_MAX → GoesOn lines → GoesOn (step_drawn step lines state).0
unfolding step_drawn
goes_step step lines state few goes =
    let kind = pick 10 state in
    let more = (line_drawn (messages_of lines) kind.0 kind.1).0 in
    let drawn : IsDrawnIfAny (messages_of lines) more = line_is_drawn (messages_of lines) (all_among _ _ goes.all) kind.0 kind.1 in
    let handed : GoesOn (lines ++ line.At step ∷ []) =
    goes_push lines (line.At step) goes (record { up = refl; senders = tt; in_range = few; takes = tt }) in
    let same : messages_of (lines ++ line.At step ∷ []) ≡ messages_of lines = messages_of-push lines (line.At step) in
    subst GoesOn (append_assoc lines (line.At step ∷ []) (listed more))
    (goes_listed (lines ++ line.At step ∷ []) more handed (subst (λ (sent : List SentOne). IsDrawnIfAny sent more) (sym same) drawn))

-- one more step
pub steps_more : (n number : ℕ)
    → steps_drawn (suc n) number ≡ step_drawn n (steps_drawn n number).0 (steps_drawn n number).1
steps_more n number =
    let one : suc n ≡ n + 1 = omega (arith) in
    ap (λ (m : ℕ). steps_drawn m number) one ∙ after_more step_drawn (line.Start 4 2 60 20 ∷ []) number n

-- the line that every drill begins with
begun : GoesOn (line.Start 4 2 60 20 ∷ [])
unfolding setups.config_fault
begun = record {
  script = (start_is_begun 4 2 60 20 four refl refl).script;
  setup = refl;
  all = record {
    size = refl;
    counts = λ from within. ap length (get_or-replicate 4 from [] [] within);
    there = All-nil (IsThere (replicate 4 []));
  };
}

pub goes_steps : (n number : ℕ) → n ≤ 2000 → GoesOn (steps_drawn n number).0
goes_steps zero number few = subst (λ (after : List Line × ℕ). GoesOn after.0) (sym (after_none step_drawn (line.Start 4 2 60 20 ∷ []) number)) begun
goes_steps (suc n) number few =
    let before = steps_drawn n number in
    subst (λ (after : List Line × ℕ). GoesOn after.0) (sym (steps_more n number))
    (goes_step n before.0 before.1 (omega (arith, few)) (goes_steps n number (omega (arith, few))))

-- what has been drawn in so many steps
pub record IsDrawnTo (number done : ℕ) (script : List Line) (draws : ℕ) (sent : List SentOne) : Type 0 where
  pub lines : steps_drawn done number ≡ (script, draws)
  pub sent_is : sent ≡ messages_of script
  pub few : length sent ≤ 2 * done

-- so it goes on
pub drawn_to_goes : (number done : ℕ) (script : List Line) (draws : ℕ) (sent : List SentOne)
    → done ≤ 2000
    → IsDrawnTo number done script draws sent
    → GoesOn script
drawn_to_goes number done script draws sent few is =
    subst (λ (after : List Line × ℕ). GoesOn after.0) is.lines (goes_steps done number few)

pub drawn_to_among : (number done : ℕ) (script : List Line) (draws : ℕ) (sent : List SentOne)
    → done ≤ 2000
    → IsDrawnTo number done script draws sent
    → All IsAmongFour sent
drawn_to_among number done script draws sent few is =
    let goes = drawn_to_goes number done script draws sent few is in
    rw is.sent_is (all_among (messages_of script) (sent_by script) goes.all)

pub drawn_to_begins : (number : ℕ) → IsDrawnTo number 0 (line.Start 4 2 60 20 ∷ []) number []
drawn_to_begins number = record { lines = after_none step_drawn (line.Start 4 2 60 20 ∷ []) number; sent_is = refl; few = omega (arith) }

pub drawn_to_more : (number done : ℕ) (script script' : List Line) (draws draws' : ℕ) (sent sent' : List SentOne)
    → IsDrawnTo number done script draws sent
    → step_drawn done script draws ≡ (script', draws')
    → sent' ≡ messages_of script'
    → length sent' ≤ length sent + 2
    → IsDrawnTo number (done + 1) script' draws' sent'
drawn_to_more number done script script' draws draws' sent sent' is step sent-is few = record {
  lines = after_more step_drawn (line.Start 4 2 60 20 ∷ []) number done ∙ ap (λ (before : List Line × ℕ). step_drawn done before.0 before.1) is.lines ∙ step;
  sent_is = sent-is;
  few = omega (arith, few, is.few);
}
