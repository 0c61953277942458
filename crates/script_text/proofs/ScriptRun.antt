-- The history of a script is a run, and before each line it is ready for it.
use Rattle.std.proofs.Common.{◌≡◌, ℕ, ◌+◌, ◌*◌, ◌<◌, ◌≤◌, Bool, true, false, List, [], ◌∷◌, ◌++◌, length, refl, sym, ap, ◌∙◌, subst, append_assoc, arith}
use Rattle.std.specs.Prelude.{replicate}
use Rattle.std.proofs.lemmas.Bool.{false≢true}
use Rattle.std.proofs.lemmas.List.{append-nil, length-replicate, length-append, length_push, get_or-replicate}
use Rattle.std.proofs.lemmas.List.Sums.{fold_push}
use Rattle.tact_base.proofs.ListLemmas.{from_right}
use Rattle.tact_base.specs.declared.limits.TheConstants.{SCRIPT_LINES}
use Rattle.tact_base.specs.Setup.{Setup, IsSetup}
use Rattle.run_model.specs.Histories.{EachAfter}
use Rattle.run_model.specs.Runs.{IsLawful}
use Rattle.run_model.specs.ScriptRuns.{Played, not_played, after_line, played_by}
use Rattle.run_model.specs.declared.script_line.Line.{Line}
use Rattle.run_model.specs.declared.script_line.Line.TheVariants as line
use Rattle.run_model.proofs.ClockBound.{clock-run}
use Rattle.run_model.proofs.PrefixLemmas.{EachAfter-nil, EachAfter-prefix, EachAfter-last, IsPrefix-append}
use Rattle.script_text.specs.Fronts.{HasItsMessage, IsReady}
use Rattle.script_text.specs.LineRanges.{IsLineInRange}
use Rattle.script_text.specs.Scripts.{IsPlacedBy, FitsAfter, IsStart, IsScript}
use Rattle.script_text.specs.Sending.{sent_after, sent_by}
use Rattle.script_text.specs.Setups.{setup_after, setup_of, sets_up, is_past_setup}
use Rattle.script_text.proofs.Counts.{count_of, line_grows}
use Rattle.script_text.proofs.Lines.{IsAddressed, HasRoom, line_is_played}
use Rattle.script_text.proofs.Played.{IsPlayed, named_message}
use Rattle.script_text.proofs.RangesKept.{line_kept}
use Rattle.script_text.proofs.SetupGrowth.{SameCounts, counts_kept, setup_of-push, setup_of-kept, sent_by-push, setting_fits, past_more, not_past-push, unplayed, unsent}

-- What lines have made under a setup is a run, at most two entries of each replica a line but the first.
pub record IsMade (setup : Setup) (lines : List Line) : Type 0 where
  pub played : IsPlayed setup (sent_by lines) (played_by setup lines)
  pub each : (replica : ℕ) → count_of (played_by setup lines) replica + 2 ≤ 2 * length lines
  pub all : length (played_by setup lines).history + 4 ≤ 4 * length lines

-- nothing was played
nothing_is_played : (setup : Setup) → IsPlayed setup (replicate setup.replicas []) not_played
nothing_is_played setup = record {
  run = EachAfter-nil (IsLawful setup);
  handed = omega arith;
  moments = λ replica. omega arith;
  size = length-replicate setup.replicas [];
  receivers = λ from within. sym (get_or-replicate setup.replicas from [] [] within);
}

-- lines that set up have made nothing
pub setting_is_made : (setup : Setup) (lines : List Line)
    → is_past_setup lines ≡ false
    → (setup_of lines).replicas ≡ setup.replicas
    → 1 ≤ length lines
    → IsMade setup lines
setting_is_made setup lines not_past same some =
    let none : played_by setup lines ≡ not_played = unplayed setup lines not_past in
    let no_message : sent_by lines ≡ replicate setup.replicas [] = unsent lines not_past ∙ ap (λ (n : ℕ). replicate n []) same in
    record {
      played = subst (λ (sent : List (List ℕ)). IsPlayed setup sent (played_by setup lines)) (sym no_message)
          (subst (IsPlayed setup (replicate setup.replicas [])) (sym none) (nothing_is_played setup));
      each = λ replica. omega (arith, ap (λ (p : Played). count_of p replica) none, some);
      all = omega (arith, ap (λ (p : Played). length p.history) none, some);
    }

-- a line that is in place names a message that was sent
addressed : (before : List Line) (l : Line)
    → IsPlacedBy (setup_of before) (is_past_setup before) (sent_by before) l
    → IsAddressed (sent_by before) l
addressed before (line.Take replica from number) in_place = in_place
addressed before other in_place = tt

-- one more line
made_more : (setup : Setup) (before : List Line) (l : Line)
    → IsSetup setup
    → IsMade setup before
    → length before < SCRIPT_LINES
    → IsLineInRange setup l
    → IsPlacedBy (setup_of before) (is_past_setup before) (sent_by before) l
    → sent_by (before ++ l ∷ []) ≡ sent_after (sent_by before) l
    → IsMade setup (before ++ l ∷ [])
made_more setup before l good made short names in_place sent =
    let played = played_by setup before in
    let onward : played_by setup (before ++ l ∷ []) ≡ after_line setup played l = fold_push (after_line setup) not_played before l in
    let room : HasRoom played = record {
      few = omega (arith, made.all, short);
      each = λ replica. omega (arith, made.each replica, short);
    } in
    let grown = line_grows setup played l names in
    record {
      played = subst (λ (sent : List (List ℕ)). IsPlayed setup sent (played_by setup (before ++ l ∷ []))) (sym sent)
          (subst (IsPlayed setup (sent_after (sent_by before) l)) (sym onward)
          (line_is_played setup good (sent_by before) played l made.played room names (addressed before l in_place)));
      each = λ replica. omega (arith, ap (λ (p : Played). count_of p replica) onward, grown.each replica, made.each replica, length_push before l);
      all = omega (arith, ap (λ (p : Played). length p.history) onward, grown.all, made.all, length_push before l);
    }

-- the setup of a script isn't refused, and what its lines have made is a run
pub record IsWhole (lines : List Line) : Type 0 where
  pub good : IsSetup (setup_of lines)
  pub made : IsMade (setup_of lines) lines

whole_start : (first : Line) → IsStart first → IsWhole (first ∷ [])
whole_start (line.Start n m a k) good = record {
  good = good;
  made = setting_is_made (setup_of (line.Start n m a k ∷ [])) (line.Start n m a k ∷ []) refl refl (omega arith);
}
whole_start other good = absurd good

whole_more : (before : List Line) (l : Line)
    → 1 ≤ length before
    → length before < SCRIPT_LINES
    → FitsAfter before l
    → IsWhole before
    → IsWhole (before ++ l ∷ [])
whole_more before l some short fits is = go (sets_up l) refl
  where
    counts : SameCounts (setup_after (setup_of before) l) (setup_of before)
    counts = counts_kept (setup_of before) (setup_of before) l fits.in_range

    onward : setup_of (before ++ l ∷ []) ≡ setup_after (setup_of before) l
    onward = setup_of-push before l

    go : (up : Bool) → sets_up l ≡ up → IsWhole (before ++ l ∷ [])
    go true up =
        let fit = setting_fits before l fits up in
        record {
          good = subst IsSetup (sym onward) fit.0;
          made = setting_is_made (setup_of (before ++ l ∷ [])) (before ++ l ∷ []) (not_past-push before l fit.1 up) refl (omega (arith, length_push before l));
        }
    go false up =
        let same : setup_of (before ++ l ∷ []) ≡ setup_of before = setup_of-kept before l up in
        record {
          good = subst IsSetup (sym same) is.good;
          made = subst (λ (s : Setup). IsMade s (before ++ l ∷ [])) (sym same)
              (made_more (setup_of before) before l is.good is.made short fits.in_range fits.in_place
              (sent_by-push before l (ap (λ (s : Setup). s.replicas) same)));
        }

-- which lines may follow a first one and those after it
abbrev Follows : Line → List Line → Line → Type 0
Follows first before line = FitsAfter (first ∷ before) line

whole_from : (first : Line) (rest : List Line)
    → IsStart first
    → EachAfter (Follows first) rest
    → length rest < SCRIPT_LINES
    → IsWhole (first ∷ rest)
whole_from first rest start =
    from_right (λ (rest : List Line). EachAfter (Follows first) rest → length rest < SCRIPT_LINES → IsWhole (first ∷ rest))
    (λ each short. whole_start first start)
    (λ before l ih each short.
    whole_more (first ∷ before) l (omega arith) (omega (arith, short, length_push before l)) (EachAfter-last (Follows first) before l each)
    (ih (EachAfter-prefix (Follows first) before (before ++ l ∷ []) (IsPrefix-append before (l ∷ [])) each) (omega (arith, short, length_push before l))))
    rest

pub script_is_whole : (lines : List Line)
    → IsScript lines
    → length lines ≤ SCRIPT_LINES
    → IsWhole lines
script_is_whole [] script short = absurd script
script_is_whole (first ∷ rest) script short = whole_from first rest script.0 script.1 (omega (arith, short))

-- ---- a front of a script, and its next line

module _ (first : Line) (before : List Line) where
  -- later lines leave the counts
  counts_stay : (rest : List Line)
      → EachAfter (Follows first) (before ++ rest)
      → SameCounts (setup_of (first ∷ before ++ rest)) (setup_of (first ∷ before))
  counts_stay =
      from_right (λ (rest : List Line). EachAfter (Follows first) (before ++ rest) → SameCounts (setup_of (first ∷ before ++ rest)) (setup_of (first ∷ before)))
      (λ each. subst (λ (ls : List Line). SameCounts (setup_of (first ∷ ls)) (setup_of (first ∷ before))) (sym (append-nil before)) (record { replicas = refl; conits = refl }))
      (λ rest l ih each.
      let whole : before ++ (rest ++ l ∷ []) ≡ (before ++ rest) ++ l ∷ [] = sym (append_assoc before rest (l ∷ [])) in
      let each_whole : EachAfter (Follows first) ((before ++ rest) ++ l ∷ []) = subst (EachAfter (Follows first)) whole each in
      let earlier = ih (EachAfter-prefix (Follows first) (before ++ rest) ((before ++ rest) ++ l ∷ []) (IsPrefix-append (before ++ rest) (l ∷ [])) each_whole) in
      let fits = EachAfter-last (Follows first) (before ++ rest) l each_whole in
      let last = counts_kept (setup_of (first ∷ before ++ rest)) (setup_of (first ∷ before ++ rest)) l fits.in_range in
      let onward : setup_of (first ∷ before ++ (rest ++ l ∷ [])) ≡ setup_after (setup_of (first ∷ before ++ rest)) l =
      ap (λ (ls : List Line). setup_of (first ∷ ls)) whole ∙ setup_of-push (first ∷ before ++ rest) l in
      record {
        replicas = ap (λ (s : Setup). s.replicas) onward ∙ last.replicas ∙ earlier.replicas;
        conits = ap (λ (s : Setup). s.conits) onward ∙ last.conits ∙ earlier.conits;
      })

  -- and past the setup they leave all of it
  setup_stays : is_past_setup (first ∷ before) ≡ true
      → (rest : List Line)
      → EachAfter (Follows first) (before ++ rest)
      → setup_of (first ∷ before ++ rest) ≡ setup_of (first ∷ before)
  setup_stays past =
      from_right (λ (rest : List Line). EachAfter (Follows first) (before ++ rest) → setup_of (first ∷ before ++ rest) ≡ setup_of (first ∷ before))
      (λ each. ap (λ (ls : List Line). setup_of (first ∷ ls)) (append-nil before))
      (λ rest l ih each.
      let whole : before ++ (rest ++ l ∷ []) ≡ (before ++ rest) ++ l ∷ [] = sym (append_assoc before rest (l ∷ [])) in
      let each_whole : EachAfter (Follows first) ((before ++ rest) ++ l ∷ []) = subst (EachAfter (Follows first)) whole each in
      let earlier = ih (EachAfter-prefix (Follows first) (before ++ rest) ((before ++ rest) ++ l ∷ []) (IsPrefix-append (before ++ rest) (l ∷ [])) each_whole) in
      let fits = EachAfter-last (Follows first) (before ++ rest) l each_whole in
      ap (λ (ls : List Line). setup_of (first ∷ ls)) whole ∙ setup_of-kept (first ∷ before ++ rest) l (is_other rest l fits (sets_up l) refl) ∙ earlier)
    where
      is_other : (rest : List Line) (l : Line)
          → FitsAfter (first ∷ before ++ rest) l
          → (up : Bool)
          → sets_up l ≡ up
          → sets_up l ≡ false
      is_other rest l fits false up = up
      is_other rest l fits true up =
          absurd (false≢true (sym (setting_fits (first ∷ before ++ rest) l fits up).1 ∙ past_more (first ∷ before) rest past))

  front_is_made : (rest : List Line)
      → IsStart first
      → EachAfter (Follows first) (before ++ rest)
      → length before < SCRIPT_LINES
      → IsMade (setup_of (first ∷ before ++ rest)) (first ∷ before)
  front_is_made rest start each short = go (is_past_setup (first ∷ before)) refl
    where
      go : (past : Bool)
          → is_past_setup (first ∷ before) ≡ past
          → IsMade (setup_of (first ∷ before ++ rest)) (first ∷ before)
      go false past = setting_is_made (setup_of (first ∷ before ++ rest)) (first ∷ before) past (sym (counts_stay rest each).replicas) (omega arith)
      go true past =
          subst (λ (s : Setup). IsMade s (first ∷ before)) (sym (setup_stays past rest each))
          (whole_from first before start (EachAfter-prefix (Follows first) before (before ++ rest) (IsPrefix-append before rest) each) short).made

-- the message of a `take`
its_message : (setup : Setup) (before : List Line) (played : Played) (l : Line)
    → IsPlayed setup (sent_by before) played
    → IsLineInRange setup l
    → IsPlacedBy (setup_of before) (is_past_setup before) (sent_by before) l
    → HasItsMessage setup played.history l
its_message setup before played (line.Take replica from number) is names in_place =
    named_message setup (sent_by before) played is replica from number names.second_in in_place
its_message setup before played other is names in_place = tt

pub front_is_ready : (front rest : List Line) (next : Line)
    → 1 ≤ length front
    → IsScript (front ++ next ∷ rest)
    → length (front ++ next ∷ rest) ≤ SCRIPT_LINES
    → IsReady (setup_of (front ++ next ∷ rest)) (played_by (setup_of (front ++ next ∷ rest)) front) next
front_is_ready [] rest next some script short = absurd (omega arith)
front_is_ready (first ∷ before) rest next some script short =
    let setup = setup_of (first ∷ before ++ next ∷ rest) in
    let few : length (first ∷ before) < SCRIPT_LINES = omega (arith, short, length-append before (next ∷ rest)) in
    let made : IsMade setup (first ∷ before) = front_is_made first before (next ∷ rest) script.0 script.1 (omega (arith, few)) in
    let counts = counts_stay first before (next ∷ rest) script.1 in
    let fits : FitsAfter (first ∷ before) next = script.1 before rest next refl in
    let names : IsLineInRange setup next =
    line_kept (setup_of (first ∷ before)) setup (record { replicas = sym counts.replicas; conits = sym counts.conits }) next fits.in_range in
    record {
      run = made.played.run;
      handed = made.played.handed;
      moments = made.played.moments;
      room = λ replica. omega (arith, made.each replica, few);
      clocks = λ replica. omega (arith, clock-run setup (played_by setup (first ∷ before)).history made.played.run replica, made.all, few);
      in_range = names;
      message = its_message setup (first ∷ before) (played_by setup (first ∷ before)) next made.played names fits.in_place;
    }
