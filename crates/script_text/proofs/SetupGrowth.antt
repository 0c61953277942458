-- The setup of a script as it grows by a line.
use Rattle.std.proofs.Common.{◌≡◌, ℕ, Bool, true, false, not, ◌||◌, List, [], ◌∷◌, ◌++◌, refl, sym, ap, ◌∙◌}
use Rattle.std.specs.List.{fold}
use Rattle.std.specs.Prelude.{replicate}
use Rattle.std.proofs.lemmas.Bool.{false≢true}
use Rattle.std.proofs.lemmas.List.Folds.{list_any-append}
use Rattle.std.proofs.lemmas.List.Sums.{fold_push}
use Rattle.tact_base.specs.Setup.{Setup, IsSetup}
use Rattle.run_model.specs.ScriptRuns.{Played, not_played, after_line, played_by}
use Rattle.run_model.specs.declared.script_line.Line.{Line}
use Rattle.run_model.specs.declared.script_line.Line.TheVariants as line
use Rattle.script_text.specs.LineRanges.{IsLineInRange}
use Rattle.script_text.specs.Scripts.{FitsAfter}
use Rattle.script_text.specs.Sending.{sent_after, sent_by}
use Rattle.script_text.specs.Setups.{opening, bounded, setup_after, setup_of, sets_up, is_past_setup}

-- a line that doesn't set up leaves the setup
setup_kept : (s : Setup) (l : Line) → sets_up l ≡ false → setup_after s l ≡ s
setup_kept s (line.Start n m a k) h = absurd (false≢true (sym h))
setup_kept s (line.Bound o c a k) h = absurd (false≢true (sym h))
setup_kept s other h = refl

-- a later line leaves the counts
pub record SameCounts (s t : Setup) : Type 0 where
  pub replicas : s.replicas ≡ t.replicas
  pub conits : s.conits ≡ t.conits

pub counts_kept : (s t : Setup) (l : Line)
    → IsLineInRange t l
    → SameCounts (setup_after s l) s
unfolding bounded
counts_kept s t (line.Start n m a k) names = absurd names
counts_kept s t (line.Bound o c a k) names = record { replicas = refl; conits = refl }
counts_kept s t other names = record { replicas = refl; conits = refl }

pub setup_of-push : (ls : List Line) (l : Line)
    → setup_of (ls ++ l ∷ []) ≡ setup_after (setup_of ls) l
setup_of-push ls l = fold_push setup_after (opening 0 0 0 0) ls l

pub setup_of-kept : (ls : List Line) (l : Line)
    → sets_up l ≡ false
    → setup_of (ls ++ l ∷ []) ≡ setup_of ls
setup_of-kept ls l h = setup_of-push ls l ∙ setup_kept (setup_of ls) l h

pub sent_by-push : (ls : List Line) (l : Line)
    → (setup_of (ls ++ l ∷ [])).replicas ≡ (setup_of ls).replicas
    → sent_by (ls ++ l ∷ []) ≡ sent_after (sent_by ls) l
sent_by-push ls l same =
    ap (λ (n : ℕ). fold sent_after (replicate n []) (ls ++ l ∷ [])) same
    ∙ fold_push sent_after (replicate (setup_of ls).replicas []) ls l

-- a setup line that may follow makes a setup that isn't refused, and all before it are setup lines
pub setting_fits : (before : List Line) (l : Line)
    → FitsAfter before l
    → sets_up l ≡ true
    → IsSetup (setup_after (setup_of before) l) × (is_past_setup before ≡ false)
setting_fits before (line.Start n m a k) fits h = absurd fits.in_range
setting_fits before (line.Bound o c a k) fits h = fits.in_place
setting_fits before other fits h = absurd (false≢true h)

-- whether lines are past the setup, with more of them
pub past_more : (before after : List Line)
    → is_past_setup before ≡ true
    → is_past_setup (before ++ after) ≡ true
past_more before after h =
    list_any-append (λ line. not (sets_up line)) before after ∙ ap (λ (b : Bool). b || is_past_setup after) h

pub not_past-push : (before : List Line) (l : Line)
    → is_past_setup before ≡ false
    → sets_up l ≡ true
    → is_past_setup (before ++ l ∷ []) ≡ false
not_past-push before l h up =
    list_any-append (λ line. not (sets_up line)) before (l ∷ [])
    ∙ ap (λ (b : Bool). b || (not (sets_up l) || false)) h
    ∙ ap (λ (b : Bool). not b || false) up

-- lines that set up make no entry and send nothing
unplayed_from : (s : Setup) (played : Played) (ls : List Line)
    → is_past_setup ls ≡ false
    → fold (after_line s) played ls ≡ played
unplayed_from s played [] h = refl
unplayed_from s played (line.Start n m a k ∷ ls) h = unplayed_from s played ls h
unplayed_from s played (line.Bound o c a k ∷ ls) h = unplayed_from s played ls h
unplayed_from s played (other ∷ ls) h = absurd (false≢true (sym h))

pub unplayed : (s : Setup) (ls : List Line)
    → is_past_setup ls ≡ false
    → played_by s ls ≡ not_played
unplayed s ls h = unplayed_from s not_played ls h

unsent_from : (sent : List (List ℕ)) (ls : List Line)
    → is_past_setup ls ≡ false
    → fold sent_after sent ls ≡ sent
unsent_from sent [] h = refl
unsent_from sent (line.Start n m a k ∷ ls) h = unsent_from sent ls h
unsent_from sent (line.Bound o c a k ∷ ls) h = unsent_from sent ls h
unsent_from sent (other ∷ ls) h = absurd (false≢true (sym h))

pub unsent : (ls : List Line)
    → is_past_setup ls ≡ false
    → sent_by ls ≡ replicate (setup_of ls).replicas []
unsent ls h = unsent_from (replicate (setup_of ls).replicas []) ls h
