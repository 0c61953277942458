use Rattle.std.proofs.Common.{ℕ, List, ◌≡◌, ◌++◌, ap, ◌∙◌, arith}
use Rattle.session_guard.specs.Roams.{RoamState, roamed_by}
use Rattle.tact_top.specs.RoamText.{passes_text, visits_text}
use Rattle.tact_top.proofs.roaming.summary_of.Goals as goal

pub put_passes-requires : goal.put_passes-requires
put_passes-requires c = omega (arith, ap (λ (roam : RoamState). roam.passes) c.in_ok-visits.ensures.drawn)

pub returns : goal.returns
returns c =
    let number = c.args.number in
    let made = roamed_by c.in_ok-visits.visits.roam in
    c.in_ok-put_passes.ensures
    ∙ ap (λ (text : List ℕ). text ++ passes_text made)
    (c.in_ok-put_visits.ensures ∙ ap (λ (text : List ℕ). text ++ visits_text number made) c.new-text.ensures)
    ∙ ap (λ (roam : RoamState). visits_text number (roamed_by roam) ++ passes_text (roamed_by roam)) c.in_ok-visits.ensures.drawn
