use Rattle.std.proofs.Common.{ℕ, List, ◌≡◌, ◌++◌, ap, ◌∙◌}
use Rattle.primary_commit.specs.Happenings.{Happened}
use Rattle.primary_commit.specs.declared.primary.Event.{Event}
use Rattle.drawn_events.specs.DrawnEvents.{drawn_events}
use Rattle.tact_top.specs.PrimaryText.{events_text, peers_text}
use Rattle.tact_top.proofs.ordering.summary_of.Goals as goal

pub returns : goal.returns
returns c =
    let number = c.args.number in
    let drawn = ap (λ (happened : Happened). happened.events) c.in_ok-primary.ensures.drawn in
    c.in_ok-put_peers.ensures
    ∙ ap (λ (text : List ℕ). text ++ peers_text c.in_ok-primary.primary.events)
    (c.in_ok-put_events.ensures ∙ ap (λ (text : List ℕ). text ++ events_text number c.events.result.now) c.new-text.ensures
    ∙ ap (λ (events : List Event). events_text number events) c.events.ensures)
    ∙ ap (λ (events : List Event). events_text number events ++ peers_text events) drawn
