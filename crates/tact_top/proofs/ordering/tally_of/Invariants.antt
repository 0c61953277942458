use Rattle.std.proofs.Common.{◌≡◌, take}
use Rattle.std.specs.Prelude.{count_by}
use Rattle.tact_top.specs.PrimaryText.{is_accept, is_post, is_take}
use Rattle.tact_top.proofs.ordering.tally_of.Given as goal

abbrev pub invariant-loop-event : goal.invariant-loop-event
invariant-loop-event l =
    (l.tally.accepts ≡ count_by is_accept (take l.event-index l.events)) × (l.tally.posts ≡ count_by is_post (take l.event-index l.events))
    × (l.tally.takes ≡ count_by is_take (take l.event-index l.events))
