use Rattle.std.proofs.Common.{ap, ap₂, ◌∙◌, Option}
use Rattle.std.specs.Option.{option_or}
use Rattle.tact_base.specs.WriteOrder.{committed_to}
use Rattle.replica_core.specs.Seen.{SeenState, last_one}
use Rattle.replica_core.specs.declared.last_one.LastOne.{LastOne}
use Rattle.replica_core.proofs.SeenLemmas.{last-all}
use Rattle.replica_core.proofs.seen.Seen.last_committed.Goals as goal

pub returns : goal.returns
returns c =
    let old = c.self.inside.ordered in
    c.or.ensures
    ∙ ap₂ (λ (late early : Option LastOne). option_or late early) (c.last_of.ensures ∙ ap last_one c.committed.ensures.committed) c.self.invariant.gone_last
    ∙ last-all (committed_to old.point old.writes) old.dropped
    ∙ ap (λ (s : SeenState). last_one (committed_to s.point s.writes)) c.self.view_is
