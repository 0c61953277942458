use Rattle.std.specs.Int.{w64}
use Rattle.std.proofs.lemmas.Int.{to_z-of_z}
use Rattle.std.proofs.Common.{rules, FitsSigned, ap, ◌∙◌}
use Rattle.tact_base.specs.Images.{image_of, ops_of}
use Rattle.replica_core.specs.Seen.{SeenState}
use Rattle.replica_core.proofs.ImageSteps.{value_in-image}
use Rattle.replica_core.proofs.seen.Seen.get.Goals as goal

pub returns : goal.returns
returns c =
    let inside = c.self.inside in
    let fits : FitsSigned w64 c.get.result = search rules in
    to_z-of_z w64 c.get.result fits ∙ c.get.ensures ∙ value_in-image inside.ordered.writes c.self.invariant.sorted inside.ordered.point inside.image c.self.invariant.has_image c.args.key
    ∙ ap (λ (s : SeenState). image_of (ops_of s.writes) c.args.key) c.self.view_is
