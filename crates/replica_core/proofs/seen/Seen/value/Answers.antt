use Rattle.std.specs.Int.{w64}
use Rattle.std.proofs.lemmas.Int.{to_z-of_z}
use Rattle.std.proofs.Common.{rules, FitsSigned, ap, ◌∙◌}
use Rattle.tact_base.specs.Sums.{net_sum}
use Rattle.replica_core.specs.Seen.{SeenState, weights_of}
use Rattle.replica_core.proofs.SeenLemmas.{value-is}
use Rattle.replica_core.proofs.seen.Seen.value.Goals as goal

pub returns : goal.returns
returns c =
    let writes = c.self.inside.ordered.writes in
    let fits : FitsSigned w64 c.net.result = search rules in
    to_z-of_z w64 c.net.result fits ∙ c.net.ensures (weights_of writes) c.self.invariant.has_sums.all ∙ value-is writes c.args.conit
    ∙ ap (λ (s : SeenState). net_sum s.writes c.args.conit) c.self.view_is
