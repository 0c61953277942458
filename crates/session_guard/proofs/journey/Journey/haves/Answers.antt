use Rattle.std.proofs.Common.{◌∙◌}
use Rattle.run_model.specs.Histories.{part_of}
use Rattle.session_guard.proofs.Going.{haves_stand}
use Rattle.session_guard.proofs.journey.Journey.haves.Goals as goal

pub returns : goal.returns
returns c =
    let network = c.args.self.now.network in
    c.haves_of.ensures
    ∙ haves_stand network.setup c.args.replica (part_of network.entries c.args.replica) c.at.result.now.core c.at.ensures.stands c.at.ensures.one
