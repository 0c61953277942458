use Rattle.std.proofs.Common.{length, sym, ap, ◌∙◌}
use Rattle.std.proofs.lemmas.List.{length-map}
use Rattle.std.proofs.lemmas.List.FromFn.{length-range_with_len}
use Rattle.tact_base.specs.Setup.{replicas_of}
use Rattle.run_model.specs.Histories.{part_of}
use Rattle.run_model.specs.Taking.{have}
use Rattle.session_guard.proofs.ClientLemmas.{client_there}
use Rattle.session_guard.proofs.journey.Journey.visit.Goals as goal

pub lack-requires : goal.lack-requires
lack-requires c =
    let old = c.args.self.now in
    let client = c.index.result.now in
    let is = c.requires.keeps.clients c.args.pass client (client_there old.clients.items c.args.pass client c.requires.pass c.index.ensures) in
    let sized = length-map (replicas_of old.network.setup) (have c.args.replica (part_of old.network.entries c.args.replica)) ∙ length-range_with_len 0 old.network.setup.replicas in
    ap length (c.items.ensures.items ∙ c.haves-haves.ensures) ∙ sized ∙ sym is.carried.is_pass.reads
