use Rattle.std.proofs.Common.{◌<◌, length, ap, ◌∙◌, arith}
use Rattle.session_guard.proofs.ClientLemmas.{client_there}
use Rattle.session_guard.proofs.Roaming.{trip_is}
use Rattle.session_guard.specs.Roams.{RoamState, entries_of}
use Rattle.session_guard.specs.Trips.{trip_of}
use Rattle.session_guard.proofs.roam.Roam.trip.Goals as goal

pub returns : goal.returns
returns c =
    let journey = c.self.inside.journey in
    let client = c.index.result.now in
    let within : c.args.pass < length journey.clients.items = omega (arith, c.requires, ap (λ (s : RoamState). s.passes) c.self.view_is) in
    trip_is _ journey c.self.invariant c.args.pass client (client_there journey.clients.items c.args.pass client within c.index.ensures)
    ∙ ap (λ (s : RoamState). trip_of (entries_of s) c.args.pass) c.self.view_is
