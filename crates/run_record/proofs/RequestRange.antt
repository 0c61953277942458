-- The request of a record's entry is in range of its setup, and one in range may stand in a record.
use Rattle.tact_base.specs.Setup.{Setup}
use Rattle.run_model.specs.CallBytes.{IsRequestOf}
use Rattle.run_model.specs.Ranges.{IsRequestInRange}
use Rattle.run_model.specs.declared.call.Request.{Request}
use Rattle.run_model.specs.declared.call.Request.TheVariants as request
use Rattle.run_model.proofs.WeightsInRange.{AreWeightsInRange-kept, IsWeights-in_range}
use Rattle.run_record.proofs.NeedsInRange.{AreNeedsInRange-kept, AreNeedsOf-in_range}

pub request_in_range : (setup : Setup) (asked : Request)
    → IsRequestOf setup.conits asked
    → IsRequestInRange setup asked
request_in_range setup (request.Write weights op) of = ((AreWeightsInRange-kept setup weights of.0.0).0 of.0.1, of.1)
request_in_range setup (request.Held weight op) of = (record { conit = of.0; nweight = of.1; oweight = of.2 }, of.3)
request_in_range setup (request.Reserve conit amount) of = of
request_in_range setup (request.Release conit amount) of = of
request_in_range setup (request.Read key needs) of = (of.0, AreNeedsInRange-kept setup needs of.1)

pub request_of_setup : (setup : Setup) (asked : Request)
    → IsRequestInRange setup asked
    → IsRequestOf setup.conits asked
request_of_setup setup (request.Write weights op) within =
    let kept = IsWeights-in_range setup weights within.0 in
    ((kept, (AreWeightsInRange-kept setup weights kept).1 within.0), within.1)
request_of_setup setup (request.Held weight op) within = (within.0.conit, within.0.nweight, within.0.oweight, within.1)
request_of_setup setup (request.Reserve conit amount) within = within
request_of_setup setup (request.Release conit amount) within = within
request_of_setup setup (request.Read key needs) within = (within.0, AreNeedsOf-in_range setup needs within.1)
