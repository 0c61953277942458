-- What a client may ask for with an amount that is reserved.
use Rattle.std.specs.Prelude.{◌≡◌, ℕ, ◌≤◌, Option, None, Some, unsigned_abs}
use Rattle.tact_base.specs.Setup.{Setup}
use Rattle.tact_base.specs.declared.limits.TheConstants.{AMOUNT_MAX}
use Rattle.run_model.specs.Ranges.{IsOpInRange, IsRequestInRange, IsWeightInRange}
use Rattle.run_model.specs.declared.call.Reply.{Reply}
use Rattle.run_model.specs.declared.call.Reply.TheVariants as reply
use Rattle.run_model.specs.declared.call.Request.{Request}
use Rattle.run_model.specs.declared.call.Request.TheVariants as request

-- What may be asked with an amount on a conit: a held write and a release take no more than it out of what is reserved
-- there. So a release is in range wherever what is reserved is.
abbrev pub MayAskWith : Setup → ℕ → ℕ → Request → Type 0
MayAskWith setup conit amount (request.Held weight op) =
    IsWeightInRange setup weight × IsOpInRange op × (weight.conit ≡ conit) × (unsigned_abs weight.nweight ≤ amount)
MayAskWith setup conit amount (request.Reserve at more) = (at ≡ conit) × (more ≤ AMOUNT_MAX)
MayAskWith setup conit amount (request.Release at back) = (at ≡ conit) × (back ≤ amount)
MayAskWith setup conit amount (request.Write weights op) = IsRequestInRange setup (request.Write weights op)
MayAskWith setup conit amount (request.Read key needs) = IsRequestInRange setup (request.Read key needs)

-- on which conit a request is that has to do with what is reserved; a write or a read counts for the first
abbrev pub conit_of : Request → ℕ
conit_of (request.Held weight op) = weight.conit
conit_of (request.Reserve conit amount) = conit
conit_of (request.Release conit amount) = conit
conit_of (request.Write weights op) = 0
conit_of (request.Read key needs) = 0

-- what a request takes out of an allowance: a held write its size, a release its amount
abbrev pub given_up : Request → Option ℕ
given_up (request.Held weight op) = Some (unsigned_abs weight.nweight)
given_up (request.Release conit amount) = Some amount
given_up (request.Reserve conit amount) = None
given_up (request.Write weights op) = None
given_up (request.Read key needs) = None

-- what a reserve is granted
abbrev pub granted_if : Reply → ℕ → Option ℕ
granted_if reply.Granted amount = Some amount
granted_if given amount = None

abbrev pub granted_to : Request → Reply → Option ℕ
granted_to (request.Reserve conit amount) given = granted_if given amount
granted_to (request.Held weight op) given = None
granted_to (request.Release conit amount) given = None
granted_to (request.Write weights op) given = None
granted_to (request.Read key needs) given = None
