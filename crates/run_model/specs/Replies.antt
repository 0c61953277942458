-- The reply that is due to a request: the first case that applies.
use Rattle.std.specs.Prelude.{ℕ, ◌+◌, ◌==◌, nat_lt, ℤ, pos, negsuc, unsigned_abs, List, map, slice_get, Option, None, Some, if◌then◌else◌, unwrap_or}
use Rattle.std.specs.List.{filter_map}
use Rattle.std.specs.Option.{option_map}
use Rattle.tact_base.specs.Admission.{Hindrance, lent as too_much_lent, unordered, stale, hindrance, wanted_moment}
use Rattle.tact_base.specs.Covers.{slowest, first_late}
use Rattle.tact_base.specs.Shares.{fit_of}
use Rattle.tact_base.specs.Sums.{order_sum}
use Rattle.tact_base.specs.declared.conit_list.Need.{Need}
use Rattle.tact_base.specs.declared.fit.Fit.{Fit}
use Rattle.tact_base.specs.declared.fit.Fit.TheVariants as fit
use Rattle.tact_base.specs.declared.conit_list.Weight.{Weight}
use Rattle.tact_base.specs.Setup.{Setup, replicas_of, peers_of}
use Rattle.run_model.specs.Taking.{have, clock, covers_of}
use Rattle.run_model.specs.Missing.{missing_plus, missing_minus, greater_missing, reserved}
use Rattle.run_model.specs.Loans.{share, out}
use Rattle.run_model.specs.Order.{tentative, value, image}
use Rattle.run_model.specs.declared.call.Request.{Request}
use Rattle.run_model.specs.declared.call.Request.TheVariants as request
use Rattle.run_model.specs.declared.call.Reply.{Reply}
use Rattle.run_model.specs.declared.call.Reply.TheVariants as reply
use Rattle.run_model.specs.declared.entry.Entry.{Entry}

-- the first of the replies that some places give
abbrev pub first_some : {A : Type 0} → (A → Option Reply) → List A → Option Reply
first_some f items = slice_get (filter_map f items) 0

-- what a share of a bound on a conit answers, as a reply where it refuses
abbrev pub refused_as : ℕ → Fit → Option Reply
refused_as conit fit.Fits = None
refused_as conit (fit.TooHeavy peer weight share) = Some (reply.TooHeavy conit peer weight share)
refused_as conit (fit.WaitHeld peer reserved weight share) = Some (reply.WaitHeld conit peer reserved weight share)
refused_as conit (fit.WaitShare peer missing reserved weight share) = Some (reply.WaitShare conit peer missing reserved weight share)

-- what an amount on a conit gets of a peer, where it may miss `missing` beside
abbrev pub refusal : Setup → ℕ → List Entry → ℕ → ℕ → ℕ → ℕ → Option Reply
refusal setup replica part conit peer amount missing =
    refused_as conit (fit_of peer (share setup replica part peer conit) (reserved part conit) missing amount)

-- what a peer may miss of the sign of a weight
abbrev pub missing_of_sign : ℕ → List Entry → ℕ → ℕ → ℤ → ℕ
missing_of_sign replica part peer conit (pos n) = missing_plus replica part peer conit
missing_of_sign replica part peer conit (negsuc n) = missing_minus replica part peer conit

-- what a weight gets of the peers, in rising number
abbrev pub weight_refusal : Setup → ℕ → List Entry → Weight → Option Reply
weight_refusal setup replica part weight =
    first_some (λ peer. refusal setup replica part weight.conit peer (unsigned_abs weight.nweight) (missing_of_sign replica part peer weight.conit weight.nweight)) (peers_of setup replica)

-- a write is accepted with the next index and the next stamp
abbrev pub done : ℕ → List Entry → Reply
done replica part = reply.Done (have replica part replica) (clock part + 1)

-- what a need gets: the hindrance that it meets, as a reply
abbrev pub waiting_by : Need → ℕ → Hindrance → Reply
waiting_by need moment (too_much_lent holder out total) = reply.WaitLent need.conit holder out total need.num
waiting_by need moment (unordered slowest tentative) = reply.WaitOrder need.conit slowest tentative need.order
waiting_by need moment (stale late) = reply.WaitStale need.conit late.replica late.moment (wanted_moment moment need)

-- what the replicas hold out of a replica's bound on a conit, 0 of its own
abbrev pub outs_of : Setup → ℕ → List Entry → ℕ → List ℕ
outs_of setup replica part conit = map (λ holder. if holder == replica then 0 else out setup replica part holder conit) (replicas_of setup)

abbrev pub need_refusal : Setup → ℕ → List Entry → ℕ → Need → Option Reply
need_refusal setup replica part moment need =
    option_map (waiting_by need moment)
    (hindrance need (outs_of setup replica part need.conit) (order_sum (tentative setup replica part) need.conit)
    (slowest (covers_of setup replica part moment)) (first_late (covers_of setup replica part moment) replica (wanted_moment moment need)))

-- the reply to a request that is made of a part's replica at a moment
abbrev pub reply_of : Setup → ℕ → List Entry → ℕ → Request → Reply
reply_of setup replica part moment (request.Write weights op) =
    unwrap_or (first_some (weight_refusal setup replica part) weights) (done replica part)
reply_of setup replica part moment (request.Held weight op) =
    if nat_lt (reserved part weight.conit) (unsigned_abs weight.nweight)
    then reply.NotHeld weight.conit (reserved part weight.conit) (unsigned_abs weight.nweight) else done replica part
reply_of setup replica part moment (request.Reserve conit amount) =
    unwrap_or (first_some (λ peer. refusal setup replica part conit peer amount (greater_missing replica part peer conit)) (peers_of setup replica)) reply.Granted
reply_of setup replica part moment (request.Release conit amount) =
    if nat_lt (reserved part conit) amount then reply.NotHeld conit (reserved part conit) amount else reply.Released
reply_of setup replica part moment (request.Read key needs) =
    unwrap_or (first_some (need_refusal setup replica part moment) needs)
    (reply.Value (image setup replica part key) (map (λ need. value setup replica part need.conit) needs))
