-- What a replica replies to a call, by what it keeps.
use Rattle.std.specs.Prelude.{ℕ, ◌+◌, nat_lt, unsigned_abs, List, length, if◌then◌else◌, unwrap_or}
use Rattle.tact_base.specs.declared.conit_list.Weight.{Weight}
use Rattle.split_budget.specs.Budgets.{reserved_on}
use Rattle.run_model.specs.Replies.{first_some}
use Rattle.run_model.specs.declared.call.Reply.{Reply}
use Rattle.run_model.specs.declared.call.Reply.TheVariants as reply
use Rattle.run_model.specs.declared.call.Request.{Request}
use Rattle.run_model.specs.declared.call.Request.TheVariants as request
use Rattle.replica_core.specs.Calling.{refusal_of, reserve_refusal}
use Rattle.replica_core.specs.Reading.{read_reply}
use Rattle.replica_core.specs.States.{Core, log_at}

-- a write is accepted with the next index and the next stamp
abbrev pub accepting_reply : Core → Reply
accepting_reply core = reply.Done (length (log_at core core.replica)) (core.writes.clock + 1)

-- to each kind of request: the refusal of the first peer that refuses, or that less is reserved than is asked for; else
-- that it is granted
abbrev pub write_reply : Core → List Weight → Reply
write_reply core weights = unwrap_or (first_some (refusal_of core.budgets) weights) (accepting_reply core)

abbrev pub held_reply : Core → Weight → Reply
held_reply core weight =
    if nat_lt (reserved_on core.budgets weight.conit) (unsigned_abs weight.nweight)
    then reply.NotHeld weight.conit (reserved_on core.budgets weight.conit) (unsigned_abs weight.nweight) else accepting_reply core

abbrev pub reserve_reply : Core → ℕ → ℕ → Reply
reserve_reply core conit amount = unwrap_or (reserve_refusal core.budgets conit amount) reply.Granted

abbrev pub release_reply : Core → ℕ → ℕ → Reply
release_reply core conit amount =
    if nat_lt (reserved_on core.budgets conit) amount then reply.NotHeld conit (reserved_on core.budgets conit) amount else reply.Released

-- and to a request whose entry has this moment
abbrev pub reply_in : Core → ℕ → Request → Reply
reply_in core moment (request.Write weights op) = write_reply core weights
reply_in core moment (request.Held weight op) = held_reply core weight
reply_in core moment (request.Reserve conit amount) = reserve_reply core conit amount
reply_in core moment (request.Release conit amount) = release_reply core conit amount
reply_in core moment (request.Read key needs) = read_reply core moment key needs
