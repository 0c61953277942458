-- The writes that a replica accepted itself.
use Rattle.std.specs.Prelude.{ℕ, List, [], ◌∷◌, Option, None, Some}
use Rattle.std.specs.List.{filter_map}
use Rattle.tact_base.specs.declared.conit_list.Weight.{Weight}
use Rattle.tact_base.specs.declared.write.Op.{Op}
use Rattle.tact_base.specs.declared.write.Write.{Write}
use Rattle.run_model.specs.declared.call.Request.{Request}
use Rattle.run_model.specs.declared.call.Request.TheVariants as request
use Rattle.run_model.specs.declared.call.Reply.{Reply}
use Rattle.run_model.specs.declared.call.Reply.TheVariants as reply
use Rattle.run_model.specs.declared.entry.Act.TheVariants as act
use Rattle.run_model.specs.declared.entry.Act.{Act}
use Rattle.run_model.specs.declared.entry.Entry.{Entry}

-- the weights and the operation of a write that is asked for; a held one has a list of its one weight
abbrev pub asked_write : Request → Option (List Weight × Op)
asked_write (request.Write weights op) = Some (weights, op)
asked_write (request.Held weight op) = Some (weight ∷ [], op)
asked_write other = None

-- the index and the stamp of an accepted write
abbrev pub done_as : Reply → Option (ℕ × ℕ)
done_as (reply.Done index stamp) = Some (index, stamp)
done_as other = None

-- the write that a call accepted at a replica and a moment
abbrev pub accepted_as : ℕ → ℕ → Option (List Weight × Op) → Option (ℕ × ℕ) → Option Write
accepted_as replica moment (Some asked) (Some done) =
    Some (record { origin = replica; index = done.0; stamp = done.1; moment = moment; weights = asked.0; op = asked.1 })
accepted_as replica moment _ _ = None

abbrev pub accepted_by : ℕ → ℕ → Act → Option Write
accepted_by replica moment (act.Call client number request reply) = accepted_as replica moment (asked_write request) (done_as reply)
accepted_by replica moment other = None

-- the writes of a part, one for each call answered Done
abbrev pub own : List Entry → List Write
own part = filter_map (λ entry. accepted_by entry.replica entry.moment entry.act) part
