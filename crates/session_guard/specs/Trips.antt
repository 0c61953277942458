-- The trip of a client through a history: where its writes were accepted and its reads were answered.
use Rattle.std.specs.Prelude.{ℕ, ◌==◌, ◌&&◌, Bool, true, false, List, filter, length, slice_get}
use Rattle.std.specs.List.{range_with_len}
use Rattle.std.specs.Option.{option_map_or}
use Rattle.run_model.specs.declared.call.Reply.{Reply}
use Rattle.run_model.specs.declared.call.Reply.TheVariants as reply
use Rattle.run_model.specs.declared.entry.Act.{Act}
use Rattle.run_model.specs.declared.entry.Act.TheVariants as act
use Rattle.run_model.specs.declared.entry.Entry.{Entry}

-- a reply that accepts a write, or tells a value
abbrev pub is_granted : Reply → Bool
is_granted (reply.Done index stamp) = true
is_granted (reply.Value value sums) = true
is_granted other = false

-- a call of a client with such a reply
abbrev pub is_stop : ℕ → Act → Bool
is_stop client (act.Call caller number request reply) = (caller == client) && is_granted reply
is_stop client other = false

-- the rising list of the positions of these
abbrev pub trip_of : List Entry → ℕ → List ℕ
trip_of history client =
    filter (λ position. option_map_or (λ entry. is_stop client entry.act) (slice_get history position) false) (range_with_len 0 (length history))
