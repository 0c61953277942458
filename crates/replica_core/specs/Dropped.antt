-- What a replica gives up: the committed writes that each replica is known to have, as it is judged when it takes a
-- message (timestamped anti-entropy after Golding, which gives up what all have acknowledged).
use Rattle.std.specs.Prelude.{ℕ, ◌+◌, ◌==◌, not, nat_lt, List, ◌∷◌, filter, map, take, drop, reverse, is_none}
use Rattle.std.specs.List.{prefix_len}
use Rattle.tact_base.specs.Covers.{least_of}
use Rattle.tact_base.specs.Setup.{Setup, peers_of}
use Rattle.tact_base.specs.declared.write.Write.{Write}
use Rattle.run_model.specs.Histories.{taken_by_act, greatest}
use Rattle.run_model.specs.Order.{committed}
use Rattle.run_model.specs.Taking.{have, known}
use Rattle.run_model.specs.declared.entry.Entry.{Entry}

-- the replicas that may lack writes of an origin which a replica has: all but the origin and that replica
abbrev pub may_lack : Setup → ℕ → ℕ → List ℕ
may_lack setup replica origin = filter (λ peer. not (peer == origin)) (peers_of setup replica)

-- how many writes of an origin each replica is known to have: so many has this one, and so many told each that may lack
-- some
abbrev pub known_all : Setup → ℕ → List Entry → ℕ → ℕ
known_all setup replica part origin =
    least_of (have replica part origin ∷ map (λ peer. known part peer origin) (may_lack setup replica origin))

-- how many committed writes stand before the first that some replica isn't known to have
abbrev pub longest : Setup → ℕ → List Entry → ℕ
longest setup replica part =
    prefix_len (λ write. nat_lt write.index (known_all setup replica part write.origin)) (committed setup replica part)

-- a part without the entries behind its last take: nothing, where it takes no message
abbrev pub upto_last_take : List Entry → List Entry
upto_last_take part = reverse (drop (prefix_len (λ entry. is_none (taken_by_act entry.act)) (reverse part)) (reverse part))

-- how many committed writes are given up after a part: so many stood there when it last took a message
abbrev pub dropped : Setup → ℕ → List Entry → ℕ
dropped setup replica part = longest setup replica (upto_last_take part)

-- past the greatest index that some writes of an origin have, 0 where there is none of it
abbrev pub past_of : List Write → ℕ → ℕ
past_of writes origin = greatest (map (λ write. write.index + 1) (filter (λ write. write.origin == origin) writes))

-- how many writes of an origin are given up after a part: all up to the last that is given up in order
abbrev pub dropped_of : Setup → ℕ → List Entry → ℕ → ℕ
dropped_of setup replica part origin = past_of (take (dropped setup replica part) (committed setup replica part)) origin
