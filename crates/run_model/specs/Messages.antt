-- The message that a replica sends (anti-entropy after Golding; the loans and the covers are this project's own).
use Rattle.std.specs.Prelude.{ℕ, List, take, drop, length, map, slice_index}
use Rattle.std.specs.List.{flat_map}
use Rattle.tact_base.specs.Counts.{first_index}
use Rattle.tact_base.specs.declared.limits.TheConstants.{MESSAGE_WRITES}
use Rattle.tact_base.specs.declared.write.Write.{Write}
use Rattle.tact_base.specs.Setup.{Setup, replicas_of, conits_of}
use Rattle.run_model.specs.Histories.{sent_in}
use Rattle.run_model.specs.Taking.{log_of, have, covers_of, known}
use Rattle.run_model.specs.Loans.{lent, returned}
use Rattle.run_model.specs.declared.entry.Entry.{Entry}
use Rattle.run_model.specs.declared.entry.Message.{Message}

-- where the writes of an origin begin in a message: past what the receiver has, as it is given or known; of the
-- receiver's own, none
abbrev pub first_for : ℕ → List Entry → ℕ → List ℕ → ℕ → ℕ
first_for replica part to given origin =
    first_index to origin (have replica part origin) (known part to origin) (slice_index given origin)

-- the writes of a message: from each origin in rising order those from its first on, as many as there is room for
abbrev pub writes_for : Setup → ℕ → List Entry → ℕ → List ℕ → List Write
writes_for setup replica part to given =
    take MESSAGE_WRITES (flat_map (λ origin. drop (first_for replica part to given origin) (log_of replica part origin)) (replicas_of setup))

-- the message to a replica, at a moment, where these firsts are given
abbrev pub message_of : Setup → ℕ → List Entry → ℕ → ℕ → List ℕ → Message
message_of setup replica part moment to given = record {
  from = replica;
  to = to;
  number = length (sent_in part);
  haves = map (have replica part) (replicas_of setup);
  covers = covers_of setup replica part moment;
  firsts = map (first_for replica part to given) (replicas_of setup);
  writes = writes_for setup replica part to given;
  lent = map (lent setup replica part to) (conits_of setup);
  returned = map (returned part to) (conits_of setup);
}
