-- Messages as bytes: how each is spelled, and how a spelling is read.
use Rattle.std.specs.Prelude.{ℕ, zero, suc, ◌-◌, ◌≤◌, ◌==◌, min, List, [], ◌∷◌, ◌++◌, length, map, Ok, if◌then◌else◌}
use Rattle.std.specs.List.{flat_map, range_with_len}
use Rattle.tact_base.specs.declared.limits.TheConstants.{CONITS_MAX, HISTORY_MAX, LENT_MAX, MESSAGE_WRITES, MOMENT_MAX, REPLICAS_MAX, REPLICAS_MIN, STAMP_MAX}
use Rattle.tact_base.specs.declared.write.Write.{Write}
use Rattle.tact_base.specs.Setup.{Setup}
use Rattle.run_model.specs.declared.entry.Message.{Message}
use Rattle.run_model.specs.Bytes.{◌>>=◌, Field, byte_at, other_at, number_at, numbers_at, list_at, weights_at, op_at, number_bytes, weights_bytes, op_bytes}
use Rattle.run_model.specs.Ranges.{IsMessageInRange}
use Rattle.run_model.specs.Taking.{told_have, told_cover, told_first, told_writes}
use Rattle.tact_msg.specs.declared.parts.Head.{Head}
use Rattle.tact_msg.specs.declared.parts.Told.{Told}

-- ---- what can be spelled

-- the setup that a message speaks of: its counts are the lengths of the message's lists
abbrev pub setup_of : Message → Setup
setup_of message = record { replicas = length message.haves; conits = length message.lent; alphas = []; loans = [] }

-- a message of some setup
pub record IsMessage (message : Message) : Type 0 where
  pub replicas_least : REPLICAS_MIN ≤ length message.haves
  pub replicas_most : length message.haves ≤ REPLICAS_MAX
  pub conits_least : 1 ≤ length message.lent
  pub conits_most : length message.lent ≤ CONITS_MAX
  pub in_range : IsMessageInRange (setup_of message) message

-- ---- spelling

-- what a message tells of an origin, and of each origin
abbrev pub told_of : Message → ℕ → Told
told_of message origin = record {
  origin = origin;
  have = told_have message origin;
  cover = told_cover message origin;
  first = told_first message origin;
  count = length (told_writes message origin);
}

abbrev pub tolds_of : Message → List Told
tolds_of message = map (told_of message) (range_with_len 0 (length message.haves))

-- What is told of an origin: how many of its writes the sender has, the cover, the first told write, and how many are
-- told, in one byte.
abbrev pub told_bytes : Told → List ℕ
told_bytes told =
    number_bytes told.have ++ (number_bytes told.cover.count ++ (number_bytes told.cover.stamp
    ++ (number_bytes told.cover.moment ++ (number_bytes told.first ++ told.count ∷ []))))

-- a write; its origin and its index follow from its place
abbrev pub write_bytes : Write → List ℕ
write_bytes write =
    number_bytes write.stamp ++ (number_bytes write.moment ++ (weights_bytes write.weights ++ op_bytes write.op))

-- the mark 0x4D and the version 1, both counts, both ends and the number
abbrev pub head_bytes : Head → List ℕ
head_bytes head =
    77 ∷ 1 ∷ head.replicas ∷ head.conits ∷ head.from ∷ head.to ∷ number_bytes head.number

abbrev pub head_of : Message → Head
head_of message = record {
  replicas = length message.haves;
  conits = length message.lent;
  from = message.from;
  to = message.to;
  number = message.number;
}

-- a message: its head, what is told of each origin, what is lent and returned by conit, and the writes
abbrev pub message_bytes : Message → List ℕ
message_bytes message =
    head_bytes (head_of message) ++ (flat_map told_bytes (tolds_of message)
    ++ (flat_map number_bytes message.lent ++ (flat_map number_bytes message.returned
    ++ flat_map write_bytes message.writes)))

-- ---- reading, field by field

unfoldable pub head_at : List ℕ → ℕ → Field Head
head_at bytes place = do
  mark ← byte_at 77 78 bytes place
  version ← byte_at 1 2 bytes mark.1
  replicas ← byte_at REPLICAS_MIN (suc REPLICAS_MAX) bytes version.1
  conits ← byte_at 1 (suc CONITS_MAX) bytes replicas.1
  from ← byte_at 0 replicas.0 bytes conits.1
  to ← other_at from.0 replicas.0 bytes from.1
  number ← number_at 0 HISTORY_MAX bytes to.1
  Ok (record { replicas = replicas.0; conits = conits.0; from = from.0; to = to.0; number = number.0 }, number.1)

-- below it is how many writes are told of an origin: of the receiver none, else at most those that the sender has past
-- the first, and as many as there is room for
abbrev pub told_bound : ℕ → ℕ → ℕ → ℕ → ℕ
told_bound to origin due room = if origin == to then 1 else suc (min due room)

unfoldable pub told_at : ℕ → ℕ → ℕ → List ℕ → ℕ → Field Told
told_at to origin room bytes place = do
  have ← number_at 0 (suc HISTORY_MAX) bytes place
  count ← number_at 0 (suc have.0) bytes have.1
  stamp ← number_at 0 (suc STAMP_MAX) bytes count.1
  moment ← number_at 0 (suc MOMENT_MAX) bytes stamp.1
  first ← number_at 0 (suc have.0) bytes moment.1
  told ← byte_at 0 (told_bound to origin (have.0 - first.0) room) bytes first.1
  Ok (
    record {
      origin = origin;
      have = have.0;
      cover = record { count = count.0; stamp = stamp.0; moment = moment.0 };
      first = first.0;
      count = told.0;
    },
    told.1,
  )

-- what is told of so many origins, from one on, with room for so many writes
unfoldable pub tolds_at : ℕ → ℕ → ℕ → ℕ → List ℕ → ℕ → Field (List Told)
tolds_at to zero origin room bytes place = Ok ([], place)
tolds_at to (suc count) origin room bytes place = do
  told ← told_at to origin room bytes place
  others ← tolds_at to count (suc origin) (room - told.0.count) bytes told.1
  Ok (told.0 ∷ others.0, others.1)

-- amounts, one for each conit
abbrev pub amounts_at : ℕ → List ℕ → ℕ → Field (List ℕ)
amounts_at = numbers_at (suc LENT_MAX)

-- a write of an origin with an index
unfoldable pub write_at : ℕ → ℕ → ℕ → List ℕ → ℕ → Field Write
write_at conits origin index bytes place = do
  stamp ← number_at 1 (suc STAMP_MAX) bytes place
  moment ← number_at 0 (suc MOMENT_MAX) bytes stamp.1
  weights ← weights_at conits bytes moment.1
  op ← op_at bytes weights.1
  Ok (record { origin = origin; index = index; stamp = stamp.0; moment = moment.0; weights = weights.0; op = op.0 }, op.1)

-- the told writes of an origin, and of all
abbrev pub writes_of_at : ℕ → Told → List ℕ → ℕ → Field (List Write)
writes_of_at conits told = list_at (write_at conits told.origin) (λ write. suc write.index) told.count told.first

unfoldable pub writes_at : ℕ → List Told → List ℕ → ℕ → Field (List Write)
writes_at conits [] bytes place = Ok ([], place)
writes_at conits (told ∷ tolds) bytes place = do
  ours ← writes_of_at conits told bytes place
  others ← writes_at conits tolds bytes ours.1
  Ok (ours.0 ++ others.0, others.1)

-- the message of these parts
abbrev pub message_from : Head → List Told → List ℕ → List ℕ → List Write → Message
message_from head tolds lent returned writes = record {
  from = head.from;
  to = head.to;
  number = head.number;
  haves = map (λ (told : Told). told.have) tolds;
  covers = map (λ (told : Told). told.cover) tolds;
  firsts = map (λ (told : Told). told.first) tolds;
  writes = writes;
  lent = lent;
  returned = returned;
}

unfoldable pub message_at : List ℕ → ℕ → Field Message
message_at bytes place = do
  head ← head_at bytes place
  tolds ← tolds_at head.0.to head.0.replicas 0 MESSAGE_WRITES bytes head.1
  lent ← amounts_at head.0.conits bytes tolds.1
  returned ← amounts_at head.0.conits bytes lent.1
  writes ← writes_at head.0.conits tolds.0 bytes returned.1
  Ok (message_from head.0 tolds.0 lent.0 returned.0 writes.0, writes.1)
