-- What is in range of a setup: its replicas and conits, and numbers within their limits.
use Rattle.std.specs.Prelude.{◌≡◌, ◌≢◌, ℕ, ◌-◌, ◌<◌, ◌≤◌, true, unsigned_abs, List, [], All, map, length}
use Rattle.std.specs.List.{flat_map, range_with_len}
use Rattle.tact_base.specs.ConitList.{IsConitList}
use Rattle.tact_base.specs.declared.limits.TheConstants.{CLIENTS, WEIGHT_MAX, AMOUNT_MAX, KEY_MAX, VALUE_MAX, MOMENT_MAX, STAMP_MAX, LENT_MAX, HISTORY_MAX, MESSAGE_WRITES}
use Rattle.tact_base.specs.declared.conit_list.Need.{Need}
use Rattle.tact_base.specs.declared.conit_list.Weight.{Weight}
use Rattle.tact_base.specs.declared.write.Op.{Op}
use Rattle.tact_base.specs.declared.write.Op.TheVariants as op
use Rattle.tact_base.specs.declared.write.Write.{Write}
use Rattle.tact_base.specs.Setup.{Setup, replicas_of}
use Rattle.run_model.specs.Taking.{told_have, told_cover, told_first, told_writes}
use Rattle.run_model.specs.declared.call.Request.{Request}
use Rattle.run_model.specs.declared.call.Request.TheVariants as request
use Rattle.run_model.specs.declared.entry.Act.{Act}
use Rattle.run_model.specs.declared.entry.Act.TheVariants as act
use Rattle.run_model.specs.declared.entry.Entry.{Entry}
use Rattle.run_model.specs.declared.entry.Message.{Message}

-- an operation's keys, values and amounts
abbrev pub IsOpInRange : Op → Type 0
IsOpInRange (op.Put key value) = (key ≤ KEY_MAX) × (unsigned_abs value ≤ VALUE_MAX)
IsOpInRange (op.Add key delta) = (key ≤ KEY_MAX) × (unsigned_abs delta ≤ VALUE_MAX)
IsOpInRange (op.Shift from to amount) = (from ≤ KEY_MAX) × (to ≤ KEY_MAX) × (amount ≤ VALUE_MAX)

-- a weight, and a need
pub record IsWeightInRange (setup : Setup) (weight : Weight) : Type 0 where
  pub conit : weight.conit < setup.conits
  pub nweight : unsigned_abs weight.nweight ≤ WEIGHT_MAX
  pub oweight : weight.oweight ≤ WEIGHT_MAX

pub record IsNeedInRange (setup : Setup) (need : Need) : Type 0 where
  pub conit : need.conit < setup.conits
  pub num : need.num ≤ AMOUNT_MAX
  pub order : need.order ≤ AMOUNT_MAX
  pub stale : need.stale ≤ MOMENT_MAX

-- The weights of a write: each in range, and as their list's type has them, at most four with rising conits. The needs
-- of a read alike.
pub record AreWeightsInRange (setup : Setup) (weights : List Weight) : Type 0 where
  pub each : All (IsWeightInRange setup) weights
  pub listed : IsConitList (λ (weight : Weight). weight.conit) (λ _. true) weights

pub record AreNeedsInRange (setup : Setup) (needs : List Need) : Type 0 where
  pub each : All (IsNeedInRange setup) needs
  pub listed : IsConitList (λ (need : Need). need.conit) (λ _. true) needs

-- a request
abbrev pub IsRequestInRange : Setup → Request → Type 0
IsRequestInRange setup (request.Write weights op) = AreWeightsInRange setup weights × IsOpInRange op
IsRequestInRange setup (request.Held weight op) = IsWeightInRange setup weight × IsOpInRange op
IsRequestInRange setup (request.Reserve conit amount) = (conit < setup.conits) × (amount ≤ AMOUNT_MAX)
IsRequestInRange setup (request.Release conit amount) = (conit < setup.conits) × (amount ≤ AMOUNT_MAX)
IsRequestInRange setup (request.Read key needs) = (key ≤ KEY_MAX) × AreNeedsInRange setup needs

-- a told write
pub record IsWriteInRange (setup : Setup) (write : Write) : Type 0 where
  pub stamp_least : 1 ≤ write.stamp
  pub stamp_most : write.stamp ≤ STAMP_MAX
  pub moment : write.moment ≤ MOMENT_MAX
  pub weights : AreWeightsInRange setup write.weights
  pub op : IsOpInRange write.op

-- what a message tells of one origin
pub record IsToldInRange (message : Message) (origin : ℕ) : Type 0 where
  pub have : told_have message origin ≤ HISTORY_MAX
  pub count : (told_cover message origin).count ≤ told_have message origin
  pub stamp : (told_cover message origin).stamp ≤ STAMP_MAX
  pub moment : (told_cover message origin).moment ≤ MOMENT_MAX
  pub first : told_first message origin ≤ told_have message origin
  pub told : length (told_writes message origin) ≤ told_have message origin - told_first message origin
  -- nothing is told of the receiver's own writes
  pub receiver : origin ≡ message.to → told_writes message origin ≡ []
  -- the told writes are those from the first on
  pub indices : map (λ (write : Write). write.index) (told_writes message origin) ≡ range_with_len (told_first message origin) (length (told_writes message origin))

-- a message
pub record IsMessageInRange (setup : Setup) (message : Message) : Type 0 where
  pub from : message.from < setup.replicas
  pub to : message.to < setup.replicas
  pub others : message.from ≢ message.to
  pub number : message.number < HISTORY_MAX
  pub haves : length message.haves ≡ setup.replicas
  pub covers : length message.covers ≡ setup.replicas
  pub firsts : length message.firsts ≡ setup.replicas
  pub lent : length message.lent ≡ setup.conits
  pub returned : length message.returned ≡ setup.conits
  pub told : (origin : ℕ) → origin < setup.replicas → IsToldInRange message origin
  pub lent_most : All (λ number. number ≤ LENT_MAX) message.lent
  pub returned_most : All (λ number. number ≤ LENT_MAX) message.returned
  pub few : length message.writes ≤ MESSAGE_WRITES
  -- the writes stand by origin
  pub placed : message.writes ≡ flat_map (told_writes message) (replicas_of setup)
  pub writes : All (IsWriteInRange setup) message.writes

-- an act of a replica
abbrev pub IsActInRange : Setup → ℕ → Act → Type 0
IsActInRange setup replica (act.Call client number request reply) = (client < CLIENTS) × IsRequestInRange setup request
IsActInRange setup replica (act.Send message) = IsMessageInRange setup message × (message.from ≡ replica)
IsActInRange setup replica (act.Take message) = IsMessageInRange setup message × (message.to ≡ replica)
IsActInRange setup replica (act.Lend to conit amount) = (to < setup.replicas) × (to ≢ replica) × (conit < setup.conits) × (amount ≤ AMOUNT_MAX)
IsActInRange setup replica (act.Back owner conit amount) = (owner < setup.replicas) × (owner ≢ replica) × (conit < setup.conits) × (amount ≤ AMOUNT_MAX)
IsActInRange setup replica act.Restart = Unit {0}

-- an entry
pub record IsEntryInRange (setup : Setup) (entry : Entry) : Type 0 where
  pub replica : entry.replica < setup.replicas
  pub moment : entry.moment ≤ MOMENT_MAX
  pub act : IsActInRange setup entry.replica entry.act
