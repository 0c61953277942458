-- A piece is made of bytes: the numbers in it are below 256.
use Rattle.std.proofs.Common.{◌≡◌, ℕ, zero, suc, ◌<◌, ◌≤◌, ◌==◌, true, ℤ, List, [], ◌∷◌, ◌++◌, length, get_or, map, All, inl, inr, arith}
use Rattle.std.specs.List.{filter, flat_map, range_with_len}
use Rattle.std.specs.Int.{w64, bytes_high_first, byte_at, cast_unsigned}
use Rattle.std.proofs.Math.Nat.{mod-lt}
use Rattle.std.proofs.lemmas.Bool.{cases_lt}
use Rattle.std.proofs.lemmas.List.{get_or_past}
use Rattle.std.proofs.lemmas.List.Elements.{All-nil, All-cons, All-head, All-tail, All-append, All-get_or}
use Rattle.std.proofs.lemmas.List.Sums.{length-filter, count_by-le-length}
use Rattle.tact_base.proofs.ConitListLemmas.{IsConitList-few}
use Rattle.tact_base.proofs.SetupLemmas.{HasCounts-from_IsSetup}
use Rattle.tact_base.specs.Setup.{Setup, IsSetup}
use Rattle.tact_base.specs.declared.conit_list.Need.{Need}
use Rattle.tact_base.specs.declared.conit_list.Weight.{Weight}
use Rattle.tact_base.specs.declared.write.Op.{Op}
use Rattle.tact_base.specs.declared.write.Op.TheVariants as op
use Rattle.tact_base.specs.declared.write.Write.{Write}
use Rattle.run_model.specs.Bytes.{number_bytes, signed_bytes, weight_bytes, weights_bytes, need_bytes, needs_bytes, op_bytes}
use Rattle.run_model.specs.CallBytes.{HasSmallNames, HasWideNumbers, request_bytes, reply_bytes}
use Rattle.run_model.specs.Ranges.{IsNeedInRange, IsWeightInRange, AreWeightsInRange, AreNeedsInRange, IsWriteInRange, IsMessageInRange, IsRequestInRange, IsActInRange, IsEntryInRange}
use Rattle.run_model.specs.Taking.{told_writes}
use Rattle.run_model.specs.declared.call.Reply.{Reply}
use Rattle.run_model.specs.declared.call.Reply.TheVariants as reply
use Rattle.run_model.specs.declared.call.Request.{Request}
use Rattle.run_model.specs.declared.call.Request.TheVariants as request
use Rattle.run_model.specs.declared.entry.Act.{Act}
use Rattle.run_model.specs.declared.entry.Act.TheVariants as act
use Rattle.run_model.specs.declared.entry.Entry.{Entry}
use Rattle.run_model.specs.declared.entry.Message.{Message}
use Rattle.run_model.proofs.ByteLemmas.{AreBytes}
use Rattle.tact_msg.specs.MessageBytes.{head_bytes, head_of, told_bytes, told_of, tolds_of, write_bytes, message_bytes}
use Rattle.run_record.specs.Records.{short_act_of}
use Rattle.run_record.specs.RecordBytes.{act_tag}
use Rattle.restart_journal.specs.Pieces.{IsSpellable, fields_of, piece_bytes}

-- ---- bytes, one after the other

abbrev IsByte : ℕ → Type 0
IsByte n = n < 256

record Made (bs : List ℕ) : Type 0 where
  all : All IsByte bs

none : Made []
none = record { all = All-nil IsByte }

byte : (b : ℕ) (bs : List ℕ) → b < 256 → Made bs → Made (b ∷ bs)
byte b bs small more = record { all = All-cons IsByte b bs small more.all }

both : (a b : List ℕ) → Made a → Made b → Made (a ++ b)
both a b x y = record { all = All-append IsByte a b x.all y.all }

each : {X : Type 0} (P : X → Type 0) (spell : X → List ℕ)
    → ((x : X) → P x → Made (spell x))
    → (xs : List X)
    → All P xs
    → Made (flat_map spell xs)
each P spell one [] all = none
each P spell one (x ∷ xs) all =
    both (spell x) (flat_map spell xs) (one x (All-head P x xs all)) (each P spell one xs (All-tail P x xs all))

byte_at-small : (i n : ℕ) → byte_at i n < 256
byte_at-small zero n = mod-lt n (omega arith)
byte_at-small (suc i) n = mod-lt _ (omega arith)

high_first : (k n : ℕ) → Made (bytes_high_first k n)
high_first zero n = none
high_first (suc k) n = byte (byte_at k n) (bytes_high_first k n) (byte_at-small k n) (high_first k n)

number : (n : ℕ) → Made (number_bytes n)
unfolding number_bytes
number n = high_first 8 n

signed : (z : ℤ) → Made (signed_bytes z)
unfolding signed_bytes
signed z = number (cast_unsigned w64 z)

-- a number, or a signed one, and what follows
then_number : (n : ℕ) (bs : List ℕ) → Made bs → Made (number_bytes n ++ bs)
then_number n bs more = both (number_bytes n) bs (number n) more

then_signed : (z : ℤ) (bs : List ℕ) → Made bs → Made (signed_bytes z ++ bs)
then_signed z bs more = both (signed_bytes z) bs (signed z) more

numbers : (ns : List ℕ) → Made (flat_map number_bytes ns)
numbers [] = none
numbers (n ∷ ns) = then_number n (flat_map number_bytes ns) (numbers ns)

sums : (zs : List ℤ) → Made (flat_map signed_bytes zs)
sums [] = none
sums (z ∷ zs) = then_signed z (flat_map signed_bytes zs) (sums zs)

-- two names of one byte each, and numbers
named : (one other : ℕ) (ns : List ℕ) → one < 256 → other < 256 → Made (one ∷ other ∷ flat_map number_bytes ns)
named one other ns small_one small_other =
    byte one (other ∷ flat_map number_bytes ns) small_one (byte other (flat_map number_bytes ns) small_other (numbers ns))

-- ---- requests and replies

module _ (setup : Setup) (good : IsSetup setup) where
  few_conits : setup.conits ≤ 16
  few_conits = (HasCounts-from_IsSetup setup good).conits_high

  few_replicas : setup.replicas ≤ 8
  few_replicas = (HasCounts-from_IsSetup setup good).replicas_high

  weight : (w : Weight) → IsWeightInRange setup w → Made (weight_bytes w)
  weight w within =
      byte w.conit (signed_bytes w.nweight ++ number_bytes w.oweight) (omega (arith, within.conit, few_conits)) (then_signed w.nweight (number_bytes w.oweight) (number w.oweight))

  weights : (ws : List Weight) → AreWeightsInRange setup ws → Made (weights_bytes ws)
  weights ws within =
      byte (length ws) (flat_map weight_bytes ws) (omega (arith, IsConitList-few (λ (w : Weight). w.conit) (λ _. true) ws within.listed)) (each (IsWeightInRange setup) weight_bytes weight ws within.each)

  need : (n : Need) → IsNeedInRange setup n → Made (need_bytes n)
  need n within =
      byte n.conit (number_bytes n.num ++ (number_bytes n.order ++ number_bytes n.stale)) (omega (arith, within.conit, few_conits))
      (then_number n.num (number_bytes n.order ++ number_bytes n.stale) (then_number n.order (number_bytes n.stale) (number n.stale)))

  needs : (ns : List Need) → AreNeedsInRange setup ns → Made (needs_bytes ns)
  needs ns within =
      byte (length ns) (flat_map need_bytes ns) (omega (arith, IsConitList-few (λ (n : Need). n.conit) (λ _. true) ns within.listed)) (each (IsNeedInRange setup) need_bytes need ns within.each)

  operation : (o : Op) → Made (op_bytes o)
  operation (op.Put key value) = byte 1 (number_bytes key ++ signed_bytes value) (omega arith) (then_number key (signed_bytes value) (signed value))
  operation (op.Add key delta) = byte 2 (number_bytes key ++ signed_bytes delta) (omega arith) (then_number key (signed_bytes delta) (signed delta))
  operation (op.Shift from to amount) =
      byte 3 (number_bytes from ++ (number_bytes to ++ number_bytes amount)) (omega arith)
      (then_number from (number_bytes to ++ number_bytes amount) (then_number to (number_bytes amount) (number amount)))

  asked : (r : Request) → IsRequestInRange setup r → Made (request_bytes r)
  asked (request.Write ws o) within =
      byte 1 (weights_bytes ws ++ op_bytes o) (omega arith) (both (weights_bytes ws) (op_bytes o) (weights ws within.0) (operation o))
  asked (request.Held w o) within =
      byte 2 (weight_bytes w ++ op_bytes o) (omega arith) (both (weight_bytes w) (op_bytes o) (weight w within.0) (operation o))
  asked (request.Reserve conit amount) within =
      byte 3 (conit ∷ number_bytes amount) (omega arith) (byte conit (number_bytes amount) (omega (arith, within.0, few_conits)) (number amount))
  asked (request.Release conit amount) within =
      byte 4 (conit ∷ number_bytes amount) (omega arith) (byte conit (number_bytes amount) (omega (arith, within.0, few_conits)) (number amount))
  asked (request.Read key ns) within =
      byte 5 (number_bytes key ++ needs_bytes ns) (omega arith) (then_number key (needs_bytes ns) (needs ns within.1))

  replied : (r : Reply) → HasSmallNames r → HasWideNumbers r → Made (reply_bytes r)
  replied (reply.Done index stamp) small wide = byte 1 (flat_map number_bytes (index ∷ stamp ∷ [])) (omega arith) (numbers (index ∷ stamp ∷ []))
  replied reply.Granted small wide = byte 2 [] (omega arith) none
  replied reply.Released small wide = byte 3 [] (omega arith) none
  replied (reply.Value value zs) small wide =
      byte 4 (signed_bytes value ++ length zs ∷ flat_map signed_bytes zs) (omega arith)
      (then_signed value (length zs ∷ flat_map signed_bytes zs) (byte (length zs) (flat_map signed_bytes zs) (omega (arith, wide.1)) (sums zs)))
  replied (reply.TooHeavy conit peer weight share) small wide =
      byte 5 (conit ∷ peer ∷ flat_map number_bytes (weight ∷ share ∷ [])) (omega arith) (named conit peer (weight ∷ share ∷ []) small.0 small.1)
  replied (reply.WaitHeld conit peer reserved weight share) small wide =
      byte 6 (conit ∷ peer ∷ flat_map number_bytes (reserved ∷ weight ∷ share ∷ [])) (omega arith) (named conit peer (reserved ∷ weight ∷ share ∷ []) small.0 small.1)
  replied (reply.WaitShare conit peer missing reserved weight share) small wide =
      byte 7 (conit ∷ peer ∷ flat_map number_bytes (missing ∷ reserved ∷ weight ∷ share ∷ [])) (omega arith) (named conit peer (missing ∷ reserved ∷ weight ∷ share ∷ []) small.0 small.1)
  replied (reply.WaitLent conit holder out total num) small wide =
      byte 8 (conit ∷ holder ∷ flat_map number_bytes (out ∷ total ∷ num ∷ [])) (omega arith) (named conit holder (out ∷ total ∷ num ∷ []) small.0 small.1)
  replied (reply.WaitOrder conit replica tentative order) small wide =
      byte 9 (conit ∷ replica ∷ flat_map number_bytes (tentative ∷ order ∷ [])) (omega arith) (named conit replica (tentative ∷ order ∷ []) small.0 small.1)
  replied (reply.WaitStale conit replica moment wanted) small wide =
      byte 10 (conit ∷ replica ∷ flat_map number_bytes (moment ∷ wanted ∷ [])) (omega arith) (named conit replica (moment ∷ wanted ∷ []) small.0 small.1)
  replied (reply.NotHeld conit held amount) small wide =
      byte 11 (conit ∷ flat_map number_bytes (held ∷ amount ∷ [])) (omega arith) (byte conit (flat_map number_bytes (held ∷ amount ∷ [])) small (numbers (held ∷ amount ∷ [])))

  -- ---- messages

  written : (w : Write) → IsWriteInRange setup w → Made (write_bytes w)
  written w within =
      then_number w.stamp (number_bytes w.moment ++ (weights_bytes w.weights ++ op_bytes w.op))
      (then_number w.moment (weights_bytes w.weights ++ op_bytes w.op) (both (weights_bytes w.weights) (op_bytes w.op) (weights w.weights within.weights) (operation w.op)))

  module _ (message : Message) (within : IsMessageInRange setup message) where
    told : (origin : ℕ) → Made (told_bytes (told_of message origin))
    told origin =
        let of = told_writes message origin in
        let few : length of ≤ 64 =
        omega (arith, length-filter (λ (write : Write). write.origin == origin) message.writes, count_by-le-length (λ (write : Write). write.origin == origin) message.writes, within.few) in
        let is = told_of message origin in
        let count = is.count ∷ [] in
        let first = number_bytes is.first ++ count in
        let moment = number_bytes is.cover.moment ++ first in
        let stamp = number_bytes is.cover.stamp ++ moment in
        let covered = number_bytes is.cover.count ++ stamp in
        then_number is.have covered (then_number is.cover.count stamp (then_number is.cover.stamp moment (then_number is.cover.moment first (then_number is.first count (byte is.count [] (omega (arith, few)) none)))))

    tolds : (origins : List ℕ) → Made (flat_map told_bytes (map (told_of message) origins))
    tolds [] = none
    tolds (origin ∷ origins) = both (told_bytes (told_of message origin)) (flat_map told_bytes (map (told_of message) origins)) (told origin) (tolds origins)

    head : Made (head_bytes (head_of message))
    head =
        let number_is = number_bytes message.number in
        let to = message.to ∷ number_is in
        let from = message.from ∷ to in
        let conits = length message.lent ∷ from in
        let replicas = length message.haves ∷ conits in
        byte 77 (1 ∷ replicas) (omega arith) (byte 1 replicas (omega arith) (byte (length message.haves) conits (omega (arith, within.haves, few_replicas))
        (byte (length message.lent) from (omega (arith, within.lent, few_conits)) (byte message.from to (omega (arith, within.from, few_replicas)) (byte message.to number_is (omega (arith, within.to, few_replicas)) (number message.number))))))

    sent : Made (message_bytes message)
    sent =
        let writes = flat_map write_bytes message.writes in
        let returned = flat_map number_bytes message.returned ++ writes in
        let lent = flat_map number_bytes message.lent ++ returned in
        let origins = flat_map told_bytes (tolds_of message) in
        both (head_bytes (head_of message)) (origins ++ lent) head
        (both origins lent (tolds (range_with_len 0 (length message.haves)))
        (both (flat_map number_bytes message.lent) returned (numbers message.lent)
        (both (flat_map number_bytes message.returned) writes (numbers message.returned) (each (IsWriteInRange setup) write_bytes written message.writes within.writes))))

  -- ---- pieces

  act_tag-small : (done : Act) → act_tag (short_act_of done) < 256
  act_tag-small (act.Call client number request reply) = omega arith
  act_tag-small (act.Send message) = omega arith
  act_tag-small (act.Take message) = omega arith
  act_tag-small (act.Lend to conit amount) = omega arith
  act_tag-small (act.Back owner conit amount) = omega arith
  act_tag-small act.Restart = omega arith

  -- a replica, a conit and an amount
  loan : (replica conit amount : ℕ) → replica < setup.replicas → conit < setup.conits → Made (replica ∷ conit ∷ number_bytes amount)
  loan replica conit amount replica_in conit_in =
      byte replica (conit ∷ number_bytes amount) (omega (arith, replica_in, few_replicas)) (byte conit (number_bytes amount) (omega (arith, conit_in, few_conits)) (number amount))

  fields : (replica : ℕ) (done : Act) → IsActInRange setup replica done → IsSpellable done → Made (fields_of done)
  fields replica (act.Call client n asks answers) within can =
      byte client (number_bytes n ++ (request_bytes asks ++ reply_bytes answers)) (omega (arith, within.0))
      (then_number n (request_bytes asks ++ reply_bytes answers) (both (request_bytes asks) (reply_bytes answers) (asked asks within.1) (replied answers can.1 can.2)))
  fields replica (act.Send message) within can =
      byte message.to (number_bytes message.number ++ flat_map number_bytes message.firsts) (omega (arith, within.0.to, few_replicas))
      (then_number message.number (flat_map number_bytes message.firsts) (numbers message.firsts))
  fields replica (act.Take message) within can = sent message within.0
  fields replica (act.Lend to conit amount) within can = loan to conit amount within.0 within.2
  fields replica (act.Back owner conit amount) within can = loan owner conit amount within.0 within.2
  fields replica act.Restart within can = none

  pub piece_is_bytes : (entry : Entry)
      → IsEntryInRange setup entry
      → IsSpellable entry.act
      → AreBytes (piece_bytes entry)
  piece_is_bytes entry within can i =
      elim (cases_lt i (length (piece_bytes entry))) [
        | inl lt ↦ All-get_or IsByte (piece_bytes entry) i 0 lt made.all
        | inr le ↦ rw (get_or_past (piece_bytes entry) i 0 le) (omega arith)
      ]
    where
      made : Made (piece_bytes entry)
      made =
          byte (act_tag (short_act_of entry.act)) (entry.replica ∷ number_bytes entry.moment ++ fields_of entry.act) (act_tag-small entry.act)
          (byte entry.replica (number_bytes entry.moment ++ fields_of entry.act) (omega (arith, within.replica, few_replicas))
          (then_number entry.moment (fields_of entry.act) (fields entry.replica entry.act within.act can)))
