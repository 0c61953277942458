-- A message that is read stands where it was read, and one that stands there is read.
use Rattle.std.proofs.Common.{◌≡◌, ◌≢◌, ℕ, zero, suc, ◌+◌, ◌-◌, ◌<◌, ◌≤◌, ◌==◌, List, [], ◌∷◌, ◌++◌, length, get_or, map, All, Result, Ok, Err, zero-add, refl, sym, ap, subst, ◌∙◌, arith}
use Rattle.std.specs.List.{flat_map, range_with_len}
use Rattle.std.proofs.lemmas.List.{length-append, length-map, get_or-map, ext_get_or}
use Rattle.std.proofs.lemmas.List.Concat.{flat_map-cons}
use Rattle.std.proofs.lemmas.List.Elements.{All-weaker, All-filter}
use Rattle.std.proofs.lemmas.List.FromFn.{length-map-range_with_len}
use Rattle.std.proofs.lemmas.Grind.{flat_map-append}
use Rattle.tact_base.proofs.ListLemmas.{get_or-map_range}
use Rattle.tact_base.specs.declared.limits.TheConstants.{LENT_MAX, MESSAGE_WRITES}
use Rattle.tact_base.specs.declared.write.Cover.{Cover}
use Rattle.tact_base.specs.declared.write.Write.{Write}
use Rattle.tact_base.specs.Covers.{no_cover}
use Rattle.run_model.specs.declared.entry.Message.{Message}
use Rattle.run_model.specs.Ranges.{IsMessageInRange, IsToldInRange, IsWriteInRange}
use Rattle.run_model.specs.Taking.{told_have, told_cover, told_first, told_writes}
use Rattle.run_model.specs.declared.fields.FieldFault.TheVariants as field
use Rattle.run_model.specs.Bytes.{StandsAt, number_bytes}
use Rattle.run_model.proofs.ByteLemmas.{AreBytes, ok_is, no_read}
use Rattle.run_model.proofs.ListBytes.{AreNumbers, numbers_reader}
use Rattle.run_model.proofs.OriginWrites.{from_one, from_one-origins}
use Rattle.run_model.proofs.Readers.{Reader, Then, Made, SpelledAs, and_then, making, said, found}
use Rattle.std.specs.Result.{IfOk}
use Rattle.tact_msg.specs.declared.fault.MsgFault.{MsgFault}
use Rattle.tact_msg.specs.declared.fault.MsgFault.TheVariants as fault
use Rattle.tact_msg.specs.Faults.{Tells}
use Rattle.tact_msg.specs.declared.parts.Head.{Head}
use Rattle.tact_msg.specs.declared.parts.Told.{Told}
use Rattle.tact_msg.specs.MessageBytes.{IsMessage, setup_of, told_of, tolds_of, told_bytes, write_bytes, head_bytes, head_of, message_bytes, message_from, message_at}
use Rattle.tact_msg.proofs.PartReaders.{IsHead, IsTold, Tolds, CountedTolds, head_reader, tolds_reader}
use Rattle.tact_msg.proofs.WriteReaders.{IsWriteOf, AreFrom, AllWrites, writes_reader}
use Rattle.tact_msg.proofs.MessageParts.{write_of_setup, write_in_setup, IsFew, few_told, told_few, told_at_place, tolds_spelled, AreWritten, written}

abbrev no_told : Told
no_told = record { origin = 0; have = 0; cover = no_cover; first = 0; count = 0 }

same_told : (told : Told) (origin have : ℕ) (cover : Cover) (first count : ℕ)
    → origin ≡ told.origin
    → have ≡ told.have
    → cover ≡ told.cover
    → first ≡ told.first
    → count ≡ told.count
    → record { origin = origin; have = have; cover = cover; first = first; count = count } ≡ told
same_told told origin have cover first count o h c f n = rw (o, h, c, f, n) refl

-- ---- the parts that were read are those of their message

module _ (head : Head) (tolds : List Told) (lent returned : List ℕ) (writes : List Write)
    (head_text told_text lent_text returned_text write_text : List ℕ)
    (is_head : IsHead head head_text)
    (are_told : CountedTolds head.to head.replicas 0 MESSAGE_WRITES tolds told_text)
    (are_lent : AreNumbers LENT_MAX head.conits lent lent_text)
    (are_returned : AreNumbers LENT_MAX head.conits returned returned_text)
    (are_writes : AllWrites head.conits tolds writes write_text) where
  abbrev whole : Message
  whole = message_from head tolds lent returned writes

  all : AreWritten head.conits 0 MESSAGE_WRITES tolds writes write_text
  all = written head.conits head.to 0 MESSAGE_WRITES tolds told_text writes write_text are_told.1 are_writes

  replicas : length (map (λ (told : Told). told.have) tolds) ≡ length tolds
  replicas = length-map tolds (λ (told : Told). told.have)

  -- what the whole tells of an origin is what was read
  told_is : (origin : ℕ) → origin < length tolds → told_of whole origin ≡ get_or tolds origin no_told
  told_is origin within =
      let told = get_or tolds origin no_told in
      let at = told_at_place head.to 0 MESSAGE_WRITES tolds told_text are_told.1 origin no_told within in
      let is : origin ≡ told.origin = omega (arith, at.2.origin) in
      same_told told origin (told_have whole origin) (told_cover whole origin) (told_first whole origin) (length (told_writes whole origin))
      is
      (get_or-map (λ (t : Told). t.have) tolds origin no_told 0 within)
      (get_or-map (λ (t : Told). t.cover) tolds origin no_told no_cover within)
      (get_or-map (λ (t : Told). t.first) tolds origin no_told 0 within)
      (subst (λ o. length (from_one o writes) ≡ told.count) (sym is) (all.told origin no_told within).0)

  tolds_are : tolds_of whole ≡ tolds
  tolds_are =
      let long : length (tolds_of whole) ≡ length tolds = length-map-range_with_len (told_of whole) 0 (length whole.haves) ∙ replicas in
      ext_get_or no_told (tolds_of whole) tolds long
      (λ i within. get_or-map_range (told_of whole) (length whole.haves) i no_told (omega (arith, within, long, replicas)) ∙ told_is i (omega (arith, within, long)))

  in_told : (origin : ℕ) → origin < length tolds → IsToldInRange whole origin
  in_told origin within =
      let told = get_or tolds origin no_told in
      let at = told_at_place head.to 0 MESSAGE_WRITES tolds told_text are_told.1 origin no_told within in
      let is = told_is origin within in
      let own : told.origin ≡ origin = omega (arith, at.2.origin) in
      let have : told_have whole origin ≡ told.have = ap (λ (t : Told). t.have) is in
      let cover : told_cover whole origin ≡ told.cover = ap (λ (t : Told). t.cover) is in
      let first : told_first whole origin ≡ told.first = ap (λ (t : Told). t.first) is in
      let count : length (told_writes whole origin) ≡ told.count = ap (λ (t : Told). t.count) is in
      let few = few_told head.to (0 + origin) (told.have - told.first) at.0 told.count at.2.few in
      let indices : map (λ (write : Write). write.index) (from_one origin writes) ≡ range_with_len told.first (length (from_one origin writes)) =
      subst (λ o. map (λ (write : Write). write.index) (from_one o writes) ≡ range_with_len told.first (length (from_one o writes))) own (all.told origin no_told within).1 in
      record {
        have = omega (arith, have, at.2.have);
        count = rw (cover, have) at.2.count;
        stamp = rw cover at.2.stamp;
        moment = rw cover at.2.moment;
        first = omega (arith, have, first, at.2.first);
        told = omega (arith, have, first, count, few.due_most);
        receiver = λ same. nil_of (told_writes whole origin) (count ∙ few.receiver (omega (arith, same)));
        indices = rw first indices;
      }
    where
      nil_of : (ws : List Write) → length ws ≡ 0 → ws ≡ []
      nil_of [] e = refl
      nil_of (x ∷ xs) e = absurd (omega arith)

  pub read_is_message : IsMessage whole
  read_is_message =
      let long : length (map (λ (told : Told). told.have) tolds) ≡ head.replicas = replicas ∙ are_told.0 in
      record {
        replicas_least = omega (arith, long, is_head.replicas_least);
        replicas_most = omega (arith, long, is_head.replicas_most);
        conits_least = omega (arith, are_lent.0, is_head.conits_least);
        conits_most = omega (arith, are_lent.0, is_head.conits_most);
        in_range = record {
          from = omega (arith, long, is_head.from);
          to = omega (arith, long, is_head.to);
          others = λ same. is_head.others (sym same);
          number = is_head.number;
          haves = refl;
          covers = length-map tolds (λ (told : Told). told.cover) ∙ sym replicas;
          firsts = length-map tolds (λ (told : Told). told.first) ∙ sym replicas;
          lent = refl;
          returned = are_returned.0 ∙ sym are_lent.0;
          told = λ origin within. in_told origin (omega (arith, within, replicas));
          lent_most = are_lent.1;
          returned_most = are_returned.1;
          few = all.few;
          placed = subst (λ n. writes ≡ flat_map (λ o. from_one o writes) (range_with_len 0 n)) (sym replicas) all.placed;
          writes = All-weaker (IsWriteOf head.conits) (IsWriteInRange (setup_of whole))
              (λ write is. write_in_setup (setup_of whole) write (subst (λ n. IsWriteOf n write) (sym are_lent.0) is)) writes all.each;
        };
      }

  same_head : head_of whole ≡ head
  same_head =
      let long : length (map (λ (told : Told). told.have) tolds) ≡ head.replicas = replicas ∙ are_told.0 in
      rw (long, are_lent.0) refl

  pub read_is_spelled : head_text ++ (told_text ++ (lent_text ++ (returned_text ++ write_text))) ≡ message_bytes whole
  read_is_spelled =
      let told : told_text ≡ flat_map told_bytes (tolds_of whole) = tolds_spelled head.to 0 MESSAGE_WRITES tolds told_text are_told.1 ∙ ap (λ ts. flat_map told_bytes ts) (sym tolds_are) in
      let start : head_text ≡ head_bytes (head_of whole) = is_head.spelled ∙ ap head_bytes (sym same_head) in
      rw (start, told, are_lent.2, are_returned.2, all.spelled) refl

-- ---- the parts of a message are read

module _ (message : Message) (is : IsMessage message) where
  abbrev range : IsMessageInRange (setup_of message) message
  range = is.in_range

  -- what is told of the origins from one on
  tolds_made : (len start room : ℕ)
      → start + len ≤ length message.haves
      → length (flat_map (told_writes message) (range_with_len start len)) ≤ room
      → Tolds message.to start room (map (told_of message) (range_with_len start len)) (flat_map told_bytes (map (told_of message) (range_with_len start len)))
  tolds_made zero start room within few = refl
  tolds_made (suc len) start room within few =
      let told = range.told start (omega (arith, within)) in
      let here = told_writes message start in
      let rest = flat_map (told_writes message) (range_with_len (start + 1) len) in
      let both : length here + length rest ≤ room = omega (arith, few, length-append here rest) in
      let next : start + 1 ≡ suc start = omega arith in
      let others = tolds_made len (start + 1) (room - length here) (omega (arith, within)) (omega (arith, both)) in
      let is_few : IsFew message.to start (told_have message start - told_first message start) room (length here) =
      record { due_most = told.told; room_most = omega (arith, both); receiver = λ same. ap length (told.receiver same) } in
      let is_told : IsTold message.to start room (told_of message start) (told_bytes (told_of message start)) = record {
        origin = refl;
        have = told.have;
        count = told.count;
        stamp = told.stamp;
        moment = told.moment;
        first = told.first;
        few = told_few message.to start (told_have message start - told_first message start) room (length here) is_few;
        spelled = refl;
      } in (
        told_bytes (told_of message start),
        flat_map told_bytes (map (told_of message) (range_with_len (start + 1) len)),
        is_told,
        subst (λ n. Tolds message.to n (room - length here) (map (told_of message) (range_with_len (start + 1) len))
            (flat_map told_bytes (map (told_of message) (range_with_len (start + 1) len)))) next others,
        flat_map-cons told_bytes (told_of message start) (map (told_of message) (range_with_len (start + 1) len)),
      )

  -- the writes of the origins from one on
  writes_made : (len start : ℕ)
      → start + len ≤ length message.haves
      → AllWrites (length message.lent) (map (told_of message) (range_with_len start len)) (flat_map (told_writes message) (range_with_len start len))
      (flat_map write_bytes (flat_map (told_writes message) (range_with_len start len)))
  writes_made zero start within = (refl, refl)
  writes_made (suc len) start within =
      let told = range.told start (omega (arith, within)) in
      let here = told_writes message start in
      let rest = flat_map (told_writes message) (range_with_len (start + 1) len) in
      let each : All (IsWriteOf (length message.lent)) here =
      All-filter (λ (write : Write). write.origin == start) (IsWriteOf (length message.lent)) message.writes
      (All-weaker (IsWriteInRange (setup_of message)) (IsWriteOf (length message.lent)) (λ write good. write_of_setup (setup_of message) write good) message.writes range.writes) in
      let are : AreFrom (length message.lent) start (told_first message start) here =
      record { origins = from_one-origins start message.writes; indices = told.indices; each = each } in
      (here, rest, flat_map write_bytes here, flat_map write_bytes rest, (refl, are, refl), writes_made len (start + 1) (omega (arith, within)), refl, flat_map-append write_bytes here rest)

  pub haves_again : map (λ (told : Told). told.have) (tolds_of message) ≡ message.haves
  haves_again =
      let n = length message.haves in
      let tolds : length (tolds_of message) ≡ n = length-map-range_with_len (told_of message) 0 n in
      let long : length (map (λ (told : Told). told.have) (tolds_of message)) ≡ n = length-map (tolds_of message) (λ (told : Told). told.have) ∙ tolds in
      ext_get_or 0 (map (λ (told : Told). told.have) (tolds_of message)) message.haves long
      (λ i within. get_or-map (λ (told : Told). told.have) (tolds_of message) i no_told 0 (omega (arith, within, long, tolds))
      ∙ ap (λ (told : Told). told.have) (get_or-map_range (told_of message) n i no_told (omega (arith, within, long))))

  firsts_again : map (λ (told : Told). told.first) (tolds_of message) ≡ message.firsts
  firsts_again =
      let n = length message.haves in
      let tolds : length (tolds_of message) ≡ n = length-map-range_with_len (told_of message) 0 n in
      let long : length (map (λ (told : Told). told.first) (tolds_of message)) ≡ n = length-map (tolds_of message) (λ (told : Told). told.first) ∙ tolds in
      ext_get_or 0 (map (λ (told : Told). told.first) (tolds_of message)) message.firsts (long ∙ sym range.firsts)
      (λ i within. get_or-map (λ (told : Told). told.first) (tolds_of message) i no_told 0 (omega (arith, within, long, tolds))
      ∙ ap (λ (told : Told). told.first) (get_or-map_range (told_of message) n i no_told (omega (arith, within, long))))

  covers_again : map (λ (told : Told). told.cover) (tolds_of message) ≡ message.covers
  covers_again =
      let n = length message.haves in
      let tolds : length (tolds_of message) ≡ n = length-map-range_with_len (told_of message) 0 n in
      let long : length (map (λ (told : Told). told.cover) (tolds_of message)) ≡ n = length-map (tolds_of message) (λ (told : Told). told.cover) ∙ tolds in
      ext_get_or no_cover (map (λ (told : Told). told.cover) (tolds_of message)) message.covers (long ∙ sym range.covers)
      (λ i within. get_or-map (λ (told : Told). told.cover) (tolds_of message) i no_told no_cover (omega (arith, within, long, tolds))
      ∙ ap (λ (told : Told). told.cover) (get_or-map_range (told_of message) n i no_told (omega (arith, within, long))))

  pub made_again : message ≡ message_from (head_of message) (tolds_of message) message.lent message.returned message.writes
  made_again = sym (rw (haves_again, covers_again, firsts_again) refl)

  pub head_made : IsHead (head_of message) (head_bytes (head_of message))
  head_made = record {
    replicas_least = is.replicas_least;
    replicas_most = is.replicas_most;
    conits_least = is.conits_least;
    conits_most = is.conits_most;
    from = range.from;
    to = range.to;
    others = λ same. range.others (sym same);
    number = range.number;
    spelled = refl;
  }

  pub all_told : CountedTolds message.to (length message.haves) 0 MESSAGE_WRITES (tolds_of message) (flat_map told_bytes (tolds_of message))
  all_told = (
    length-map-range_with_len (told_of message) 0 (length message.haves),
    tolds_made (length message.haves) 0 MESSAGE_WRITES (omega arith) (subst (λ (ws : List Write). length ws ≤ MESSAGE_WRITES) range.placed range.few),
  )

  pub all_written : AllWrites (length message.lent) (tolds_of message) message.writes (flat_map write_bytes message.writes)
  all_written =
      subst (λ (ws : List Write). AllWrites (length message.lent) (tolds_of message) ws (flat_map write_bytes ws)) (sym range.placed)
      (writes_made (length message.haves) 0 (omega arith))

-- ---- the whole

abbrev Parts : Message → List ℕ → Type 0
Parts =
    Then IsHead (λ head. Then (CountedTolds head.to head.replicas 0 MESSAGE_WRITES) (λ tolds. Then (AreNumbers LENT_MAX head.conits) (λ lent. Then (AreNumbers LENT_MAX head.conits) (λ returned.
    Made (AllWrites head.conits tolds) (λ writes. message_from head tolds lent returned writes)))))

pub message_reader : Reader (SpelledAs IsMessage message_bytes) message_at
unfolding message_at
message_reader =
    said (and_then head_reader (λ head. and_then (tolds_reader head.to head.replicas 0 MESSAGE_WRITES) (λ tolds.
    and_then (numbers_reader LENT_MAX head.conits (omega arith)) (λ lent. and_then (numbers_reader LENT_MAX head.conits (omega arith)) (λ returned.
    making (writes_reader head.conits tolds) (λ writes. message_from head tolds lent returned writes)))))) to from
  where
    to : (message : Message) (text : List ℕ) → Parts message text → SpelledAs IsMessage message_bytes message text
    to message text s =
        let t = s.4 in
        let l = t.4 in
        let r = l.4 in
        let w = r.4 in
        let good = read_is_message s.0 t.0 l.0 r.0 w.0 s.1 t.1 l.1 r.1 r.2 s.3 t.3 l.3 r.3 w.1 in
        let spells : text ≡ message_bytes (message_from s.0 t.0 l.0 r.0 w.0) =
        rw (s.5, t.5, l.5, r.5) (read_is_spelled s.0 t.0 l.0 r.0 w.0 s.1 t.1 l.1 r.1 r.2 s.3 t.3 l.3 r.3 w.1) in
        subst (λ (m : Message). SpelledAs IsMessage message_bytes m text) (sym w.2) (good, spells)

    from : (message : Message) (text : List ℕ) → SpelledAs IsMessage message_bytes message text → Parts message text
    from message text s =
        let lent = flat_map number_bytes message.lent in
        let returned = flat_map number_bytes message.returned in
        let writes = flat_map write_bytes message.writes in
        let range = s.0.in_range in (
          head_of message,
          head_bytes (head_of message),
          flat_map told_bytes (tolds_of message) ++ (lent ++ (returned ++ writes)),
          head_made message s.0,
          (
            tolds_of message,
            flat_map told_bytes (tolds_of message),
            lent ++ (returned ++ writes),
            all_told message s.0,
            (
              message.lent,
              lent,
              returned ++ writes,
              (refl, range.lent_most, refl),
              (
                message.returned,
                returned,
                writes,
                (range.returned, range.returned_most, refl),
                (message.writes, all_written message s.0, made_again message s.0),
                refl,
              ),
              refl,
            ),
            refl,
          ),
          s.1,
        )

-- ---- what a call that decodes promises

at_front : (message : Message) (bytes : List ℕ)
    → AreBytes bytes
    → IsMessage message
    → StandsAt (message_bytes message) bytes 0
    → message_at bytes 0 ≡ Ok (message, length (message_bytes message))
at_front message bytes fits good stands =
    let again = message_reader.again bytes 0 message (message_bytes message) fits (omega arith) (good, refl) stands in
    again ∙ ap (λ n. Ok (message, n)) (zero-add (length (message_bytes message)))

-- what is decoded is a message that stands at the front
pub decoded : (bytes : List ℕ) (result : Result (Message × ℕ) MsgFault)
    → AreBytes bytes
    → Tells (message_at bytes 0) result
    → IfOk result (λ read. IsMessage read.0 × StandsAt (message_bytes read.0) bytes 0 × (read.1 ≡ length (message_bytes read.0)))
decoded bytes (Ok read) fits told =
    let f = found message_reader bytes 0 fits read.0 read.1 (sym told) in
    (f.0, f.1, f.2 ∙ zero-add (length (message_bytes read.0)))
decoded bytes (Err f) fits told = tt

-- a message that stands at the front is decoded
pub only_decoded : (bytes : List ℕ) (result : Result (Message × ℕ) MsgFault)
    → AreBytes bytes
    → Tells (message_at bytes 0) result
    → (message : Message)
    → IsMessage message
    → StandsAt (message_bytes message) bytes 0
    → result ≢ Err fault.NoMemory
    → result ≡ Ok (message, length (message_bytes message))
only_decoded bytes (Ok read) fits told message good stands enough =
    let is = ok_is read (message, length (message_bytes message)) (sym told ∙ at_front message bytes fits good stands) in
    ap (λ (r : Message × ℕ). Ok r) is
only_decoded bytes (Err fault.Short) fits told message good stands enough =
    absurd (no_read (message_at bytes 0) field.Short message (length (message_bytes message)) (sym told) (at_front message bytes fits good stands))
only_decoded bytes (Err (fault.BadField place)) fits told message good stands enough =
    absurd (no_read (message_at bytes 0) (field.BadField place) message (length (message_bytes message)) (sym told) (at_front message bytes fits good stands))
only_decoded bytes (Err fault.NoMemory) fits told message good stands enough = absurd (enough refl)

-- no two messages stand at the front of the same bytes
pub one_message : (bytes : List ℕ)
    → AreBytes bytes
    → (a b : Message)
    → IsMessage a
    → IsMessage b
    → StandsAt (message_bytes a) bytes 0
    → StandsAt (message_bytes b) bytes 0
    → a ≡ b
one_message bytes fits a b good_a good_b stands_a stands_b =
    let is = ok_is (a, length (message_bytes a)) (b, length (message_bytes b)) (sym (at_front a bytes fits good_a stands_a) ∙ at_front b bytes fits good_b stands_b) in
    ap (λ (r : Message × ℕ). r.0) is
