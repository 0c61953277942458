-- An entry that is lawful after a sound history leaves it sound.
use Rattle.std.proofs.Common.{◌≡◌, ℕ, ◌<◌, ◌≤◌, ◌==◌, List, [], ◌∷◌, ◌++◌, length, All, Contains, Option, None, Some, refl, sym, ap, ◌∙◌, subst, ⊎_elim, le_trans, arith}
use Rattle.std.proofs.lemmas.Bool.{cases_eq, cases_lt}
use Rattle.std.proofs.lemmas.List.{length_push, get_or_append_left, get_or_push}
use Rattle.std.proofs.lemmas.List.Elements.{All-push, All-weaker, All-contains, All-filter}
use Rattle.std.proofs.lemmas.Option.{same_Some}
use Rattle.tact_base.specs.declared.write.Write.{Write}
use Rattle.tact_base.specs.Setup.{Setup}
use Rattle.run_model.specs.Histories.{part_of, last_moment, sent_in, sent_by_act, taken_by_act}
use Rattle.run_model.specs.OwnWrites.{own, accepted_by}
use Rattle.run_model.specs.Taking.{origin_state, told_have, told_cover, have, clock, known}
use Rattle.run_model.specs.Messages.{message_of}
use Rattle.run_model.specs.Runs.{IsActDue, WasSent, IsLawful}
use Rattle.run_model.specs.declared.entry.Act.{Act}
use Rattle.run_model.specs.declared.entry.Act.TheVariants as act
use Rattle.run_model.specs.declared.entry.Entry.{Entry}
use Rattle.run_model.specs.declared.entry.Message.{Message}
use Rattle.run_model.proofs.PartLemmas.{sent_by, taken_by, part_of-push_same, part_of-push_cases, own-push_none}
use Rattle.run_model.proofs.PartLemmas.{sent_in-push_none, sent_in-push_some, origin_state-push_none}
use Rattle.run_model.proofs.PartLemmas.{origin_state-push_some, last_moment-push, known-push_none, known-push_from}
use Rattle.run_model.proofs.PartLemmas.{known-push_other}
use Rattle.run_model.proofs.ClockLemmas.{clock-le-push, clock-push_none, told-le-clock}
use Rattle.run_model.proofs.Growth.{Grows, Grows-history}
use Rattle.run_model.proofs.Sound.{IsNumbered, IsSoundKeeping, IsSoundTold, IsSoundMessage, HaveTheirPlaces, Sound}
use Rattle.run_model.proofs.SoundOwn.{IsNumbered-push}
use Rattle.run_model.proofs.SoundKeeping.{IsSoundKeeping-grows, IsSoundKeeping-after}
use Rattle.run_model.proofs.SoundMessages.{IsSoundTold-grows, IsSoundMessage-grows, IsSoundMessage-sent}

-- one more message, with its place
HaveTheirPlaces-push : (messages : List Message) (message : Message)
    → HaveTheirPlaces messages
    → message.number ≡ length messages
    → HaveTheirPlaces (messages ++ message ∷ [])
HaveTheirPlaces-push messages message numbered is place d within = ⊎_elim
    (λ (earlier : place < length messages). rw (get_or_append_left messages (message ∷ []) d place earlier) (numbered place d earlier))
    (λ (last : length messages ≤ place).
    let at : length messages ≡ place = omega (arith, length_push messages message) in
    ap (λ (m : Message). m.number) (get_or_push messages message d place at) ∙ is ∙ at)
    (cases_lt place (length messages))

-- what a sent message is, and that its act neither accepts nor takes
pub record IsSent (setup : Setup) (replica : ℕ) (part : List Entry) (at : ℕ) (done : Act) (message : Message) : Type 0 where
  pub is : message ≡ message_of setup replica part at message.to message.firsts
  pub accepts : accepted_by replica at done ≡ None
  pub takes : taken_by_act done ≡ None

pub sent_is : (setup : Setup) (replica : ℕ) (part : List Entry) (at : ℕ) (done : Act) (message : Message)
    → IsActDue setup replica part at done
    → sent_by_act done ≡ Some message
    → IsSent setup replica part at done message
sent_is setup replica part at (act.Send sent) message due some = record {
  is = subst (λ m. m ≡ message_of setup replica part at m.to m.firsts) (same_Some sent message some) due;
  accepts = refl;
  takes = refl;
}
sent_is setup replica part at (act.Call client number asked given) message due some = cc
sent_is setup replica part at (act.Take taken) message due some = cc
sent_is setup replica part at (act.Lend to conit amount) message due some = cc
sent_is setup replica part at (act.Back owner conit amount) message due some = cc
sent_is setup replica part at act.Restart message due some = cc

-- a taken message was sent
pub taken_was_sent : (history : List Entry) (done : Act) (message : Message)
    → WasSent history done
    → taken_by_act done ≡ Some message
    → Contains (sent_in (part_of history message.from)) message
taken_was_sent history (act.Take taken) message was_sent some = subst (λ m. Contains (sent_in (part_of history m.from)) m) (same_Some taken message some) was_sent
taken_was_sent history (act.Call client number asked given) message was_sent some = cc
taken_was_sent history (act.Send sent) message was_sent some = cc
taken_was_sent history (act.Lend to conit amount) message was_sent some = cc
taken_was_sent history (act.Back owner conit amount) message was_sent some = cc
taken_was_sent history act.Restart message was_sent some = cc

module _ (setup : Setup) (history : List Entry) (entry : Entry) (sound : Sound setup history) (lawful : IsLawful setup history entry) where
  abbrev part : List Entry
  part = part_of history entry.replica

  abbrev further : List Entry
  further = history ++ entry ∷ []

  grows : (replica : ℕ) → Grows replica (part_of history replica) (part_of further replica)
  grows = Grows-history setup history entry lawful.due

  taken_is_sound : (message : Message)
      → taken_by entry ≡ Some message
      → IsSoundMessage history message.from message
  taken_is_sound message some =
      All-contains (IsSoundMessage history message.from) (sent_in (part_of history message.from)) message (sound.sent message.from)
      (taken_was_sent history entry.act message lawful.sent some)

  own_step : (replica : ℕ) → IsNumbered replica (part_of further replica)
  own_step = part_of-push_cases history entry IsNumbered (IsNumbered-push setup part entry lawful.due (sound.own entry.replica)) sound.own

  -- what the entry's replica keeps of an origin
  kept_before : (origin : ℕ)
      → IsSoundKeeping (clock (part ++ entry ∷ [])) (origin_state part origin) (part_of further origin)
  kept_before origin =
      IsSoundKeeping-grows (clock part) (clock (part ++ entry ∷ [])) (origin_state part origin) origin (part_of history origin) (part_of further origin)
      (clock-le-push part entry) (grows origin) (sound.kept entry.replica origin)

  kept_here : (origin : ℕ) (taken : Option Message)
      → taken_by entry ≡ taken
      → IsSoundKeeping (clock (part ++ entry ∷ [])) (origin_state (part ++ entry ∷ []) origin) (part_of further origin)
  kept_here origin None none =
      subst (λ kept. IsSoundKeeping (clock (part ++ entry ∷ [])) kept (part_of further origin)) (sym (origin_state-push_none part entry origin none)) (kept_before origin)
  kept_here origin (Some message) some =
      let sent = taken_is_sound message some in
      let had = have message.from (part_of history message.from) origin in
      let told : IsSoundTold message origin had (part_of further origin) =
      IsSoundTold-grows message origin had had (part_of history origin) (part_of further origin) (omega arith) (grows origin) (sent.told origin) in
      let IsBelow = λ (write : Write). write.stamp ≤ clock (part ++ entry ∷ []) in
      let heard = told-le-clock part entry message some message.from in
      let below : All IsBelow message.writes =
      All-weaker (λ (write : Write). write.stamp ≤ (told_cover message message.from).stamp) IsBelow (λ write within. le_trans within heard) message.writes sent.stamps in
      subst (λ kept. IsSoundKeeping (clock (part ++ entry ∷ [])) kept (part_of further origin)) (sym (origin_state-push_some part entry origin message some))
      (IsSoundKeeping-after (clock (part ++ entry ∷ [])) origin (origin_state part origin) message had (part_of further origin) told
      (All-filter (λ (write : Write). write.origin == origin) IsBelow message.writes below) (kept_before origin))

  kept_step : (replica origin : ℕ)
      → IsSoundKeeping (clock (part_of further replica)) (origin_state (part_of further replica) origin) (part_of further origin)
  kept_step replica origin =
      part_of-push_cases history entry (λ r after. IsSoundKeeping (clock after) (origin_state after origin) (part_of further origin)) (kept_here origin (taken_by entry) refl)
      (λ r. IsSoundKeeping-grows (clock (part_of history r)) (clock (part_of history r)) (origin_state (part_of history r) origin) origin (part_of history origin)
      (part_of further origin) (omega arith) (grows origin) (sound.kept r origin))
      replica

  -- what the entry's replica knows of a peer
  known_before : (replica peer origin : ℕ)
      → known (part_of history replica) peer origin ≤ have peer (part_of further peer) origin
  known_before replica peer origin = le_trans (sound.known replica peer origin) ((grows peer).have origin)

  known_here : (peer origin : ℕ) (taken : Option Message)
      → taken_by entry ≡ taken
      → known (part ++ entry ∷ []) peer origin ≤ have peer (part_of further peer) origin
  known_here peer origin None none = omega (arith, known-push_none part entry peer origin none, known_before entry.replica peer origin)
  known_here peer origin (Some message) some = ⊎_elim
      (λ (same : message.from ≡ peer).
      let told = subst (λ p. told_have message origin ≤ have p (part_of history p) origin) same ((taken_is_sound message some).told origin).have in
      omega (arith, known-push_from part entry peer origin message some same, told, (grows peer).have origin, known_before entry.replica peer origin))
      (λ (other : message.from ≡ peer → ⊥).
      omega (arith, known-push_other part entry peer origin message some other, known_before entry.replica peer origin))
      (cases_eq message.from peer)

  known_step : (replica peer origin : ℕ)
      → known (part_of further replica) peer origin ≤ have peer (part_of further peer) origin
  known_step replica peer origin =
      part_of-push_cases history entry (λ r after. known after peer origin ≤ have peer (part_of further peer) origin) (known_here peer origin (taken_by entry) refl)
      (λ r. known_before r peer origin) replica

  -- the messages that the entry's replica sent
  sent_before : (replica : ℕ)
      → All (IsSoundMessage further replica) (sent_in (part_of history replica))
  sent_before replica =
      All-weaker (IsSoundMessage history replica) (IsSoundMessage further replica) (λ message. IsSoundMessage-grows history further replica message grows)
      (sent_in (part_of history replica)) (sound.sent replica)

  sent_here : (sent : Option Message)
      → sent_by entry ≡ sent
      → All (IsSoundMessage further entry.replica) (sent_in (part ++ entry ∷ []))
  sent_here None none = subst (All (IsSoundMessage further entry.replica)) (sym (sent_in-push_none part entry none)) (sent_before entry.replica)
  sent_here (Some message) some =
      let sent = sent_is setup entry.replica part entry.moment entry.act message lawful.due.act some in
      let here : part_of further entry.replica ≡ part ++ entry ∷ [] = part_of-push_same history entry entry.replica refl in
      let is_sound : IsSoundMessage further entry.replica (message_of setup entry.replica part entry.moment message.to message.firsts) =
      IsSoundMessage-sent setup history sound entry.replica entry.moment message.to message.firsts further lawful.due.in_range.replica grows
      (ap own here ∙ own-push_none part entry sent.accepts) (ap clock here ∙ clock-push_none part entry sent.accepts sent.takes) (ap last_moment here ∙ last_moment-push part entry) own_step in
      subst (All (IsSoundMessage further entry.replica)) (sym (sent_in-push_some part entry message some))
      (All-push (IsSoundMessage further entry.replica) (sent_in part) message (sent_before entry.replica) (subst (IsSoundMessage further entry.replica) (sym sent.is) is_sound))

  sent_step : (replica : ℕ)
      → All (IsSoundMessage further replica) (sent_in (part_of further replica))
  sent_step = part_of-push_cases history entry (λ r after. All (IsSoundMessage further r) (sent_in after)) (sent_here (sent_by entry) refl) sent_before

  -- their numbers
  numbers_here : (sent : Option Message)
      → sent_by entry ≡ sent
      → HaveTheirPlaces (sent_in (part ++ entry ∷ []))
  numbers_here None none = subst HaveTheirPlaces (sym (sent_in-push_none part entry none)) (sound.numbers entry.replica)
  numbers_here (Some message) some =
      let sent = sent_is setup entry.replica part entry.moment entry.act message lawful.due.act some in
      subst HaveTheirPlaces (sym (sent_in-push_some part entry message some))
      (HaveTheirPlaces-push (sent_in part) message (sound.numbers entry.replica) (ap (λ (m : Message). m.number) sent.is))

  numbers_step : (replica : ℕ) → HaveTheirPlaces (sent_in (part_of further replica))
  numbers_step = part_of-push_cases history entry (λ r after. HaveTheirPlaces (sent_in after)) (numbers_here (sent_by entry) refl) sound.numbers

  pub Sound-push : Sound setup (history ++ entry ∷ [])
  Sound-push = record { own = own_step; kept = kept_step; known = known_step; sent = sent_step; numbers = numbers_step }
