-- An act that is read stands where it was read, and one that stands there is read.
use Rattle.std.proofs.Common.{◌≡◌, ℕ, zero, suc, ◌+◌, ◌^◌, ◌<◌, ◌≤◌, List, [], ◌∷◌, ◌++◌, length, Ok, refl, sym, subst, arith}
use Rattle.std.specs.List.{flat_map}
use Rattle.tact_base.specs.declared.limits.TheConstants.{AMOUNT_MAX, CLIENTS, HISTORY_MAX}
use Rattle.tact_base.specs.Setup.{Setup}
use Rattle.run_model.specs.declared.call.Request.{Request}
use Rattle.run_model.specs.declared.call.Reply.{Reply}
use Rattle.run_model.specs.Bytes.{StandsAt, number_bytes}
use Rattle.run_model.specs.CallBytes.{IsRequestOf, HasSmallNames, HasWideNumbers, request_bytes, reply_bytes}
use Rattle.run_model.proofs.ByteLemmas.{AreBytes, Spelled}
use Rattle.run_model.proofs.Readers.{Reader, Then, Made, IsByte, IsNumber, IsOther, SpelledAs, byte_field, number_field, any_number, other_reader, and_then, making, given}
use Rattle.run_model.proofs.ListBytes.{AreNumbers, numbers_reader}
use Rattle.run_model.proofs.RequestBytes.{request_reader}
use Rattle.run_model.proofs.ReplyBytes.{reply_reader}
use Rattle.run_record.specs.declared.short.ShortAct.{ShortAct}
use Rattle.run_record.specs.declared.short.ShortAct.TheVariants.{Call, Send, Take, Lend, Back, Restart}
use Rattle.run_record.specs.Records.{IsActOf}
use Rattle.run_record.specs.RecordBytes.{act_tag, act_bytes}
use Rattle.run_record.specs.EntriesAt.{call_at, send_at, take_at, lend_at, back_at, act_at}

module _ (setup : Setup) where
  -- ---- the fields of each kind

  abbrev IsReply : Reply → List ℕ → Type 0
  IsReply = SpelledAs (λ reply. HasSmallNames reply × HasWideNumbers reply) reply_bytes

  call_of : ℕ → ℕ → Request → Reply → ShortAct
  call_of client number request reply = Call client number request reply

  call_reader : Reader (Then (IsByte 0 CLIENTS) (λ client. Then (IsNumber 0 (2 ^ 64)) (λ number. Then (SpelledAs (IsRequestOf setup.conits) request_bytes) (λ request. Made IsReply (λ reply. Call client number request reply)))))
      (call_at setup.conits)
  unfolding call_at
  call_reader =
      and_then (byte_field 0 CLIENTS) (λ client. and_then any_number (λ number. and_then (request_reader setup.conits) (λ request. making reply_reader (λ reply. Call client number request reply))))

  send_reader : (replica : ℕ) → Reader (Then (IsOther replica setup.replicas) (λ to. Then (IsNumber 0 (2 ^ 64)) (λ number. Made (AreNumbers HISTORY_MAX setup.replicas) (λ firsts. Send to number firsts))))
      (send_at setup.replicas replica)
  unfolding send_at
  send_reader replica =
      and_then (other_reader replica setup.replicas) (λ to. and_then any_number (λ number. making (numbers_reader HISTORY_MAX setup.replicas (omega arith)) (λ firsts. Send to number firsts)))

  take_reader : (replica : ℕ) → Reader (Then (IsOther replica setup.replicas) (λ from. Made (IsNumber 0 (2 ^ 64)) (λ number. Take from number)))
      (take_at setup.replicas replica)
  unfolding take_at
  take_reader replica = and_then (other_reader replica setup.replicas) (λ from. making any_number (λ number. Take from number))

  lend_reader : (replica : ℕ) → Reader (Then (IsOther replica setup.replicas) (λ to. Then (IsByte 0 setup.conits) (λ conit. Made (IsNumber 0 (suc AMOUNT_MAX)) (λ amount. Lend to conit amount))))
      (lend_at setup.replicas setup.conits replica)
  unfolding lend_at
  lend_reader replica =
      and_then (other_reader replica setup.replicas) (λ to. and_then (byte_field 0 setup.conits) (λ conit. making (number_field 0 (suc AMOUNT_MAX) (omega arith)) (λ amount. Lend to conit amount)))

  back_reader : (replica : ℕ) → Reader (Then (IsOther replica setup.replicas) (λ owner. Then (IsByte 0 setup.conits) (λ conit. Made (IsNumber 0 (suc AMOUNT_MAX)) (λ amount. Back owner conit amount))))
      (back_at setup.replicas setup.conits replica)
  unfolding back_at
  back_reader replica =
      and_then (other_reader replica setup.replicas) (λ owner. and_then (byte_field 0 setup.conits) (λ conit. making (number_field 0 (suc AMOUNT_MAX) (omega arith)) (λ amount. Back owner conit amount)))

  -- ---- by its tag

  -- an act of a replica, of a kind, and its fields
  abbrev pub IsAct : ℕ → ℕ → ShortAct → List ℕ → Type 0
  IsAct tag replica act text = IsActOf setup replica act × (act_tag act ≡ tag) × (text ≡ act_bytes act)

  by_tag : (tag replica : ℕ) (bytes : List ℕ) (place : ℕ) (act : ShortAct) (next : ℕ)
      → 1 ≤ tag
      → tag < 7
      → AreBytes bytes
      → act_at setup.replicas setup.conits tag replica bytes place ≡ Ok (act, next)
      → (text : List ℕ) × IsAct tag replica act text × Spelled bytes place text next
  unfolding act_at
  by_tag zero replica bytes place act next low high fits e = absurd (omega arith)
  by_tag (suc zero) replica bytes place act next low high fits e =
      let t = call_reader.taken bytes place act next fits e in
      let s = t.1 in
      let n = s.4 in
      let q = n.4 in
      let r = q.4 in
      let spells : t.0 ≡ act_bytes (Call s.0 n.0 q.0 r.0) = rw (s.5, s.3.2, n.5, n.3.2, q.5, q.3.1, r.1.1) refl in
      (t.0, subst (λ a. IsAct 1 replica a t.0) (sym r.2) ((s.3.1, n.3.1, q.3.0, r.1.0.0, r.1.0.1), refl, spells), t.2)
  by_tag (suc (suc zero)) replica bytes place act next low high fits e =
      let t = (send_reader replica).taken bytes place act next fits e in
      let s = t.1 in
      let n = s.4 in
      let f = n.4 in
      let spells : t.0 ≡ act_bytes (Send s.0 n.0 f.0) = rw (s.5, s.3.2, n.5, n.3.2, f.1.2) refl in
      (t.0, subst (λ a. IsAct 2 replica a t.0) (sym f.2) ((s.3.0, s.3.1, n.3.1, f.1.0, f.1.1), refl, spells), t.2)
  by_tag (suc (suc (suc zero))) replica bytes place act next low high fits e =
      let t = (take_reader replica).taken bytes place act next fits e in
      let s = t.1 in
      let n = s.4 in
      let spells : t.0 ≡ act_bytes (Take s.0 n.0) = rw (s.5, s.3.2, n.1.2) refl in
      (t.0, subst (λ a. IsAct 3 replica a t.0) (sym n.2) ((s.3.0, s.3.1, n.1.1), refl, spells), t.2)
  by_tag (suc (suc (suc (suc zero)))) replica bytes place act next low high fits e =
      let t = (lend_reader replica).taken bytes place act next fits e in
      let s = t.1 in
      let c = s.4 in
      let a = c.4 in
      let spells : t.0 ≡ act_bytes (Lend s.0 c.0 a.0) = rw (s.5, s.3.2, c.5, c.3.2, a.1.2) refl in
      let amount : a.0 ≤ AMOUNT_MAX = omega (arith, a.1.1) in
      (t.0, subst (λ a. IsAct 4 replica a t.0) (sym a.2) ((s.3.0, s.3.1, c.3.1, amount), refl, spells), t.2)
  by_tag (suc (suc (suc (suc (suc zero))))) replica bytes place act next low high fits e =
      let t = (back_reader replica).taken bytes place act next fits e in
      let s = t.1 in
      let c = s.4 in
      let a = c.4 in
      let spells : t.0 ≡ act_bytes (Back s.0 c.0 a.0) = rw (s.5, s.3.2, c.5, c.3.2, a.1.2) refl in
      let amount : a.0 ≤ AMOUNT_MAX = omega (arith, a.1.1) in
      (t.0, subst (λ a. IsAct 5 replica a t.0) (sym a.2) ((s.3.0, s.3.1, c.3.1, amount), refl, spells), t.2)
  by_tag (suc (suc (suc (suc (suc (suc zero)))))) replica bytes place act next low high fits e =
      let t = (given Restart).taken bytes place act next fits e in
      (t.0, subst (λ a. IsAct 6 replica a t.0) (sym t.1.0) (tt, refl, t.1.1), t.2)
  by_tag (suc (suc (suc (suc (suc (suc (suc n))))))) replica bytes place act next low high fits e = absurd (omega arith)

  again : (replica : ℕ) (bytes : List ℕ) (place : ℕ) (act : ShortAct)
      → AreBytes bytes
      → place ≤ length bytes
      → IsActOf setup replica act
      → StandsAt (act_bytes act) bytes place
      → act_at setup.replicas setup.conits (act_tag act) replica bytes place ≡ Ok (act, place + length (act_bytes act))
  unfolding act_at
  again replica bytes place (Call client number request reply) fits within s there =
      call_reader.again bytes place (Call client number request reply) (act_bytes (Call client number request reply)) fits within
      (client, client ∷ [], number_bytes number ++ (request_bytes request ++ reply_bytes reply), (omega arith, s.0, refl), (number, number_bytes number, request_bytes request ++ reply_bytes reply, (omega arith, s.1, refl), (request, request_bytes request, reply_bytes reply, (s.2, refl), (reply, ((s.3, s.4), refl), refl), refl), refl), refl) there
  again replica bytes place (Send to number firsts) fits within s there =
      (send_reader replica).again bytes place (Send to number firsts) (act_bytes (Send to number firsts)) fits within
      (to, to ∷ [], number_bytes number ++ flat_map number_bytes firsts, (s.0, s.1, refl), (number, number_bytes number, flat_map number_bytes firsts, (omega arith, s.2, refl), (firsts, (s.3, s.4, refl), refl), refl), refl) there
  again replica bytes place (Take from number) fits within s there =
      (take_reader replica).again bytes place (Take from number) (act_bytes (Take from number)) fits within
      (from, from ∷ [], number_bytes number, (s.0, s.1, refl), (number, (omega arith, s.2, refl), refl), refl) there
  again replica bytes place (Lend to conit amount) fits within s there =
      (lend_reader replica).again bytes place (Lend to conit amount) (act_bytes (Lend to conit amount)) fits within
      (to, to ∷ [], conit ∷ number_bytes amount, (s.0, s.1, refl), (conit, conit ∷ [], number_bytes amount, (omega arith, s.2, refl), (amount, (omega arith, omega (arith, s.3), refl), refl), refl), refl) there
  again replica bytes place (Back owner conit amount) fits within s there =
      (back_reader replica).again bytes place (Back owner conit amount) (act_bytes (Back owner conit amount)) fits within
      (owner, owner ∷ [], conit ∷ number_bytes amount, (s.0, s.1, refl), (conit, conit ∷ [], number_bytes amount, (omega arith, s.2, refl), (amount, (omega arith, omega (arith, s.3), refl), refl), refl), refl) there
  again replica bytes place Restart fits within s there =
      (given Restart).again bytes place Restart [] fits within (refl, refl) there

  pub act_reader : (tag replica : ℕ)
      → 1 ≤ tag
      → tag < 7
      → Reader (IsAct tag replica) (act_at setup.replicas setup.conits tag replica)
  act_reader tag replica low high = record {
    taken = λ bytes place act next fits e. by_tag tag replica bytes place act next low high fits e;
    again = λ bytes place act text fits within s stands.
        let there = subst (λ t. StandsAt t bytes place) s.2 stands in
        let read = again replica bytes place act fits within s.0 there in
        let whole = subst (λ t. act_at setup.replicas setup.conits t replica bytes place ≡ Ok (act, place + length (act_bytes act))) s.1 read in
        rw s.2 whole;
  }
