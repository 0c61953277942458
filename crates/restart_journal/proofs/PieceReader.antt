-- A piece that is read is spelled there, and one that is spelled there is read.
use Rattle.std.proofs.Common.{◌≡◌, ◌≢◌, ℕ, suc, ◌+◌, ◌<◌, ◌≤◌, ◌==◌, Bool, true, false, cond, List, [], ◌∷◌, ◌++◌, length, take, Option, None, Some, Ok, Err, refl, sym, ap, subst, ◌∙◌, arith, eq-eqb}
use Rattle.std.proofs.lemmas.Bool.{eqb-true}
use Rattle.std.proofs.lemmas.List.{take_all}
use Rattle.tact_base.specs.declared.limits.TheConstants.{MOMENT_MAX}
use Rattle.tact_base.specs.Setup.{Setup}
use Rattle.run_model.specs.Bytes.{Field, StandsAt, number_bytes}
use Rattle.run_model.specs.declared.entry.Message.{Message}
use Rattle.run_model.proofs.ByteLemmas.{AreBytes}
use Rattle.run_model.proofs.Readers.{Reader, Then, Made, IsByte, IsNumber, SpelledAs, byte_field, number_field, and_then, and_then_if, making, said}
use Rattle.tact_msg.specs.MessageBytes.{IsMessage, message_bytes}
use Rattle.tact_msg.proofs.MessageReader.{message_reader}
use Rattle.run_record.specs.declared.short.Short.{Short}
use Rattle.run_record.specs.Records.{IsShortOf}
use Rattle.run_record.specs.RecordBytes.{act_tag, act_bytes}
use Rattle.run_record.proofs.EntryReaders.{IsEntry, entry_reader, tag_least, tag_low}
use Rattle.run_record.proofs.FieldReaders.{by_test}
use Rattle.restart_journal.specs.declared.parts.Piece.{Piece}
use Rattle.restart_journal.specs.declared.parts.Told.{Told}
use Rattle.restart_journal.specs.declared.parts.Told.TheVariants as told
use Rattle.restart_journal.specs.PieceAt.{IsPiece, a_piece, told_tag, told_bytes, spelling, taken_at, step_at, piece_at, up_to_end, piece_in}
use Rattle.restart_journal.proofs.FrontReader.{from_front}

module _ (setup : Setup) where
  -- a piece behind its tag
  abbrev IsBehind : ℕ → Piece → List ℕ → Type 0
  IsBehind tag piece text =
      IsPiece setup piece × (told_tag piece.told ≡ tag) × (text ≡ piece.replica ∷ number_bytes piece.moment ++ told_bytes piece.told)

  -- ---- a take

  abbrev TakenFields : Piece → List ℕ → Type 0
  TakenFields =
      Then (IsByte 0 setup.replicas) (λ replica. Then (IsNumber 0 (suc MOMENT_MAX)) (λ moment. Made (SpelledAs IsMessage message_bytes) (λ message. record { replica = replica; moment = moment; told = told.Take message })))

  taken_reader : Reader (IsBehind 3) (taken_at setup.replicas)
  unfolding taken_at
  taken_reader =
      said (and_then (byte_field 0 setup.replicas) (λ replica. and_then (number_field 0 (suc MOMENT_MAX) (omega arith)) (λ moment. from_front message_reader (λ message. record { replica = replica; moment = moment; told = told.Take message })))) to from
    where
      to : (piece : Piece) (text : List ℕ) → TakenFields piece text → IsBehind 3 piece text
      to piece text s =
          let m = s.4 in
          let a = m.4 in
          let is : Piece = record { replica = s.0; moment = m.0; told = told.Take a.0 } in
          let spells : text ≡ is.replica ∷ number_bytes is.moment ++ told_bytes is.told = rw (s.5, s.3.2, m.5, m.3.2, a.1.1) refl in
          let good : IsPiece setup is = record { replica = s.3.1; moment = omega (arith, m.3.1); told = a.1.0 } in
          subst (λ (p : Piece). IsBehind 3 p text) (sym a.2) (good, refl, spells)

      fields : (replica moment : ℕ) (told : Told) (text : List ℕ) → IsBehind 3 (a_piece replica moment told) text → TakenFields (a_piece replica moment told) text
      fields replica moment (told.Take message) text s = (
        replica,
        replica ∷ [],
        number_bytes moment ++ message_bytes message,
        (omega arith, s.0.replica, refl),
        (
          moment,
          number_bytes moment,
          message_bytes message,
          (omega arith, omega (arith, s.0.moment), refl),
          (message, (s.0.told, refl), refl),
          refl,
        ),
        s.2,
      )
      fields replica moment (told.Step done) text s = absurd (s.0.told.1 s.1)

      from : (piece : Piece) (text : List ℕ) → IsBehind 3 piece text → TakenFields piece text
      from piece text s = fields piece.replica piece.moment piece.told text s

  -- ---- another entry

  abbrev StepFields : ℕ → Piece → List ℕ → Type 0
  StepFields tag =
      Made (IsEntry setup tag) (λ (short : Short). record { replica = short.replica; moment = short.moment; told = told.Step short.act })

  step_reader : (tag : ℕ) → 1 ≤ tag → tag < 7 → tag ≢ 3 → Reader (IsBehind tag) (step_at setup.replicas setup.conits tag)
  unfolding step_at
  step_reader tag low high other =
      said (making (entry_reader setup tag low high) (λ (short : Short). record { replica = short.replica; moment = short.moment; told = told.Step short.act })) to from
    where
      to : (piece : Piece) (text : List ℕ) → StepFields tag piece text → IsBehind tag piece text
      to piece text s =
          let short = s.0 in
          let is : Piece = record { replica = short.replica; moment = short.moment; told = told.Step short.act } in
          let good : IsPiece setup is = record { replica = s.1.0.replica; moment = s.1.0.moment; told = (s.1.0.act, λ e. other (sym s.1.1 ∙ e)) } in
          subst (λ (p : Piece). IsBehind tag p text) (sym s.2) (good, s.1.1, s.1.2)

      fields : (replica moment : ℕ) (told : Told) (text : List ℕ) → IsBehind tag (a_piece replica moment told) text → StepFields tag (a_piece replica moment told) text
      fields replica moment (told.Take message) text s = absurd (other (sym s.1))
      fields replica moment (told.Step done) text s =
          let short : Short = record { replica = replica; moment = moment; act = done } in
          let good : IsShortOf setup short = record { replica = s.0.replica; moment = s.0.moment; act = s.0.told.0 } in
          (short, (good, s.1, s.2), refl)

      from : (piece : Piece) (text : List ℕ) → IsBehind tag piece text → StepFields tag piece text
      from piece text s = fields piece.replica piece.moment piece.told text s

  -- ---- the whole

  behind_reader : (tag : ℕ) → 1 ≤ tag → tag < 7 → Reader (IsBehind tag) (λ bytes place. cond (tag == 3) (taken_at setup.replicas bytes place) (step_at setup.replicas setup.conits tag bytes place))
  behind_reader tag low high =
      by_test (tag == 3)
      (λ is. subst (λ t. Reader (IsBehind t) (taken_at setup.replicas)) (sym (eqb-true tag 3 is)) taken_reader)
      (λ isnt. step_reader tag low high (λ is. false_is_true (sym isnt ∙ eq-eqb tag 3 is)))
    where
      false_is_true : false ≡ true → ⊥
      false_is_true e = cc

  pub piece_reader : Reader (SpelledAs (IsPiece setup) spelling) (piece_at setup.replicas setup.conits)
  unfolding piece_at
  piece_reader =
      said (and_then_if (byte_field 1 7) (λ tag text is. behind_reader tag is.0 is.1)) to from
    where
      to : (piece : Piece) (text : List ℕ) → Then (IsByte 1 7) IsBehind piece text → SpelledAs (IsPiece setup) spelling piece text
      to piece text s =
          let spells : text ≡ spelling piece = rw (s.5, s.3.2, s.4.2, s.4.1) refl in
          (s.4.0, spells)

      tag_within : (told : Told) → (1 ≤ told_tag told) × (told_tag told < 7)
      tag_within (told.Take message) = (omega arith, omega arith)
      tag_within (told.Step done) = (tag_least done, tag_low done)

      from : (piece : Piece) (text : List ℕ) → SpelledAs (IsPiece setup) spelling piece text → Then (IsByte 1 7) IsBehind piece text
      from piece text s =
          let tag = tag_within piece.told in (
            told_tag piece.told,
            told_tag piece.told ∷ [],
            piece.replica ∷ number_bytes piece.moment ++ told_bytes piece.told,
            (tag.0, tag.1, refl),
            (s.0, refl, refl),
            s.1,
          )

  -- ---- a whole piece

  -- what a piece tells can be told, and is spelled as the piece
  pub told_is_spelled : (bytes : List ℕ) (piece : Piece)
      → AreBytes bytes
      → piece_in setup.replicas setup.conits bytes ≡ Some piece
      → IsPiece setup piece × (bytes ≡ spelling piece)
  told_is_spelled bytes piece fits e = go (piece_at setup.replicas setup.conits bytes 0) refl e
    where
      ends : (is : Bool) (one : Piece) → cond is (Some one) None ≡ Some piece → (is ≡ true) × (one ≡ piece)
      ends true one e = (refl, cc)
      ends false one e = absurd cc

      go : (read : Field Piece) → piece_at setup.replicas setup.conits bytes 0 ≡ read → up_to_end bytes read ≡ Some piece → IsPiece setup piece × (bytes ≡ spelling piece)
      go (Err fault) at e = absurd cc
      go (Ok read) at e =
          let end = ends (read.1 == length bytes) read.0 e in
          let t = piece_reader.taken bytes 0 read.0 read.1 fits at in
          let long : length t.0 ≡ length bytes = omega (arith, eqb-true read.1 (length bytes) end.0, t.2.after) in
          let all : bytes ≡ t.0 = sym (take_all (length t.0) bytes (omega (arith, long))) ∙ t.2.stands in
          subst (λ p. IsPiece setup p × (bytes ≡ spelling p)) end.1 (t.1.0, all ∙ t.1.1)

  -- and what can be told is what its spelling tells
  pub spelled_is_told : (bytes : List ℕ) (piece : Piece)
      → AreBytes bytes
      → IsPiece setup piece
      → bytes ≡ spelling piece
      → piece_in setup.replicas setup.conits bytes ≡ Some piece
  spelled_is_told bytes piece fits good is =
      let stands : StandsAt (spelling piece) bytes 0 = subst (λ bs. take (length (spelling piece)) bs ≡ spelling piece) (sym is) (take_all (length (spelling piece)) (spelling piece) (omega arith)) in
      let read = piece_reader.again bytes 0 piece (spelling piece) fits (omega arith) (good, refl) stands in
      let ends : 0 + length (spelling piece) ≡ length (spelling piece) = omega arith in
      let end = eq-eqb (length (spelling piece)) (length bytes) (ap length (sym is)) in
      rw (read, ends, end) refl
