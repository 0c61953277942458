-- The piece of an entry tells that entry.
use Rattle.std.proofs.Common.{◌≡◌, ◌≢◌, ℕ, ◌^◌, ◌<◌, ◌≤◌, List, [], ◌∷◌, ◌++◌, length, get_or, All, Option, Some, refl, sym, ap, subst, ◌∙◌, arith}
use Rattle.std.specs.List.{flat_map, range_with_len}
use Rattle.std.proofs.lemmas.List.{get_or_default}
use Rattle.std.specs.Option.{option_map}
use Rattle.std.specs.Prelude.{option_and_then}
use Rattle.std.proofs.lemmas.List.Elements.{All-weaker}
use Rattle.std.proofs.lemmas.Option.{same_Some}
use Rattle.tact_base.specs.declared.limits.TheConstants.{HISTORY_MAX}
use Rattle.tact_base.specs.declared.write.Write.{Write}
use Rattle.tact_base.specs.Setup.{Setup, IsSetup}
use Rattle.tact_base.proofs.SetupLemmas.{HasCounts, HasCounts-from_IsSetup}
use Rattle.run_model.specs.Messages.{message_of}
use Rattle.run_model.specs.Ranges.{IsWeightInRange, AreWeightsInRange, IsWriteInRange, IsMessageInRange, IsActInRange, IsEntryInRange}
use Rattle.run_model.specs.Runs.{IsActDue, IsDue}
use Rattle.run_model.specs.Taking.{told_writes}
use Rattle.run_model.specs.declared.entry.Act.{Act}
use Rattle.run_model.specs.declared.entry.Act.TheVariants as act
use Rattle.run_model.specs.declared.entry.Entry.{Entry}
use Rattle.run_model.specs.declared.entry.Message.{Message}
use Rattle.run_model.proofs.ByteLemmas.{AreBytes}
use Rattle.tact_msg.specs.MessageBytes.{IsMessage, setup_of}
use Rattle.run_record.specs.Records.{IsActOf, short_act_of}
use Rattle.run_record.specs.declared.short.ShortAct.{ShortAct}
use Rattle.run_record.specs.declared.short.ShortAct.TheVariants as short
use Rattle.run_record.proofs.RequestRange.{request_of_setup}
use Rattle.restart_journal.specs.declared.parts.Piece.{Piece}
use Rattle.restart_journal.specs.declared.parts.Told.{Told}
use Rattle.restart_journal.specs.declared.parts.Told.TheVariants as told
use Rattle.restart_journal.specs.Pieces.{IsSpellable, IsPieceOf, piece_bytes}
use Rattle.restart_journal.specs.PieceAt.{IsPiece, IsToldOf, act_told, entry_in, entry_told, entry_with, told_of, piece_of, piece_in, spelling}
use Rattle.restart_journal.proofs.PieceReader.{spelled_is_told}

-- ---- a message in range of a setup is one of some setup

module _ (setup : Setup) (message : Message) (within : IsMessageInRange setup message) where
  -- the setup that the message speaks of
  abbrev its : Setup
  its = setup_of message

  weights_there : (write : Write) → AreWeightsInRange setup write.weights → AreWeightsInRange its write.weights
  weights_there write are = record {
    each = All-weaker (IsWeightInRange setup) (IsWeightInRange its) (λ weight fits. record { conit = omega (arith, fits.conit, within.lent); nweight = fits.nweight; oweight = fits.oweight }) write.weights are.each;
    listed = are.listed;
  }

  write_there : (write : Write) → IsWriteInRange setup write → IsWriteInRange its write
  write_there write is = record {
    stamp_least = is.stamp_least;
    stamp_most = is.stamp_most;
    moment = is.moment;
    weights = weights_there write is.weights;
    op = is.op;
  }

  pub message_of_some : IsSetup setup → IsMessage message
  message_of_some good =
      let counts = HasCounts-from_IsSetup setup good in
      record {
        replicas_least = omega (arith, within.haves, counts.replicas_low);
        replicas_most = omega (arith, within.haves, counts.replicas_high);
        conits_least = omega (arith, within.lent, counts.conits_low);
        conits_most = omega (arith, within.lent, counts.conits_high);
        in_range = record {
          from = omega (arith, within.from, within.haves);
          to = omega (arith, within.to, within.haves);
          others = within.others;
          number = within.number;
          haves = refl;
          covers = within.covers ∙ sym within.haves;
          firsts = within.firsts ∙ sym within.haves;
          lent = refl;
          returned = within.returned ∙ sym within.lent;
          told = λ origin below. within.told origin (omega (arith, below, within.haves));
          lent_most = within.lent_most;
          returned_most = within.returned_most;
          few = within.few;
          placed = subst (λ (n : ℕ). message.writes ≡ flat_map (told_writes message) (range_with_len 0 n)) (sym within.haves) within.placed;
          writes = All-weaker (IsWriteInRange setup) (IsWriteInRange its) write_there message.writes within.writes;
        };
      }

  -- its firsts are small
  pub firsts_small : All (λ first. first ≤ HISTORY_MAX) message.firsts
  firsts_small k d inside =
      let told = within.told k (omega (arith, inside, within.firsts)) in
      let same : get_or message.firsts k d ≡ get_or message.firsts k 0 = get_or_default message.firsts k d 0 inside in
      omega (arith, same, told.first, told.have)

-- ---- what is told of an entry

act_can_be_told : (setup : Setup) (replica : ℕ) (done : Act)
    → IsSetup setup
    → IsActInRange setup replica done
    → IsSpellable done
    → IsToldOf setup replica (told_of done)
act_can_be_told setup replica (act.Call client number request reply) good within can =
    ((within.0, can.0, request_of_setup setup request within.1, can.1, can.2), λ e. absurd (omega (arith, e)))
act_can_be_told setup replica (act.Send message) good within can =
    let m = within.0 in
    ((m.to, λ same. m.others (within.1 ∙ sym same), omega (arith, m.number), m.firsts, firsts_small setup message m), λ e. absurd (omega (arith, e)))
act_can_be_told setup replica (act.Take message) good within can = message_of_some setup message within.0 good
act_can_be_told setup replica (act.Lend to conit amount) good within can = (within, λ e. absurd (omega (arith, e)))
act_can_be_told setup replica (act.Back owner conit amount) good within can = (within, λ e. absurd (omega (arith, e)))
act_can_be_told setup replica act.Restart good within can = (tt, λ e. absurd (omega (arith, e)))

-- the piece of an entry in range can be told
pub can_be_told : (setup : Setup) (entry : Entry)
    → IsSetup setup
    → IsEntryInRange setup entry
    → IsSpellable entry.act
    → IsPiece setup (piece_of entry)
can_be_told setup entry good within can = record {
  replica = within.replica;
  moment = within.moment;
  told = act_can_be_told setup entry.replica entry.act good within.act can;
}

-- and what can be told is spelled with numbers of eight bytes
pub told_is_spellable : (setup : Setup) (replica : ℕ) (done : Act)
    → IsToldOf setup replica (told_of done)
    → IsSpellable done
told_is_spellable setup replica (act.Call client number request reply) can = (can.0.1, can.0.3, can.0.4)
told_is_spellable setup replica (act.Send message) can = tt
told_is_spellable setup replica (act.Take message) can = tt
told_is_spellable setup replica (act.Lend to conit amount) can = tt
told_is_spellable setup replica (act.Back owner conit amount) can = tt
told_is_spellable setup replica act.Restart can = tt

-- the piece is the spelling of what it tells
spelled_alike : (replica moment : ℕ) (done : Act)
    → spelling (record { replica = replica; moment = moment; told = told_of done }) ≡ piece_bytes (record { replica = replica; moment = moment; act = done })
spelled_alike replica moment (act.Call client number request reply) = refl
spelled_alike replica moment (act.Send message) = refl
spelled_alike replica moment (act.Take message) = refl
spelled_alike replica moment (act.Lend to conit amount) = refl
spelled_alike replica moment (act.Back owner conit amount) = refl
spelled_alike replica moment act.Restart = refl

pub spelling-piece_of : (entry : Entry) → spelling (piece_of entry) ≡ piece_bytes entry
spelling-piece_of entry = spelled_alike entry.replica entry.moment entry.act

-- so a piece tells its entry
pub piece_tells : (setup : Setup) (bytes : List ℕ) (entry : Entry)
    → AreBytes bytes
    → IsSetup setup
    → IsEntryInRange setup entry
    → IsPieceOf bytes entry
    → piece_in setup.replicas setup.conits bytes ≡ Some (piece_of entry)
piece_tells setup bytes entry fits good within is =
    spelled_is_told setup bytes (piece_of entry) fits (can_be_told setup entry good within is.spellable) (is.spelled ∙ sym (spelling-piece_of entry))

-- ---- an entry that is due after a part is the one that its piece is there

due_act : (setup : Setup) (replica : ℕ) (part : List Entry) (moment : ℕ) (done : Act)
    → IsActDue setup replica part moment done
    → act_told setup replica part moment (told_of done) ≡ Some done
due_act setup replica part moment (act.Call client number request reply) due = refl
due_act setup replica part moment (act.Send message) due = ap (λ (m : Message). Some (act.Send m)) (sym due)
due_act setup replica part moment (act.Take message) due = refl
due_act setup replica part moment (act.Lend to conit amount) due = refl
due_act setup replica part moment (act.Back owner conit amount) due = refl
due_act setup replica part moment act.Restart due = refl

pub due_entry : (setup : Setup) (part : List Entry) (entry : Entry)
    → IsDue setup part entry
    → entry_told setup part (piece_of entry) ≡ Some entry
due_entry setup part entry due = ap (option_map (entry_with entry.replica entry.moment)) (due_act setup entry.replica part entry.moment entry.act due.act)

pub entry_is_in : (setup : Setup) (part : List Entry) (bytes : List ℕ) (entry : Entry)
    → AreBytes bytes
    → IsSetup setup
    → IsPieceOf bytes entry
    → IsDue setup part entry
    → entry_in setup part bytes ≡ Some entry
entry_is_in setup part bytes entry fits good is due =
    ap (option_and_then (entry_told setup part)) (piece_tells setup bytes entry fits good due.in_range is) ∙ due_entry setup part entry due

-- two such entries with one piece are one
pub one_entry : (setup : Setup) (part : List Entry) (bytes : List ℕ) (a b : Entry)
    → AreBytes bytes
    → IsSetup setup
    → IsPieceOf bytes a
    → IsPieceOf bytes b
    → IsDue setup part a
    → IsDue setup part b
    → a ≡ b
one_entry setup part bytes a b fits good is_a is_b due_a due_b =
    same_Some a b (sym (entry_is_in setup part bytes a fits good is_a due_a) ∙ entry_is_in setup part bytes b fits good is_b due_b)

-- two such entries that are told alike are one
pub told_alike : (setup : Setup) (part : List Entry) (a b : Entry)
    → IsDue setup part a
    → IsDue setup part b
    → piece_of a ≡ piece_of b
    → a ≡ b
told_alike setup part a b due_a due_b e =
    same_Some a b (sym (due_entry setup part a due_a) ∙ ap (entry_told setup part) e ∙ due_entry setup part b due_b)
