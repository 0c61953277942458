-- The message of a number, and the entry that sends it.
use Rattle.std.proofs.Common.{◌≡◌, ℕ, ◌<◌, ◌==◌, List, [], ◌∷◌, length, get_or, map, Contains, Option, None, Some, refl, sym, ap, ◌∙◌, subst, arith}
use Rattle.std.specs.List.{slice_get}
use Rattle.std.specs.Option.{option_and_then}
use Rattle.std.proofs.lemmas.Bool.{eq-eqb}
use Rattle.std.proofs.lemmas.List.{get_or-map, length-map}
use Rattle.std.proofs.lemmas.List.Elements.{All-contains}
use Rattle.std.proofs.lemmas.Option.{get_or_from_slice_get, same_Some, slice_get-get_or, slice_get_within}
use Rattle.tact_base.proofs.ElementLemmas.{Contains-filter}
use Rattle.tact_base.specs.Setup.{Setup}
use Rattle.run_model.specs.Histories.{part_of, sent_by_act, sent_in}
use Rattle.run_model.specs.Ranges.{IsMessageInRange}
use Rattle.run_model.specs.Runs.{IsRun}
use Rattle.run_model.specs.declared.entry.Act.{Act}
use Rattle.run_model.specs.declared.entry.Act.TheVariants as act
use Rattle.run_model.specs.declared.entry.Entry.{Entry}
use Rattle.run_model.specs.declared.entry.Message.{Message}
use Rattle.run_model.proofs.EntriesInRange.{sent_in_range}
use Rattle.run_model.proofs.Sound.{IsSoundMessage}
use Rattle.run_model.proofs.SoundRuns.{Sound-run}
use Rattle.replica_network.specs.Keeping.{message_at}
use Rattle.replica_network.proofs.FilteredMaps.{Contains-filter_map}

-- a message of a number, and the place of the entry that sends it
pub record IsSentOne (history : List Entry) (sends : List ℕ) (number : ℕ) (message : Message) : Type 0 where
  pub named : slice_get (sent_in history) number ≡ Some message
  pub there : message_at history (get_or sends number 0) ≡ Some message

sent_one_of : (history : List Entry) (sends : List ℕ) (messages : List Message) (number : ℕ) (default : Message)
    → map (message_at history) sends ≡ map Some messages
    → messages ≡ sent_in history
    → number < length messages
    → IsSentOne history sends number (get_or messages number default)
sent_one_of history sends messages number default are is below =
    let inside : number < length sends = omega (arith, below, ap length are, length-map sends (message_at history), length-map messages Some) in
    record {
      named = ap (λ (ms : List Message). slice_get ms number) (sym is) ∙ slice_get-get_or messages number default below;
      there =
          sym (get_or-map (message_at history) sends number 0 None inside)
          ∙ ap (λ (os : List (Option Message)). get_or os number None) are
          ∙ get_or-map Some messages number default None below;
    }

pub sent_one : (history : List Entry) (sends : List ℕ) (number : ℕ)
    → map (message_at history) sends ≡ map Some (sent_in history)
    → number < length (sent_in history)
    → (message : Message) × IsSentOne history sends number message
sent_one history sends number are below = go (sent_in history) refl
  where
    go : (messages : List Message) → messages ≡ sent_in history → (message : Message) × IsSentOne history sends number message
    go [] is = absurd (omega (arith, below, ap length is))
    go (first ∷ rest) is = (
      get_or (first ∷ rest) number first,
      sent_one_of history sends (first ∷ rest) number first (are ∙ ap (map Some) (sym is)) is (omega (arith, below, ap length is)),
    )

-- an act that sends a message
act_sends : (done : Act) (message : Message) → sent_by_act done ≡ Some message → done ≡ act.Send message
act_sends (act.Call client number asked given) message is = cc
act_sends (act.Send sent) message is = ap act.Send (same_Some sent message is)
act_sends (act.Take sent) message is = cc
act_sends (act.Lend to conit amount) message is = cc
act_sends (act.Back owner conit amount) message is = cc
act_sends act.Restart message is = cc

-- the entry there sends it
pub record IsSender (history : List Entry) (place : ℕ) (message : Message) : Type 0 where
  pub within : place < length history
  pub sends : (d : Entry) → (get_or history place d).act ≡ act.Send message
  pub entry : Entry
  pub among : Contains history entry
  pub sent : sent_by_act entry.act ≡ Some message

pub sender_at : (history : List Entry) (place : ℕ) (message : Message)
    → message_at history place ≡ Some message
    → IsSender history place message
sender_at history place message is = go (slice_get history place) refl is
  where
    go : (there : Option Entry)
        → slice_get history place ≡ there
        → option_and_then (λ (e : Entry). sent_by_act e.act) there ≡ Some message
        → IsSender history place message
    go None none is = cc
    go (Some entry) some is = record {
      within = slice_get_within history place entry some;
      sends = λ d. ap (λ (e : Entry). e.act) (get_or_from_slice_get history place entry d some) ∙ act_sends entry.act message is;
      entry = entry;
      among = (place, slice_get_within history place entry some, get_or_from_slice_get history place entry entry some);
      sent = is;
    }

-- The message of a number was sent by the replica that it tells, and is in range.
module _ (setup : Setup) (history : List Entry) (run : IsRun setup history) (sends : List ℕ) (are : map (message_at history) sends ≡ map Some (sent_in history))
    (number : ℕ) (message : Message) (named : slice_get (sent_in history) number ≡ Some message) where
  sender : (place : ℕ) × IsSender history place message
  sender =
      let one = sent_one history sends number are (slice_get_within (sent_in history) number message named) in
      let there = one.1.there ∙ sym one.1.named ∙ named in
      (get_or sends number 0, sender_at history (get_or sends number 0) message there)

  sent_there : Contains (sent_in (part_of history sender.1.entry.replica)) message
  sent_there =
      let replica = sender.1.entry.replica in
      Contains-filter_map (λ (e : Entry). sent_by_act e.act) (part_of history replica) sender.1.entry message
      (Contains-filter (λ (e : Entry). e.replica == replica) history sender.1.entry sender.1.among (eq-eqb replica replica refl)) sender.1.sent

  from_is : message.from ≡ sender.1.entry.replica
  from_is = (All-contains (IsSoundMessage history sender.1.entry.replica) (sent_in (part_of history sender.1.entry.replica)) message
      ((Sound-run setup history run).sent sender.1.entry.replica) sent_there).from

  pub named_was_sent : Contains (sent_in (part_of history message.from)) message
  named_was_sent = subst (λ r. Contains (sent_in (part_of history r)) message) (sym from_is) sent_there

  pub named_in_range : IsMessageInRange setup message
  named_in_range =
      All-contains (IsMessageInRange setup) (sent_in (part_of history sender.1.entry.replica)) message (sent_in_range setup history run sender.1.entry.replica) sent_there
