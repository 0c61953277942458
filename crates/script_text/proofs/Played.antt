-- What is true of what the lines of a script have made, and how it goes on entry by entry.
use Rattle.std.proofs.Common.{◌≡◌, ◌≢◌, ℕ, ◌<◌, ◌≤◌, ◌==◌, true, false, List, [], ◌∷◌, ◌++◌, length, get_or, set, map, Contains, Option, None, Some, refl, sym, ap, ◌∙◌, subst, ⊎_elim, get_or-set_same, get_or-set_other, arith}
use Rattle.std.specs.List.{slice_get}
use Rattle.std.specs.Option.{option_map, option_map_or}
use Rattle.std.proofs.lemmas.Bool.{cases_eq, eqb-true, false≢true}
use Rattle.std.proofs.lemmas.Option.{slice_get-map, slice_get_within, get_or_from_slice_get}
use Rattle.std.proofs.lemmas.List.{map_push, length-set}
use Rattle.std.proofs.lemmas.List.Elements.{All-contains}
use Rattle.tact_base.specs.declared.limits.TheConstants.{CLIENTS, HISTORY_MAX, STAMP_MAX, MOMENT_MAX}
use Rattle.tact_base.specs.Setup.{Setup, IsSetup}
use Rattle.run_model.specs.Histories.{part_of, last_moment, moment_at, sent_in, calls_in}
use Rattle.run_model.specs.Loans.{home, free}
use Rattle.run_model.specs.Messages.{message_of}
use Rattle.run_model.specs.Ranges.{IsRequestInRange, IsMessageInRange, IsActInRange}
use Rattle.run_model.specs.Replies.{reply_of}
use Rattle.run_model.specs.Runs.{IsActDue, IsDue, IsLawful, IsRun}
use Rattle.run_model.specs.ScriptRuns.{Played}
use Rattle.run_model.specs.declared.call.Request.{Request}
use Rattle.run_model.specs.declared.entry.Act.{Act}
use Rattle.run_model.specs.declared.entry.Act.TheVariants as act
use Rattle.run_model.specs.declared.entry.Entry.{Entry}
use Rattle.run_model.specs.declared.entry.Message.{Message}
use Rattle.run_model.proofs.PrefixLemmas.{EachAfter-push}
use Rattle.run_model.proofs.PartLemmas.{sent_by, part_of-push_same, part_of-push_other, part_of-push_cases, sent_in-push_none, sent_in-push_some, last_moment-push}
use Rattle.run_model.proofs.ClockBound.{clock-run}
use Rattle.run_model.proofs.EntriesInRange.{sent_in_range}
use Rattle.run_model.proofs.Firsts.{message_again}
use Rattle.run_model.proofs.Sound.{IsSoundMessage}
use Rattle.run_model.proofs.SoundRuns.{Sound-run}
use Rattle.run_promises.proofs.DueInRange.{due_message_in_range}
use Rattle.run_promises.proofs.Kept.{IsPart-run}
use Rattle.run_promises.proofs.PartSound.{PartSound, PartSound-part}
use Rattle.script_text.specs.Fronts.{IsNamed}
use Rattle.script_text.specs.Sending.{is_sent}

-- whom a message is for
abbrev pub receiver_of : Message → ℕ
receiver_of message = message.to

-- The history is a run, all moments are within the limit, and its messages go to these receivers, by sender and number.
pub record IsPlayed (setup : Setup) (sent : List (List ℕ)) (played : Played) : Type 0 where
  pub run : IsRun setup played.history
  pub handed : played.handed ≤ MOMENT_MAX
  pub moments : (replica : ℕ) → last_moment (part_of played.history replica) ≤ MOMENT_MAX
  pub size : length sent ≡ setup.replicas
  pub receivers : (from : ℕ)
      → from < setup.replicas
      → map receiver_of (sent_in (part_of played.history from)) ≡ get_or sent from []

-- the entry of a replica, with what it does where it stands
abbrev pub entry_of : Played → ℕ → (List Entry → ℕ → Act) → Entry
entry_of played replica does =
    let part = part_of played.history replica in
    let moment = moment_at part played.handed in
    record { replica = replica; moment = moment; act = does part moment }

abbrev pub with_entry : Played → Entry → Played
with_entry played entry = record { history = played.history ++ entry ∷ []; handed = played.handed }

-- what a replica does in a call, a sending, a taking, a loan, a return and a restart, after a part and at a moment
abbrev pub calling : Setup → ℕ → ℕ → Request → List Entry → ℕ → Act
calling setup replica client request part moment =
    act.Call client (calls_in part client) request (reply_of setup replica part moment request)

abbrev pub sending : Setup → ℕ → ℕ → List ℕ → List Entry → ℕ → Act
sending setup replica to given part moment = act.Send (message_of setup replica part moment to given)

abbrev pub taking : Message → List Entry → ℕ → Act
taking message part moment = act.Take message

abbrev pub lending : ℕ → ℕ → ℕ → List Entry → ℕ → Act
lending to conit amount part moment = act.Lend to conit amount

abbrev pub returning : ℕ → ℕ → ℕ → List Entry → ℕ → Act
returning owner conit amount part moment = act.Back owner conit amount

abbrev pub restarting : List Entry → ℕ → Act
restarting part moment = act.Restart

-- What lines have made, and a replica that goes on.
module _ (setup : Setup) (good : IsSetup setup) (sent : List (List ℕ)) (played : Played) (is : IsPlayed setup sent played) (few : length played.history < STAMP_MAX)
    (replica : ℕ) (replica_in : replica < setup.replicas) (room : length (part_of played.history replica) < HISTORY_MAX) where
  abbrev part : List Entry
  part = part_of played.history replica

  moment_in : moment_at part played.handed ≤ MOMENT_MAX
  moment_in = omega (arith, is.handed, is.moments replica)

  sound : PartSound setup replica part
  sound = PartSound-part setup replica part (IsPart-run setup played.history is.run replica)

  -- an entry whose act is in range and due is due
  due : (does : List Entry → ℕ → Act)
      → IsActInRange setup replica (does part (moment_at part played.handed))
      → IsActDue setup replica part (moment_at part played.handed) (does part (moment_at part played.handed))
      → IsDue setup part (entry_of played replica does)
  due does in_range act_due = record {
    room = room;
    moment = omega arith;
    clock_below = omega (arith, clock-run setup played.history is.run replica, few);
    in_range = record { replica = replica_in; moment = moment_in; act = in_range };
    act = act_due;
  }

  pub call_is_lawful : (client : ℕ) (request : Request)
      → client < CLIENTS
      → IsRequestInRange setup request
      → IsLawful setup played.history (entry_of played replica (calling setup replica client request))
  call_is_lawful client request client_in request_in = record {
    due = due (calling setup replica client request) (client_in, request_in) (refl, refl);
    sent = tt;
  }

  pub send_is_lawful : (to : ℕ) (given : List ℕ)
      → to < setup.replicas
      → to ≢ replica
      → IsLawful setup played.history (entry_of played replica (sending setup replica to given))
  send_is_lawful to given to_in other = record {
    due = due (sending setup replica to given)
        (due_message_in_range setup good replica part sound replica_in room (moment_at part played.handed) moment_in to to_in (λ same. other (sym same)) given, refl)
        (message_again setup replica part to given (moment_at part played.handed));
    sent = tt;
  }

  pub take_is_lawful : (message : Message)
      → IsMessageInRange setup message
      → message.to ≡ replica
      → Contains (sent_in (part_of played.history message.from)) message
      → IsLawful setup played.history (entry_of played replica (taking message))
  take_is_lawful message in_range to was_sent = record {
    due = due (taking message) (in_range, to) to;
    sent = was_sent;
  }

  pub loan_is_lawful : (to conit amount : ℕ)
      → IsActInRange setup replica (act.Lend to conit amount)
      → amount ≤ home setup replica part conit
      → IsLawful setup played.history (entry_of played replica (lending to conit amount))
  loan_is_lawful to conit amount in_range within = record {
    due = due (lending to conit amount) in_range within;
    sent = tt;
  }

  pub return_is_lawful : (owner conit amount : ℕ)
      → IsActInRange setup replica (act.Back owner conit amount)
      → amount ≤ free setup replica part owner conit
      → IsLawful setup played.history (entry_of played replica (returning owner conit amount))
  return_is_lawful owner conit amount in_range within = record {
    due = due (returning owner conit amount) in_range within;
    sent = tt;
  }

  pub restart_is_lawful : IsLawful setup played.history (entry_of played replica restarting)
  restart_is_lawful = record { due = due restarting tt tt; sent = tt }

  -- after a lawful entry that sends nothing, and after one that sends
  moments_after : (does : List Entry → ℕ → Act)
      → (other : ℕ)
      → last_moment (part_of (played.history ++ entry_of played replica does ∷ []) other) ≤ MOMENT_MAX
  moments_after does =
      part_of-push_cases played.history (entry_of played replica does) (λ other part. last_moment part ≤ MOMENT_MAX)
      (omega (arith, last_moment-push part (entry_of played replica does), moment_in)) is.moments

  pub played_quiet : (does : List Entry → ℕ → Act)
      → sent_by (entry_of played replica does) ≡ None
      → IsLawful setup played.history (entry_of played replica does)
      → IsPlayed setup sent (with_entry played (entry_of played replica does))
  played_quiet does none lawful = record {
    run = EachAfter-push (IsLawful setup) played.history (entry_of played replica does) is.run lawful;
    handed = is.handed;
    moments = moments_after does;
    size = is.size;
    receivers =
        part_of-push_cases played.history (entry_of played replica does) (λ other part. other < setup.replicas → map receiver_of (sent_in part) ≡ get_or sent other [])
        (λ within. ap (map receiver_of) (sent_in-push_none part (entry_of played replica does) none) ∙ is.receivers replica within)
        is.receivers;
  }

  -- A lawful entry sends a message.
  module _ (does : List Entry → ℕ → Act) (message : Message) (some : sent_by (entry_of played replica does) ≡ Some message) (lawful : IsLawful setup played.history (entry_of played replica does)) where
    abbrev entry : Entry
    entry = entry_of played replica does

    abbrev further : List Entry
    further = played.history ++ entry ∷ []

    abbrev tos : List ℕ
    tos = get_or sent replica [] ++ message.to ∷ []

    here : map receiver_of (sent_in (part_of further replica)) ≡ get_or (set sent replica tos) replica []
    here =
        ap (λ part. map receiver_of (sent_in part)) (part_of-push_same played.history entry replica refl)
        ∙ ap (map receiver_of) (sent_in-push_some part entry message some)
        ∙ map_push receiver_of (sent_in part) message
        ∙ ap (λ (before : List ℕ). before ++ message.to ∷ []) (is.receivers replica replica_in)
        ∙ sym (get_or-set_same sent replica tos [] (omega (arith, is.size, replica_in)))

    there : (other : ℕ)
        → other < setup.replicas
        → (replica ≡ other → ⊥)
        → map receiver_of (sent_in (part_of further other)) ≡ get_or (set sent replica tos) other []
    there other within differ =
        ap (λ part. map receiver_of (sent_in part)) (part_of-push_other played.history entry other differ)
        ∙ is.receivers other within
        ∙ sym (get_or-set_other sent replica other tos [] (λ same. differ (sym same)))

    pub played_sent : IsPlayed setup (set sent replica tos) (with_entry played entry)
    played_sent = record {
      run = EachAfter-push (IsLawful setup) played.history entry is.run lawful;
      handed = is.handed;
      moments = moments_after does;
      size = length-set sent replica tos ∙ is.size;
      receivers = λ other within. ⊎_elim
          (λ (same : replica ≡ other). subst (λ r. map receiver_of (sent_in (part_of further r)) ≡ get_or (set sent replica tos) r []) same here)
          (λ (differ : replica ≡ other → ⊥). there other within differ)
          (cases_eq replica other);
    }

-- The message that a `take` names was sent to its replica by the one that it names.
module _ (setup : Setup) (sent : List (List ℕ)) (played : Played) (is : IsPlayed setup sent played) (replica from number : ℕ) (from_in : from < setup.replicas) where
  abbrev list : List Message
  list = sent_in (part_of played.history from)

  named_is : (message : Message)
      → slice_get list number ≡ Some message
      → message.to ≡ replica
      → IsNamed setup played.history replica from number message
  named_is message found to =
      let contains : Contains list message = (number, slice_get_within list number message found, get_or_from_slice_get list number message message found) in
      let sender : message.from ≡ from = (All-contains (IsSoundMessage played.history from) list message ((Sound-run setup played.history is.run).sent from) contains).from in
      record {
        found = found;
        receiver = to;
        sender = sender;
        in_range = All-contains (IsMessageInRange setup) list message (sent_in_range setup played.history is.run from) contains;
        was_sent = subst (λ f. Contains (sent_in (part_of played.history f)) message) (sym sender) contains;
      }

  pub named_message : is_sent sent from number replica ≡ true
      → (message : Message) × IsNamed setup played.history replica from number message
  named_message addressed = go (slice_get list number) refl there
    where
      there : option_map_or (λ receiver. receiver == replica) (option_map receiver_of (slice_get list number)) false ≡ true
      there =
          ap (λ (found : Option ℕ). option_map_or (λ receiver. receiver == replica) found false)
          (sym (slice_get-map receiver_of list number) ∙ ap (λ (tos : List ℕ). slice_get tos number) (is.receivers from from_in))
          ∙ addressed

      go : (found : Option Message)
          → slice_get list number ≡ found
          → option_map_or (λ receiver. receiver == replica) (option_map receiver_of found) false ≡ true
          → (message : Message) × IsNamed setup played.history replica from number message
      go None none agrees = absurd (false≢true agrees)
      go (Some message) some agrees = (message, named_is message some (eqb-true message.to replica agrees))
