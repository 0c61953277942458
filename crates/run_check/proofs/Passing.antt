-- An entry that passes is lawful, and the replicas follow the run with it.
use Rattle.std.proofs.Common.{◌≡◌, ℕ, ◌<◌, List, [], ◌∷◌, ◌++◌, length, get_or, Some, refl, sym, ap, ap₂, ◌∙◌, subst, ⊎_elim, arith}
use Rattle.std.specs.Prelude.{slice_set}
use Rattle.std.specs.Option.{option_map}
use Rattle.std.proofs.lemmas.Bool.{cases_eq}
use Rattle.std.proofs.lemmas.List.{length-set, get_or-set_same, get_or-set_other}
use Rattle.tact_base.specs.Setup.{Setup, IsSetup}
use Rattle.run_model.specs.Histories.{part_of, moment_at, sent_in, calls_in}
use Rattle.run_model.specs.Messages.{message_of}
use Rattle.run_model.specs.Runs.{IsDue, IsLawful, IsRun, MayFollow, WasSent}
use Rattle.run_model.specs.declared.call.Reply.{Reply}
use Rattle.run_model.specs.declared.call.Request.{Request}
use Rattle.run_model.specs.declared.entry.Act.{Act}
use Rattle.run_model.specs.declared.entry.Act.TheVariants as act
use Rattle.run_model.specs.declared.entry.Entry.{Entry}
use Rattle.run_model.specs.declared.entry.Message.{Message}
use Rattle.run_model.proofs.PartLemmas.{part_of-push_same, part_of-push_other, sent_in-push_some}
use Rattle.run_model.proofs.PrefixLemmas.{EachAfter-last, EachAfter-push}
use Rattle.run_record.specs.Records.{short_act_of}
use Rattle.run_record.specs.declared.short.ShortAct.{ShortAct}
use Rattle.run_record.specs.declared.short.ShortAct.TheVariants as told
use Rattle.replica_core.specs.States.{Core}
use Rattle.replica_core.specs.Stands.{Stands}
use Rattle.replica_set.specs.Sets.{SetState, IsAt, StandsFor, with_act}
use Rattle.run_check.specs.declared.refusal.At.{At}
use Rattle.run_check.specs.Expanded.{message_sent, whole_act, entry_with, with_short}
use Rattle.run_check.specs.Checking.{Follow, AreSent, IsInTime, HasPassed, short_at}
use Rattle.run_check.proofs.AtReplica.{item_at, sender_is, number_is, message_was_sent}
use Rattle.run_check.proofs.WholeEntries.{with_whole}

-- A replica goes on.
module _ (history : List Entry) (set : SetState) (follow : Follow history set) (at : At) (within : at.replica < set.setup.replicas) (in_time : IsInTime history at)
    (new : SetState) (same : new.setup ≡ set.setup) where
  abbrev part : List Entry
  part = part_of history at.replica

  pub moment_is : moment_at part at.moment ≡ at.moment
  moment_is = omega (arith, in_time.moment)

  -- With an act, for which the replicas stand then.
  module _ (done : Act) (stands : StandsFor (with_act history at.replica at.moment done) new) where
    abbrev entry : Entry
    entry = entry_with at.replica at.moment done

    stands_then : StandsFor (history ++ entry ∷ []) new
    stands_then = subst (λ m. StandsFor (history ++ entry_with at.replica m done ∷ []) new) moment_is stands

    there : (core : Core) × IsAt new at.replica core
    there = item_at new.cores at.replica (omega (arith, within, ap (λ (s : Setup). s.replicas) same, stands_then.is_set.sized))

    its : Stands (part ++ entry ∷ []) there.0
    its = subst (λ p. Stands p there.0) (part_of-push_same history entry at.replica refl) (stands_then.parts at.replica there.0 there.1)

    due : IsDue set.setup part entry
    due =
        let follows = EachAfter-last (MayFollow there.0.setup there.0.replica) part entry its.is_part in
        subst (λ s. IsDue s part entry) ((stands_then.is_set.each at.replica there.0 there.1).setup ∙ same) follows.1

    pub passes : (short : ShortAct)
        → WasSent history done
        → whole_act set.setup history at.replica at.moment short ≡ Some done
        → short_act_of done ≡ short
        → HasPassed set.setup history (short_at at short) new
    passes short sent whole is =
        let lawful : IsLawful set.setup history entry = record { due = due; sent = sent } in
        let whole_is = ap (option_map (entry_with at.replica at.moment)) whole in
        let onward = with_whole set.setup history (short_at at short) entry whole_is in
        record {
          lawful = record {
            entry = entry;
            whole = whole_is;
            lawful = lawful;
            told = ap (short_at at) is;
          };
          follow = record {
            good = subst IsSetup (sym same) follow.good;
            run = subst (λ s. IsRun s (with_short set.setup history (short_at at short))) (sym same)
                (subst (IsRun set.setup) (sym onward) (EachAfter-push (IsLawful set.setup) history entry follow.run lawful));
            stands = subst (λ h. StandsFor h new) (sym onward) stands_then;
          };
          setup_same = same;
        }

  pub call_passes : (client number : ℕ) (asked : Request) (given due : Reply)
      → number ≡ calls_in part client
      → given ≡ due
      → StandsFor (with_act history at.replica at.moment (act.Call client (calls_in part client) asked due)) new
      → HasPassed set.setup history (short_at at (told.Call client number asked given)) new
  call_passes client number asked given due next is stands =
      passes (act.Call client (calls_in part client) asked due) stands (told.Call client number asked given) tt
      (ap₂ (λ (n : ℕ) (r : Reply). Some (act.Call client n asked r)) next is)
      (ap₂ (λ (n : ℕ) (r : Reply). told.Call client n asked r) (sym next) (sym is))

  pub send_passes : (to number : ℕ) (firsts : List ℕ) (message : Message)
      → number ≡ length (sent_in part)
      → firsts ≡ message.firsts
      → message ≡ message_of set.setup at.replica part (moment_at part at.moment) to firsts
      → StandsFor (with_act history at.replica at.moment (act.Send message)) new
      → HasPassed set.setup history (short_at at (told.Send to number firsts)) new
  send_passes to number firsts message next firsts_are is stands =
      let due : message ≡ message_of set.setup at.replica part at.moment to firsts =
      is ∙ ap (λ (m : ℕ). message_of set.setup at.replica part m to firsts) moment_is in
      passes (act.Send message) stands (told.Send to number firsts) tt (ap (λ (m : Message). Some (act.Send m)) (sym due))
      (three (ap (λ (m : Message). m.to) due) (ap (λ (m : Message). m.number) due ∙ sym next) (sym firsts_are))
    where
      three : message.to ≡ to
          → message.number ≡ number
          → message.firsts ≡ firsts
          → told.Send message.to message.number message.firsts ≡ told.Send to number firsts
      three one two last = cc

  pub take_passes : (from number : ℕ) (message : Message)
      → message_sent history from number ≡ Some message
      → StandsFor (with_act history at.replica at.moment (act.Take message)) new
      → HasPassed set.setup history (short_at at (told.Take from number)) new
  take_passes from number message found stands =
      passes (act.Take message) stands (told.Take from number) (message_was_sent history set follow from number message found)
      (ap (option_map act.Take) found)
      (ap₂ (λ (f n : ℕ). told.Take f n) (sender_is history set follow from number message found) (number_is history set follow from number message found))

  pub lend_passes : (to conit amount : ℕ)
      → StandsFor (with_act history at.replica at.moment (act.Lend to conit amount)) new
      → HasPassed set.setup history (short_at at (told.Lend to conit amount)) new
  lend_passes to conit amount stands = passes (act.Lend to conit amount) stands (told.Lend to conit amount) tt refl refl

  pub back_passes : (owner conit amount : ℕ)
      → StandsFor (with_act history at.replica at.moment (act.Back owner conit amount)) new
      → HasPassed set.setup history (short_at at (told.Back owner conit amount)) new
  back_passes owner conit amount stands = passes (act.Back owner conit amount) stands (told.Back owner conit amount) tt refl refl

  pub restart_passes : StandsFor (with_act history at.replica at.moment act.Restart) new
      → HasPassed set.setup history (short_at at told.Restart) new
  restart_passes stands = passes act.Restart stands told.Restart tt refl refl

  -- a message that was sent is one more
  pub send_is_kept : (to number : ℕ) (firsts : List ℕ) (message : Message) (messages : List Message)
      → message ≡ message_of set.setup at.replica part (moment_at part at.moment) to firsts
      → messages ≡ sent_in part
      → messages ++ message ∷ [] ≡ sent_in (part_of (with_short set.setup history (short_at at (told.Send to number firsts))) at.replica)
  send_is_kept to number firsts message messages is kept =
      let due = message_of set.setup at.replica part at.moment to firsts in
      let entry = entry_with at.replica at.moment (act.Send due) in
      let message_is : message ≡ due = is ∙ ap (λ (m : ℕ). message_of set.setup at.replica part m to firsts) moment_is in
      ap₂ (λ (ms : List Message) (m : Message). ms ++ m ∷ []) kept message_is
      ∙ sym (sent_in-push_some part entry due refl)
      ∙ sym (ap sent_in (part_of-push_same history entry at.replica refl))

  -- each replica then sent what it sent before, and this one the message too
  pub sent_with : (to number : ℕ) (firsts : List ℕ) (message : Message) (sent : List (List Message))
      → message ≡ message_of set.setup at.replica part (moment_at part at.moment) to firsts
      → AreSent set.setup.replicas history sent
      → AreSent set.setup.replicas (with_short set.setup history (short_at at (told.Send to number firsts))) (slice_set sent at.replica (get_or sent at.replica [] ++ message ∷ []))
  sent_with to number firsts message sent is are =
      let after = with_short set.setup history (short_at at (told.Send to number firsts)) in
      let entry = entry_with at.replica at.moment (act.Send (message_of set.setup at.replica part at.moment to firsts)) in
      let messages : List Message = get_or sent at.replica [] ++ message ∷ [] in
      let inside : at.replica < length sent = omega (arith, within, are.sized) in
      let here : messages ≡ sent_in (part_of after at.replica) =
      send_is_kept to number firsts message (get_or sent at.replica []) is (are.each at.replica within) in
      record {
        sized = length-set sent at.replica messages ∙ are.sized;
        each = λ replica below. ⊎_elim
            (λ (same : at.replica ≡ replica).
            subst (λ (r : ℕ). get_or (slice_set sent at.replica messages) r [] ≡ sent_in (part_of after r)) same
            (get_or-set_same sent at.replica messages [] inside ∙ here))
            (λ (other : at.replica ≡ replica → ⊥).
            get_or-set_other sent at.replica replica messages [] (λ same. other (sym same))
            ∙ are.each replica below
            ∙ sym (ap sent_in (part_of-push_other history entry replica other)))
            (cases_eq at.replica replica);
      }
