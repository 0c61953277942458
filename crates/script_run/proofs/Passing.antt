-- The message that was sent last is there for whom it was sent to.
use Rattle.std.proofs.Common.{◌≡◌, ℕ, List, [], ◌∷◌, ◌++◌, length, Contains, refl, sym, ap, ap₂, ◌∙◌, subst}
use Rattle.std.specs.List.{slice_get}
use Rattle.std.proofs.lemmas.List.Elements.{All-contains}
use Rattle.run_model.specs.Histories.{part_of, moment_at, sent_in}
use Rattle.run_model.specs.Messages.{message_of}
use Rattle.run_model.specs.Ranges.{IsMessageInRange}
use Rattle.run_model.specs.ScriptRuns.{Played, sends}
use Rattle.run_model.specs.declared.entry.Act.TheVariants as act
use Rattle.run_model.specs.declared.entry.Entry.{Entry}
use Rattle.run_model.specs.declared.entry.Message.{Message}
use Rattle.run_model.proofs.EntriesInRange.{sent_in_range}
use Rattle.run_model.proofs.PartLemmas.{part_of-push_same, sent_in-push_some}
use Rattle.script_text.specs.Fronts.{IsNamed}
use Rattle.script_run.specs.Stages.{Enters, setup_in, played_in}
use Rattle.script_run.specs.declared.stage.Stage.{Stage}
use Rattle.script_run.proofs.Outboxes.{last_is, last_in}

pub sent_is_named : (old mid : Stage) (from to number : ℕ) (given out out' : List ℕ)
    → Enters old mid (sends (setup_in old) (played_in old) from to given) out out'
    → number ≡ length (sent_in (part_of old.history.items from))
    → (message : Message) × IsNamed (setup_in mid) mid.history.items to from number message
sent_is_named old mid from to number given out out' enters number_is =
    let part = part_of old.history.items from in
    let at = moment_at part old.handed in
    let message : Message = message_of (setup_in old) from part at to given in
    let entry : Entry = record { replica = from; moment = at; act = act.Send message } in
    let entries : mid.history.items ≡ old.history.items ++ entry ∷ [] = ap (λ (p : Played). p.history) enters.goes.played in
    let all : sent_in (part_of mid.history.items from) ≡ sent_in part ++ message ∷ [] =
    ap (λ (h : List Entry). sent_in (part_of h from)) entries
    ∙ ap sent_in (part_of-push_same old.history.items entry from refl)
    ∙ sent_in-push_some part entry message refl in
    let contains : Contains (sent_in (part_of mid.history.items from)) message = subst (λ (ms : List Message). Contains ms message) (sym all) (last_in (sent_in part) message) in (
      message,
      record {
        found = ap₂ (λ (ms : List Message) (n : ℕ). slice_get ms n) all number_is ∙ last_is (sent_in part) message;
        receiver = refl;
        sender = refl;
        in_range = All-contains (IsMessageInRange (setup_in mid)) (sent_in (part_of mid.history.items from)) message (sent_in_range (setup_in mid) mid.history.items enters.goes.keeps.run from) contains;
        was_sent = contains;
      },
    )
