-- The taking of a message that was sent, which is dated in its place.
use Rattle.std.proofs.Common.{◌≡◌, ℕ, ◌<◌, List, [], length, get_or, set, Some, sym, ap, ◌∙◌, subst, arith}
use Rattle.std.specs.List.{slice_get}
use Rattle.std.proofs.lemmas.Option.{slice_get-get_or}
use Rattle.tact_base.specs.Setup.{Setup}
use Rattle.run_model.specs.Histories.{part_of, sent_in}
use Rattle.run_model.specs.declared.entry.Act.{Act}
use Rattle.run_model.specs.declared.entry.Act.TheVariants as act
use Rattle.run_model.specs.declared.entry.Entry.{Entry}
use Rattle.run_model.specs.declared.entry.Message.{Message}
use Rattle.script_text.specs.Fronts.{IsNamed}
use Rattle.script_run.specs.Stages.{AreSent}
use Rattle.script_run.proofs.Outboxes.{is_within, taking_of, as_many_boxes, as_many_takings, still_sent, is_dated}

-- all messages that are sent are still at hand
pub record Dated (setup : Setup) (history : List Entry) (before after : List (List Entry)) (from number : ℕ) (entry : Entry) : Type 0 where
  pub sized : length after ≡ length before
  pub sent : AreSent setup history after
  pub within : number < length (get_or after from [])
  pub only : (found : Entry) → slice_get (get_or after from []) number ≡ Some found → found ≡ entry

pub is_dated_taking : (setup : Setup) (history : List Entry) (before after : List (List Entry)) (replica from number moment : ℕ) (message : Message)
    → from < setup.replicas
    → length before ≡ setup.replicas
    → AreSent setup history before
    → IsNamed setup history replica from number message
    → ((taking : Entry) → slice_get (get_or before from []) number ≡ Some taking
    → after ≡ set before from (set (get_or before from []) number (record taking { replica = replica; moment = moment })))
    → Dated setup history before after from number (record { replica = replica; moment = moment; act = act.Take message })
is_dated_taking setup history before after replica from number moment message known sized are named dates =
    subst (λ (sent : List (List Entry)). Dated setup history before sent from number entry) (sym (dates taking there)) (record {
      sized = as_many_boxes before from number replica moment taking inside there;
      sent = still_sent before from number replica moment taking inside there setup history are;
      within = omega (arith, within, as_many_takings before from number replica moment taking inside there);
      only = λ found found_is.
          is_dated before from number replica moment taking inside there found found_is
          ∙ ap (λ (a : Act). let e : Entry = record { replica = replica; moment = moment; act = a } in e) (taking_of box messages number message (are from known) named.found taking there);
    })
  where
    entry : Entry
    entry = record { replica = replica; moment = moment; act = act.Take message }

    box : List Entry
    box = get_or before from []

    messages : List Message
    messages = sent_in (part_of history from)

    inside : from < length before
    inside = omega (arith, known, sized)

    within : number < length box
    within = is_within box messages number message (are from known) named.found

    none : Entry
    none = entry

    taking : Entry
    taking = get_or box number none

    there : slice_get box number ≡ Some taking
    there = slice_get-get_or box number none within

-- one act takes one message
pub same_taken : {one other : Message} → act.Take one ≡ act.Take other → one ≡ other
same_taken same = cc
