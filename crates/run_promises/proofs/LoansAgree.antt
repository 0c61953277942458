-- In a run nobody knows of more that was lent or returned than there was.
use Rattle.std.proofs.Common.{◌≡◌, ℕ, ◌<◌, ◌≤◌, List, [], ◌∷◌, ◌++◌, map, All, Option, None, Some, slice_index, refl, sym, subst, ⊎_elim, le_trans, arith}
use Rattle.std.specs.List.{range_with_len}
use Rattle.std.proofs.lemmas.Bool.{cases_lt}
use Rattle.std.proofs.lemmas.List.Elements.{All-nil, All-push, All-weaker, All-contains}
use Rattle.std.proofs.lemmas.Option.{same_Some}
use Rattle.tact_base.proofs.ListLemmas.{get_or-map_range, get_or-map_range_past}
use Rattle.tact_base.specs.Setup.{Setup}
use Rattle.run_model.specs.Histories.{part_of, sent_in, taken_by_act}
use Rattle.run_model.specs.Loans.{lent, returned, lent_known, returned_known}
use Rattle.run_model.specs.Messages.{message_of}
use Rattle.run_model.specs.Runs.{IsActDue, IsLawful, IsRun}
use Rattle.run_model.specs.declared.entry.Act.{Act}
use Rattle.run_model.specs.declared.entry.Act.TheVariants as act
use Rattle.run_model.specs.declared.entry.Entry.{Entry}
use Rattle.run_model.specs.declared.entry.Message.{Message}
use Rattle.run_model.proofs.PartLemmas.{sent_by, taken_by, sent_in-push_none, sent_in-push_some, part_of-push_cases}
use Rattle.run_model.proofs.SoundStep.{sent_is, taken_was_sent}
use Rattle.run_model.proofs.RunInduction.{over_runs}
use Rattle.run_promises.proofs.LoanSteps.{most_told, most_told-within, lent-rises, returned-rises}

-- a message that a replica sent tells no more than it lent and returned
pub record TellsOfLoans (setup : Setup) (history : List Entry) (sender : ℕ) (message : Message) : Type 0 where
  pub lent : (conit : ℕ)
      → slice_index message.lent conit ≤ lent setup sender (part_of history sender) message.to conit
  pub returned : (conit : ℕ)
      → slice_index message.returned conit ≤ returned (part_of history sender) message.to conit

pub record LoansAgree (setup : Setup) (history : List Entry) : Type 0 where
  -- a holder knows of no more than was lent, an owner of no more than was returned
  pub lent : (holder owner conit : ℕ)
      → lent_known setup holder (part_of history holder) owner conit ≤ lent setup owner (part_of history owner) holder conit
  pub returned : (owner holder conit : ℕ)
      → returned_known (part_of history owner) holder conit ≤ returned (part_of history holder) owner conit
  -- and no message tells more
  pub sent : (replica : ℕ)
      → All (TellsOfLoans setup history replica) (sent_in (part_of history replica))

-- a taken message is addressed to the replica
pub taken_is_addressed : (setup : Setup) (replica : ℕ) (part : List Entry) (at : ℕ) (done : Act) (message : Message)
    → IsActDue setup replica part at done
    → taken_by_act done ≡ Some message
    → message.to ≡ replica
taken_is_addressed setup replica part at (act.Take taken) message due some = subst (λ (m : Message). m.to ≡ replica) (same_Some taken message some) due
taken_is_addressed setup replica part at (act.Call client number asked given) message due some = cc
taken_is_addressed setup replica part at (act.Send sent) message due some = cc
taken_is_addressed setup replica part at (act.Lend to conit amount) message due some = cc
taken_is_addressed setup replica part at (act.Back owner conit amount) message due some = cc
taken_is_addressed setup replica part at act.Restart message due some = cc

-- what a list of numbers by conit has, within the conits and past them
reads-le : (f : ℕ → ℕ) (conits conit : ℕ)
    → slice_index (map f (range_with_len 0 conits)) conit ≤ f conit
reads-le f conits conit = ⊎_elim
    (λ (within : conit < conits). omega (arith, get_or-map_range f conits conit 0 within))
    (λ (past : conits ≤ conit). omega (arith, get_or-map_range_past f conits conit 0 past))
    (cases_lt conit conits)

module _ (setup : Setup) (history : List Entry) (entry : Entry) (agree : LoansAgree setup history) (lawful : IsLawful setup history entry) where
  abbrev part : List Entry
  part = part_of history entry.replica

  abbrev further : List Entry
  further = history ++ entry ∷ []

  -- the message that is taken, as its sender sent it
  taken_tells : (message : Message)
      → taken_by entry ≡ Some message
      → TellsOfLoans setup history message.from message
  taken_tells message some =
      All-contains (TellsOfLoans setup history message.from) (sent_in (part_of history message.from)) message (agree.sent message.from)
      (taken_was_sent history entry.act message lawful.sent some)

  addressed : (message : Message) → taken_by entry ≡ Some message → message.to ≡ entry.replica
  addressed message some = taken_is_addressed setup entry.replica part entry.moment entry.act message lawful.due.act some

  lent_step : (holder owner conit : ℕ)
      → lent_known setup holder (part_of further holder) owner conit ≤ lent setup owner (part_of further owner) holder conit
  lent_step holder owner conit =
      part_of-push_cases history entry (λ r after. lent_known setup r after owner conit ≤ lent setup owner (part_of further owner) r conit)
      here (λ r. le_trans (agree.lent r owner conit) (lent-rises history entry setup owner r conit)) holder
    where
      here : lent_known setup entry.replica (part ++ entry ∷ []) owner conit ≤ lent setup owner (part_of further owner) entry.replica conit
      here =
          let most = lent setup owner (part_of further owner) entry.replica conit in
          let tells = λ (m : Message). slice_index m.lent conit in
          let before = agree.lent entry.replica owner conit in
          let rises = lent-rises history entry setup owner entry.replica conit in
          let told : most_told tells (part ++ entry ∷ []) owner ≤ most =
          most_told-within part entry tells owner most (omega (arith, before, rises))
          (λ message some from.
          let of_sender = (taken_tells message some).lent conit in
          let of_owner : tells message ≤ lent setup owner (part_of history owner) entry.replica conit =
          subst (λ to. tells message ≤ lent setup owner (part_of history owner) to conit) (addressed message some)
          (subst (λ from. tells message ≤ lent setup from (part_of history from) message.to conit) from of_sender) in
          le_trans of_owner rises) in
          omega (arith, before, rises, told)

  returned_step : (owner holder conit : ℕ)
      → returned_known (part_of further owner) holder conit ≤ returned (part_of further holder) owner conit
  returned_step owner holder conit =
      part_of-push_cases history entry (λ r after. returned_known after holder conit ≤ returned (part_of further holder) r conit)
      here (λ r. le_trans (agree.returned r holder conit) (returned-rises history entry holder r conit)) owner
    where
      here : returned_known (part ++ entry ∷ []) holder conit ≤ returned (part_of further holder) entry.replica conit
      here =
          let tells = λ (m : Message). slice_index m.returned conit in
          let rises = returned-rises history entry holder entry.replica conit in
          most_told-within part entry tells holder (returned (part_of further holder) entry.replica conit) (le_trans (agree.returned entry.replica holder conit) rises)
          (λ message some from.
          let of_sender = (taken_tells message some).returned conit in
          let of_holder : tells message ≤ returned (part_of history holder) entry.replica conit =
          subst (λ to. tells message ≤ returned (part_of history holder) to conit) (addressed message some)
          (subst (λ from. tells message ≤ returned (part_of history from) message.to conit) from of_sender) in
          le_trans of_holder rises)

  tells_grows : (replica : ℕ) (message : Message)
      → TellsOfLoans setup history replica message
      → TellsOfLoans setup further replica message
  tells_grows replica message tells = record {
    lent = λ conit. le_trans (tells.lent conit) (lent-rises history entry setup replica message.to conit);
    returned = λ conit. le_trans (tells.returned conit) (returned-rises history entry replica message.to conit);
  }

  sent_before : (replica : ℕ)
      → All (TellsOfLoans setup further replica) (sent_in (part_of history replica))
  sent_before replica =
      All-weaker (TellsOfLoans setup history replica) (TellsOfLoans setup further replica) (tells_grows replica) (sent_in (part_of history replica)) (agree.sent replica)

  -- the message that is due tells what was lent and returned
  due_tells : (to : ℕ) (given : List ℕ)
      → TellsOfLoans setup history entry.replica (message_of setup entry.replica part entry.moment to given)
  due_tells to given = record {
    lent = reads-le (lent setup entry.replica part to) setup.conits;
    returned = reads-le (returned part to) setup.conits;
  }

  sent_here : (sent : Option Message)
      → sent_by entry ≡ sent
      → All (TellsOfLoans setup further entry.replica) (sent_in (part ++ entry ∷ []))
  sent_here None none = subst (All (TellsOfLoans setup further entry.replica)) (sym (sent_in-push_none part entry none)) (sent_before entry.replica)
  sent_here (Some message) some =
      let sent = sent_is setup entry.replica part entry.moment entry.act message lawful.due.act some in
      subst (All (TellsOfLoans setup further entry.replica)) (sym (sent_in-push_some part entry message some))
      (All-push (TellsOfLoans setup further entry.replica) (sent_in part) message (sent_before entry.replica)
      (tells_grows entry.replica message (subst (TellsOfLoans setup history entry.replica) (sym sent.is) (due_tells message.to message.firsts))))

  sent_step : (replica : ℕ)
      → All (TellsOfLoans setup further replica) (sent_in (part_of further replica))
  sent_step = part_of-push_cases history entry (λ r after. All (TellsOfLoans setup further r) (sent_in after)) (sent_here (sent_by entry) refl) sent_before

  LoansAgree-push : LoansAgree setup further
  LoansAgree-push = record { lent = lent_step; returned = returned_step; sent = sent_step }

LoansAgree-nil : (setup : Setup) → LoansAgree setup []
LoansAgree-nil setup = record {
  lent = λ holder owner conit. omega arith;
  returned = λ owner holder conit. omega arith;
  sent = λ replica. All-nil (TellsOfLoans setup [] replica);
}

pub LoansAgree-run : (setup : Setup) (history : List Entry)
    → IsRun setup history
    → LoansAgree setup history
LoansAgree-run setup =
    over_runs setup (LoansAgree setup) (LoansAgree-nil setup) (λ before entry run lawful agree. LoansAgree-push setup before entry agree lawful)
