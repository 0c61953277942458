-- One more trade of replicas whose entries are a careful run.
use Rattle.std.proofs.Common.{◌≡◌, ℕ, ◌+◌, ◌≤◌, ℤ, List, [], ◌∷◌, ◌++◌, length, map, All, Option, None, Some, refl, sym, ap, ◌∙◌, subst, subst₂, arith}
use Rattle.std.specs.List.{slice_get}
use Rattle.std.specs.Option.{option_to_list}
use Rattle.std.proofs.lemmas.List.{length_push}
use Rattle.std.proofs.lemmas.List.Elements.{All-nil}
use Rattle.tact_base.specs.Setup.{Setup}
use Rattle.tact_base.specs.Sums.{weights_on}
use Rattle.tact_base.specs.declared.write.Write.{Write}
use Rattle.run_model.specs.Histories.{moment_at, part_of, sent_in}
use Rattle.run_model.specs.OwnWrites.{accepted_by}
use Rattle.run_model.specs.Replies.{reply_of}
use Rattle.run_model.specs.Runs.{IsRun}
use Rattle.run_model.specs.declared.call.Reply.{Reply}
use Rattle.run_model.specs.declared.call.Request.{Request}
use Rattle.run_model.specs.declared.entry.Entry.{Entry}
use Rattle.run_model.specs.declared.entry.Message.{Message}
use Rattle.run_model.proofs.PrefixLemmas.{EachAfter-push}
use Rattle.replica_network.specs.Networks.{NetworkState, after_call, after_send, after_take, played_at, taken}
use Rattle.seat_app.specs.Booked.{Booked, changed, changed_unless, moved}
use Rattle.seat_app.specs.Bookings.{GoesOnBy, SellsCarefully}
use Rattle.seat_app.specs.Careful.{IsCareful, IsCarefulEntry, LeavesRoom}
use Rattle.seat_app.specs.Sales.{entry_due, sale_of}
use Rattle.seat_app.specs.Seats.{SeatsState, lack_after, request_of}
use Rattle.seat_app.specs.declared.sale.Sale.{Sale}
use Rattle.seat_app.specs.declared.trades.Outcome.{Outcome}
use Rattle.seat_app.specs.declared.trades.Outcome.TheVariants.{Moved, Traded}
use Rattle.seat_app.specs.declared.trades.TheConstants.{CLIENT, KEY}
use Rattle.seat_app.proofs.Leaving.{careful_entry}

-- the rule of careful entries
abbrev rule : Setup → SeatsState → List Entry → Entry → Type 0
rule setup seats before entry = IsCarefulEntry setup seats (part_of before entry.replica) entry

-- an entry that accepts nothing is careful
careful-quiet : (setup : Setup) (seats : SeatsState) (history : List Entry) (entry : Entry)
    → accepted_by entry.replica entry.moment entry.act ≡ None
    → IsCareful setup seats history
    → IsCareful setup seats (history ++ entry ∷ [])
careful-quiet setup seats history entry quiet careful = EachAfter-push (rule setup seats) history entry careful (go (accepted_by entry.replica entry.moment entry.act) quiet)
  where
    go : (write : Option Write)
        → write ≡ None
        → All (LeavesRoom setup seats entry.replica (part_of history entry.replica))
        (map (λ weight. weight.nweight) (weights_on (option_to_list write) seats.conit))
    go None none = All-nil (LeavesRoom setup seats entry.replica (part_of history entry.replica))
    go (Some write) none = cc

-- a history with one entry more
longer : (history : List Entry) (entry : Entry) → length (history ++ entry ∷ []) ≤ length history + 1
longer history entry = omega (arith, length_push history entry)

module _ (seats : SeatsState) (old : NetworkState) (moment replica : ℕ) (change : ℤ) (careful : SellsCarefully seats old) where
  abbrev part : List Entry
  part = part_of old.entries replica

  abbrev step : Booked → Booked
  step before = changed seats before moment replica change

  abbrev as_booked : NetworkState → List Outcome → Booked
  as_booked network outcomes = record { network = network; outcomes = outcomes }

  -- a change that is kept away
  pub kept_away : (lack : Sale)
      → Some lack ≡ lack_after seats old.setup replica part change
      → GoesOnBy seats step old old (Traded lack)
  kept_away lack is = record {
    careful = careful;
    setup = refl;
    made = λ outcomes. ap (changed_unless seats (as_booked old outcomes) moment replica change) (sym is);
    grows = omega arith;
  }

  abbrev asked : Request
  asked = request_of seats KEY change

  abbrev due : NetworkState
  due = after_call old moment replica CLIENT asked

  -- and one that is let through
  let_through_due : None ≡ lack_after seats old.setup replica part change
      → IsRun due.setup due.entries
      → GoesOnBy seats step old due (Traded (sale_of (reply_of old.setup replica part (moment_at part moment) asked)))
  let_through_due none run = record {
    careful = record {
      conit = careful.conit;
      good = careful.good;
      run = run;
      careful = EachAfter-push (rule old.setup seats) old.entries (entry_due old.setup replica part moment CLIENT asked) careful.careful
          (careful_entry old.setup seats replica part moment CLIENT KEY change (sym none));
    };
    setup = refl;
    made = λ outcomes. ap (changed_unless seats (as_booked old outcomes) moment replica change) (sym none);
    grows = longer old.entries (entry_due old.setup replica part moment CLIENT asked);
  }

  pub let_through : (new : NetworkState) (request : Request) (given : Reply) (sale : Sale)
      → None ≡ lack_after seats old.setup replica part change
      → request ≡ asked
      → new ≡ after_call old moment replica CLIENT request
      → IsRun new.setup new.entries
      → given ≡ reply_of old.setup replica part (moment_at part moment) request
      → sale ≡ sale_of given
      → GoesOnBy seats step old new (Traded sale)
  let_through new request given sale none is_asked is_new run is_given is_sale =
      let is_due : new ≡ due = is_new ∙ ap (after_call old moment replica CLIENT) is_asked in
      let is_sold : sale ≡ sale_of (reply_of old.setup replica part (moment_at part moment) asked) =
      is_sale ∙ ap sale_of (is_given ∙ ap (reply_of old.setup replica part (moment_at part moment)) is_asked) in
      subst₂ (λ (n : NetworkState) (s : Sale). GoesOnBy seats step old n (Traded s)) (sym is_due) (sym is_sold)
      (let_through_due none (subst (λ (n : NetworkState). IsRun n.setup n.entries) is_due run))

-- a sending, and a taking
module _ (seats : SeatsState) (old : NetworkState) (moment : ℕ) (careful : SellsCarefully seats old) where
  -- one that makes an entry which accepts nothing, or none
  moved_on : (step : Booked → Booked) (entries : List Entry)
      → ((before : Booked) → before.network ≡ old → step before ≡ moved before (record old { entries = entries }))
      → IsRun old.setup entries
      → IsCareful old.setup seats entries
      → length entries ≤ length old.entries + 1
      → GoesOnBy seats step old (record old { entries = entries }) Moved
  moved_on step entries is run keeps grows = record {
    careful = record { conit = careful.conit; good = careful.good; run = run; careful = keeps };
    setup = refl;
    made = λ outcomes. is (record { network = old; outcomes = outcomes }) refl;
    grows = grows;
  }

  pub sent_on : (new : NetworkState) (from to : ℕ)
      → new ≡ after_send old moment from to
      → IsRun new.setup new.entries
      → GoesOnBy seats (λ before. moved before (after_send before.network moment from to)) old new Moved
  sent_on new from to is run =
      let due = after_send old moment from to in
      subst (λ (n : NetworkState). GoesOnBy seats (λ before. moved before (after_send before.network moment from to)) old n Moved) (sym is)
      (moved_on (λ before. moved before (after_send before.network moment from to)) due.entries
      (λ before same. ap (λ (n : NetworkState). moved before (after_send n moment from to)) same)
      (subst (λ (n : NetworkState). IsRun n.setup n.entries) is run)
      (careful-quiet old.setup seats old.entries _ refl careful.careful)
      (longer old.entries _))

  -- what a taking makes
  taken_on : (message : Option Message) → IsCareful old.setup seats (taken (played_at old.entries moment) message).history
  taken_on None = careful.careful
  taken_on (Some message) = careful-quiet old.setup seats old.entries _ refl careful.careful

  taken_grows : (message : Option Message) → length (taken (played_at old.entries moment) message).history ≤ length old.entries + 1
  taken_grows None = omega arith
  taken_grows (Some message) = longer old.entries _

  pub took_on : (new : NetworkState) (number : ℕ)
      → new ≡ after_take old moment number
      → IsRun new.setup new.entries
      → GoesOnBy seats (λ before. moved before (after_take before.network moment number)) old new Moved
  took_on new number is run =
      let due = after_take old moment number in
      subst (λ (n : NetworkState). GoesOnBy seats (λ before. moved before (after_take before.network moment number)) old n Moved) (sym is)
      (moved_on (λ before. moved before (after_take before.network moment number)) due.entries
      (λ before same. ap (λ (n : NetworkState). moved before (after_take n moment number)) same)
      (subst (λ (n : NetworkState). IsRun n.setup n.entries) is run)
      (taken_on (slice_get (sent_in old.entries) number))
      (taken_grows (slice_get (sent_in old.entries) number)))
