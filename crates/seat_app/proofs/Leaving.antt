-- What is not kept away leaves room, and what is accepted then is careful.
use Rattle.std.proofs.Common.{◌≡◌, ℕ, suc, ◌+◌, ◌==◌, Bool, true, false, cond, ℤ, pos, negsuc, unsigned_abs, ◌+ℤ◌, ◌-ℤ◌, ◌≤ℤ◌, ◌<ℤ◌, List, []}
use Rattle.std.proofs.Common.{◌∷◌, map, All, Option, None, Some, refl, ap, ap₂, ◌∙◌, subst, arith}
use Rattle.std.specs.Prelude.{int_lt}
use Rattle.std.specs.Option.{option_to_list}
use Rattle.std.proofs.lemmas.Int.{ints}
use Rattle.std.proofs.lemmas.List.Elements.{All-nil}
use Rattle.tact_base.proofs.ListLemmas.{All-one}
use Rattle.tact_base.specs.Setup.{Setup}
use Rattle.tact_base.specs.Sums.{weights_on}
use Rattle.tact_base.specs.declared.conit_list.Weight.{Weight}
use Rattle.tact_base.specs.declared.write.Op.TheVariants as op
use Rattle.run_model.specs.Histories.{calls_in, moment_at}
use Rattle.run_model.specs.Order.{value}
use Rattle.run_model.specs.OwnWrites.{accepted_as, done_as}
use Rattle.run_model.specs.Replies.{reply_of}
use Rattle.run_model.specs.declared.call.Reply.{Reply}
use Rattle.run_model.specs.declared.call.Reply.TheVariants as reply
use Rattle.run_model.specs.declared.call.Request.{Request}
use Rattle.run_model.specs.declared.entry.Act.TheVariants as act
use Rattle.run_model.specs.declared.entry.Entry.{Entry}
use Rattle.replica_core.specs.Stands.{GoesOn, Stands, with_act}
use Rattle.replica_core.specs.States.{Core}
use Rattle.seat_app.specs.Careful.{IsCarefulEntry, LeavesRoom}
use Rattle.seat_app.specs.Sales.{OnReply, entry_due, sale_of}
use Rattle.seat_app.specs.Seats.{SeatsState, lack_after, lack_of, out_of, over, request_of, under}
use Rattle.seat_app.specs.Selling.{EntersDue}
use Rattle.seat_app.specs.declared.sale.Sale.{Sale}

-- a cancellation is a change below 0, a sale another one
pub lack_of-below : (seats : SeatsState) (value : ℤ) (out : ℕ) (change : ℤ)
    → change <ℤ pos 0
    → under value out (unsigned_abs change) ≡ lack_of seats value out change
lack_of-below seats value out (pos n) below = absurd (omega (arith, ints, below))
lack_of-below seats value out (negsuc n) below = refl

pub lack_of-above : (seats : SeatsState) (value : ℤ) (out : ℕ) (change : ℤ)
    → pos 0 ≤ℤ change
    → over seats value out (unsigned_abs change) ≡ lack_of seats value out change
lack_of-above seats value out (pos n) above = refl
lack_of-above seats value out (negsuc n) above = absurd (omega (arith, ints, above))

pub is_under : (seats : SeatsState) (value seen : ℤ) (out all : ℕ) (change : ℤ) (amount : ℕ) (lack : Option Sale)
    → lack ≡ under value out amount
    → value ≡ seen
    → out ≡ all
    → amount ≡ unsigned_abs change
    → change <ℤ pos 0
    → lack ≡ lack_of seats seen all change
is_under seats value seen out all change amount lack is value_is out_is amount_is below =
    is ∙ ap₂ (λ (v : ℤ) (o : ℕ). under v o amount) value_is out_is ∙ ap (under seen all) amount_is ∙ lack_of-below seats seen all change below

pub is_over : (seats : SeatsState) (value seen : ℤ) (out all : ℕ) (change : ℤ) (amount : ℕ) (lack : Option Sale)
    → lack ≡ over seats value out amount
    → value ≡ seen
    → out ≡ all
    → amount ≡ unsigned_abs change
    → pos 0 ≤ℤ change
    → lack ≡ lack_of seats seen all change
is_over seats value seen out all change amount lack is value_is out_is amount_is above =
    is ∙ ap₂ (λ (v : ℤ) (o : ℕ). over seats v o amount) value_is out_is ∙ ap (over seats seen all) amount_is ∙ lack_of-above seats seen all change above

-- where nothing keeps it away, a test failed
none_if : (test : Bool) (lack : Sale) → cond test (Some lack) None ≡ None → test ≡ false
none_if true lack none = cc
none_if false lack none = refl

module _ (setup : Setup) (seats : SeatsState) (replica : ℕ) (part : List Entry) where
  -- a change that nothing keeps away leaves room
  pub leaves_room : (change : ℤ) → lack_after seats setup replica part change ≡ None → LeavesRoom setup seats replica part change
  leaves_room (pos n) none =
      let seen = value setup replica part seats.conit in
      let out = out_of setup replica part seats.conit in
      let fits = none_if (int_lt (pos seats.capacity) (seen +ℤ pos out +ℤ pos n)) _ none in
      record { above = λ up. within seen out fits; below = λ down. absurd (omega (arith, ints, down)) }
    where
      within : (seen : ℤ) (out : ℕ)
          → int_lt (pos seats.capacity) (seen +ℤ pos out +ℤ pos n) ≡ false
          → (seen +ℤ pos out +ℤ pos n) ≤ℤ pos seats.capacity
      within seen out fits = grind (arith, ints, fits)
  leaves_room (negsuc n) none =
      let seen = value setup replica part seats.conit in
      let out = out_of setup replica part seats.conit in
      let fits = none_if (int_lt seen (pos (out + suc n))) _ none in
      record { above = λ up. absurd (omega (arith, ints, up)); below = λ down. enough seen out fits }
    where
      enough : (seen : ℤ) (out : ℕ)
          → int_lt seen (pos (out + suc n)) ≡ false
          → pos 0 ≤ℤ (seen -ℤ pos out +ℤ negsuc n)
      enough seen out fits = grind (arith, ints, fits)

  -- and its entry is careful
  pub careful_entry : (handed client key : ℕ) (change : ℤ)
      → lack_after seats setup replica part change ≡ None
      → IsCarefulEntry setup seats part (entry_due setup replica part handed client (request_of seats key change))
  careful_entry handed client key change none =
      accepted (done_as (reply_of setup replica part (moment_at part handed) (request_of seats key change)))
    where
      weight : Weight
      weight = record { conit = seats.conit; nweight = change; oweight = 1 }

      on : (here : Bool) → All (LeavesRoom setup seats replica part) (map (λ (w : Weight). w.nweight) (cond here (weight ∷ []) []))
      on true = All-one (LeavesRoom setup seats replica part) change (leaves_room change none)
      on false = All-nil (LeavesRoom setup seats replica part)

      accepted : (numbers : Option (ℕ × ℕ))
          → All (LeavesRoom setup seats replica part)
          (map (λ (w : Weight). w.nweight)
          (weights_on (option_to_list (accepted_as replica (moment_at part handed) (Some (weight ∷ [], op.Add key change)) numbers)) seats.conit))
      accepted None = All-nil (LeavesRoom setup seats replica part)
      accepted (Some numbers) = on (seats.conit == seats.conit)

-- a fact holds where a reply was given
pub OnReply-sale_of : (P : Type 0) (given : Reply) → P → OnReply P (sale_of given)
OnReply-sale_of P (reply.Done index stamp) holds = holds
OnReply-sale_of P other holds = holds

-- a replica goes on by the call with the reply that is due
pub enters_due : (old new : Core) (handed client : ℕ) (asked : Request) (given : Reply)
    → GoesOn old new handed (λ part. act.Call client (calls_in part client) asked given)
    → ((part : List Entry) → Stands part old → given ≡ reply_of old.setup old.replica part (moment_at part handed) asked)
    → EntersDue old new handed client asked
enters_due old new handed client asked given goes due part stands =
    subst (λ (r : Reply). Stands (with_act old.replica part handed (act.Call client (calls_in part client) asked r)) new) (due part stands) (goes part stands)
