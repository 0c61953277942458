-- What a sale or a cancellation came to: it was kept away, or a reply was given.
use Rattle.std.specs.Prelude.{ℕ, List, Option, None, Some}
use Rattle.tact_base.specs.Setup.{Setup}
use Rattle.run_model.specs.Histories.{calls_in, moment_at}
use Rattle.run_model.specs.Replies.{reply_of}
use Rattle.run_model.specs.declared.call.Reply.{Reply}
use Rattle.run_model.specs.declared.call.Reply.TheVariants as reply
use Rattle.run_model.specs.declared.call.Request.{Request}
use Rattle.run_model.specs.declared.entry.Act.{Act}
use Rattle.run_model.specs.declared.entry.Act.TheVariants as act
use Rattle.run_model.specs.declared.entry.Entry.{Entry}
use Rattle.seat_app.specs.declared.sale.Sale.{Sale}
use Rattle.seat_app.specs.declared.sale.Sale.TheVariants as sale

-- what kept it away, where something did
abbrev pub lack_in : Sale → Option Sale
lack_in (sale.Over value out amount capacity) = Some (sale.Over value out amount capacity)
lack_in (sale.Under value out amount) = Some (sale.Under value out amount)
lack_in other = None

-- a fact where something did, and one where nothing did
abbrev pub OnLack : Type 0 → Sale → Type 0
OnLack P (sale.Over value out amount capacity) = P
OnLack P (sale.Under value out amount) = P
OnLack P other = Unit {0}

abbrev pub OnReply : Type 0 → Sale → Type 0
OnReply P (sale.Accepted index stamp) = P
OnReply P (sale.Waiting given) = P
OnReply P other = Unit {0}

-- what a reply comes to
abbrev pub sale_of : Reply → Sale
sale_of (reply.Done index stamp) = sale.Accepted index stamp
sale_of other = sale.Waiting other

-- the call of a client that is due of a replica with a part, at a handed moment, and its entry
abbrev pub call_due : Setup → ℕ → List Entry → ℕ → ℕ → Request → Act
call_due setup replica part handed client asked =
    act.Call client (calls_in part client) asked (reply_of setup replica part (moment_at part handed) asked)

abbrev pub entry_due : Setup → ℕ → List Entry → ℕ → ℕ → Request → Entry
entry_due setup replica part handed client asked =
    record { replica = replica; moment = moment_at part handed; act = call_due setup replica part handed client asked }
