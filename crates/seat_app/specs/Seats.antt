-- Places of one capacity that are sold at every replica: what is asked of a replica, and what keeps a sale or a
-- cancellation away (this project's own rule).
use Rattle.std.specs.Prelude.{ℕ, ℤ, pos, negsuc, suc, ◌+◌, ◌+ℤ◌, int_lt, List, [], ◌∷◌, map, sum, if◌then◌else◌, Option, None, Some}
use Rattle.tact_base.specs.Setup.{Setup, peers_of}
use Rattle.tact_base.specs.declared.write.Op.TheVariants as op
use Rattle.run_model.specs.Loans.{out}
use Rattle.run_model.specs.Order.{value}
use Rattle.run_model.specs.declared.call.Request.{Request}
use Rattle.run_model.specs.declared.call.Request.TheVariants as request
use Rattle.run_model.specs.declared.entry.Entry.{Entry}
use Rattle.seat_app.specs.declared.sale.Sale.{Sale}
use Rattle.seat_app.specs.declared.sale.Sale.TheVariants as sale

-- the conit whose value is how many places are sold, and how many there are
pub record SeatsState : Type 0 where
  pub conit : ℕ
  pub capacity : ℕ

-- what is asked for a change of the sold places: it is added to a key, and it is the nweight on the conit
abbrev pub request_of : SeatsState → ℕ → ℤ → Request
request_of seats key change =
    request.Write (record { conit = seats.conit; nweight = change; oweight = 1 } ∷ []) (op.Add key change)

-- what all peers have of a replica's bound on a conit: so much they may have sold, or cancelled, unseen
abbrev pub out_of : Setup → ℕ → List Entry → ℕ → ℕ
out_of setup replica part conit = sum (map (λ peer. out setup replica part peer conit) (peers_of setup replica))

-- what keeps a sale of so many places away, where a value is seen and so much is out: with these it might pass the capacity
abbrev pub over : SeatsState → ℤ → ℕ → ℕ → Option Sale
over seats value out amount =
    if int_lt (pos seats.capacity) (value +ℤ pos out +ℤ pos amount) then Some (sale.Over value out amount seats.capacity) else None

-- what keeps a cancellation away: it might take more than was sold
abbrev pub under : ℤ → ℕ → ℕ → Option Sale
under value out amount = if int_lt value (pos (out + amount)) then Some (sale.Under value out amount) else None

-- what keeps a change away: one above 0 is a sale, one below it a cancellation
abbrev pub lack_of : SeatsState → ℤ → ℕ → ℤ → Option Sale
lack_of seats value out (pos amount) = over seats value out amount
lack_of seats value out (negsuc n) = under value out (suc n)

-- what keeps it away from a replica after a part
abbrev pub lack_after : SeatsState → Setup → ℕ → List Entry → ℤ → Option Sale
lack_after seats setup replica part change =
    lack_of seats (value setup replica part seats.conit) (out_of setup replica part seats.conit) change
