use Rattle.std.proofs.Common.{◌≡◌, take}
use Rattle.run_model.specs.Reference.{reference}
use Rattle.drawn_trades.specs.DrawnTrades.{places, three}
use Rattle.drawn_trades.proofs.reference.sold_in_all.Given as goal

abbrev pub invariant-loop-entry : goal.invariant-loop-entry
invariant-loop-entry l = l.sold ≡ reference three (take l.entry-index l.entry-items) places.conit
