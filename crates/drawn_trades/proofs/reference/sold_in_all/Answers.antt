use Rattle.std.proofs.Common.{◌≡◌, ◌+◌, ◌+ℤ◌, ◌∙◌, take, arith, rules, of_z, to_z, w64, FitsSigned}
use Rattle.std.proofs.lemmas.Int.{ints, to_z-of_z}
use Rattle.run_model.specs.Reference.{reference}
use Rattle.drawn_trades.specs.DrawnTrades.{places, three}
use Rattle.drawn_trades.proofs.SoldLemmas.{entry_once, sold_fits, sold_more}
use Rattle.drawn_trades.proofs.reference.sold_in_all.Goals as goal
use Rattle.drawn_trades.proofs.reference.sold_in_all.Goals.{After-change_by-sold}

pub change_by-sold-requires : goal.change_by-sold-requires
change_by-sold-requires c =
    entry_once c.args.booking.now c.entries-entry-items.result.now c.requires c.entries-entry-items.ensures
    c.loop-entry.entry-index c.entry-item.result c.loop-entry-test.true c.entry-item.is places.conit

-- the sum goes on
more : (c : After-change_by-sold)
    → to_z w64 c.loop-entry.sold-bits +ℤ to_z w64 (of_z w64 c.change_by-sold.result)
    ≡ reference three (take (c.loop-entry.entry-index + 1) c.entries-entry-items.result.now) places.conit
more c =
    let l = c.loop-entry in
    let sold : to_z w64 l.sold-bits ≡ reference three (take l.entry-index c.entries-entry-items.result.now) places.conit =
    omega (arith, ints, l.sold-is, l.invariant) in
    let fits : FitsSigned w64 c.change_by-sold.result = search rules in
    sold_more c.args.booking.now c.entries-entry-items.result.now c.requires c.entries-entry-items.ensures
    l.entry-index c.entry-item.result c.loop-entry-test.true c.entry-item.is
    (to_z w64 l.sold-bits) (to_z w64 (of_z w64 c.change_by-sold.result)) sold (to_z-of_z w64 c.change_by-sold.result fits ∙ c.change_by-sold.ensures)

pub overflow_add-sold : goal.overflow_add-sold
overflow_add-sold c =
    sold_fits c.args.booking.now c.entries-entry-items.result.now c.requires c.entries-entry-items.ensures
    c.loop-entry.entry-index c.entry-item.result c.loop-entry-test.true c.entry-item.is _ (more c)

pub loop-entry-preserved : goal.loop-entry-preserved
loop-entry-preserved c =
    let fits = sold_fits c.args.booking.now c.entries-entry-items.result.now c.requires c.entries-entry-items.ensures
    c.loop-entry.entry-index c.entry-item.result c.loop-entry-test.true c.entry-item.is _ (more c) in
    to_z-of_z w64 _ fits ∙ more c
