use Rattle.drawn_trades.proofs.TallyLemmas.{has_room}
use Rattle.drawn_trades.proofs.TradeLemmas.{trade_found}
use Rattle.drawn_trades.proofs.drawing.draw_step.Goals as goal

pub deal-requires-clause-may : goal.deal-requires-clause-may
deal-requires-clause-may c =
    trade_found c.args.booking.now c.sent.result c.pick-kind.result c.pick-kind.new.self c.trade_of_kind.new.draws c.trade_of_kind.result c.in-Some.trade
    c.requires.among c.sent.ensures c.trade_of_kind.ensures c.in-Some.is

pub count-requires : goal.count-requires
count-requires c = has_room c.args.booking.now c.args.tally.now c.requires.counted c.requires.few
