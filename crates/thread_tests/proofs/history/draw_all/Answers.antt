use Rattle.std.proofs.Common.{arith}
use Rattle.thread_tests.specs.declared.history.Drawn.{Drawn}
use Rattle.thread_tests.proofs.RestartLemmas.{fresh_has_none, fresh_size, still_in_place}
use Rattle.thread_tests.proofs.history.draw_all.Goals as goal

pub draw_each-requires-after_bounds : goal.draw_each-requires-after_bounds
draw_each-requires-after_bounds g c κs lasts = λ i d within.
    fresh_has_none c.args.desk.now c.args.clerks.items i d c.requires (omega (arith, c.args.clerks.ok.0, within))

pub returns : goal.returns
returns g c =
    let drawn = c.in_ok-drawn.drawn in
    let clerks = c.args.clerks in
    still_in_place (λ (one : Drawn). one.clerk) c.args.desk.now clerks.items drawn.items c.requires (fresh_size c.args.desk.now clerks.items c.requires)
    (omega (arith, drawn.ok.0, clerks.ok.0, c.in_ok-drawn.ensures.len))
    (λ i d within. c.in_ok-drawn.ensures.tables i d (omega (arith, clerks.ok.0, within)))
    (λ i d e within. c.in_ok-drawn.ensures.replicas i d e (omega (arith, clerks.ok.0, within)))
