use Rattle.std.proofs.Common.{◌≡◌, ℕ, sym, subst, arith}
use Rattle.drawn_events.proofs.EventLemmas.{IsDrawnTo, drawn_to_begins, drawn_to_ends, drawn_to_more}
use Rattle.drawn_events.proofs.drawing.draw_events.Goals as goal

pub loop-step-init : goal.loop-step-init
loop-step-init c =
    subst (IsDrawnTo c.args.number 0 c.in_ok-primary.primary) (sym c.new-draws.ensures) (drawn_to_begins c.args.number c.in_ok-primary.primary c.in_ok-primary.ensures)

pub loop-step-preserved : goal.loop-step-preserved
loop-step-preserved c =
    let l = c.loop-step in
    let new = c.draw_step.new in
    let ended = c.in_ok-draw_step.ensures in
    drawn_to_more c.args.number l._step l.primary new.primary l.draws new.draws l.invariant ended.drawn ended.few ended.among

pub returns-clause-drawn : goal.returns-clause-drawn
returns-clause-drawn c =
    let l = c.loop-step in
    let all : l._step ≡ 1000 = omega (arith, c.loop-step-test.false, l.auto._step-end) in
    drawn_to_ends c.args.number l.primary l.draws (subst (λ (done : ℕ). IsDrawnTo c.args.number done l.primary l.draws) all l.invariant)

pub returns-clause-among : goal.returns-clause-among
returns-clause-among c = c.loop-step.invariant.among
