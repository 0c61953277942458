use Rattle.std.proofs.Common.{pos, ◌≤ℤ◌, ◌<ℤ◌, unsigned_abs, ap, ◌∙◌, arith, rules, of_z, to_z, w64, FitsSigned}
use Rattle.std.proofs.lemmas.Int.{ints, to_z-of_z}
use Rattle.tact_base.specs.Sums.{net_sum}
use Rattle.split_budget.specs.Budgets.{all_out}
use Rattle.run_model.specs.Order.{value}
use Rattle.seat_app.proofs.Leaving.{is_over, is_under}
use Rattle.seat_app.specs.Seats.{SeatsState, out_of}
use Rattle.seat_app.proofs.seats.Seats.lack.Goals as goal

pub returns-then-change-lt0-clause-lack : goal.returns-then-change-lt0-clause-lack
returns-then-change-lt0-clause-lack c =
    let core = c.args.replica.now.core in
    let seats = c.args.self.now in
    let conit = ap (λ (s : SeatsState). s.conit) c.self.view_is in
    let fits : FitsSigned w64 c.value-value.result = search rules in
    let seen = to_z w64 (of_z w64 c.value-value.result) in
    let seen_is = to_z-of_z w64 c.value-value.result fits ∙ c.value-value.ensures.value ∙ ap (net_sum core.writes.seen) conit in
    let out_is = c.all_out-out.ensures.all ∙ ap (all_out core.budgets) conit in
    let amount_is = c.unsigned_abs-amount.ensures.value ∙ ap unsigned_abs (to_z-of_z w64 c.args.change c.ranges.change) in
    let sign : c.args.change <ℤ pos 0 = grind (arith, ints) in
    is_under seats seen (net_sum core.writes.seen seats.conit) c.all_out-out.result (all_out core.budgets seats.conit)
    c.args.change c.unsigned_abs-amount.result c.under.result c.under.ensures seen_is out_is amount_is sign

pub returns-then-change-lt0-clause-of_part : goal.returns-then-change-lt0-clause-of_part
returns-then-change-lt0-clause-of_part c = λ part stands.
    let core = c.args.replica.now.core in
    let seats = c.args.self.now in
    let conit = ap (λ (s : SeatsState). s.conit) c.self.view_is in
    let fits : FitsSigned w64 c.value-value.result = search rules in
    let seen = to_z w64 (of_z w64 c.value-value.result) in
    let seen_is = to_z-of_z w64 c.value-value.result fits ∙ c.value-value.ensures.of_part part stands ∙ ap (value core.setup core.replica part) conit in
    let out_is = c.all_out-out.ensures.of_part part stands ∙ ap (out_of core.setup core.replica part) conit in
    let amount_is = c.unsigned_abs-amount.ensures.value ∙ ap unsigned_abs (to_z-of_z w64 c.args.change c.ranges.change) in
    let sign : c.args.change <ℤ pos 0 = grind (arith, ints) in
    is_under seats seen (value core.setup core.replica part seats.conit) c.all_out-out.result (out_of core.setup core.replica part seats.conit)
    c.args.change c.unsigned_abs-amount.result c.under.result c.under.ensures seen_is out_is amount_is sign

pub returns-clause-lack : goal.returns-clause-lack
returns-clause-lack c =
    let core = c.args.replica.now.core in
    let seats = c.args.self.now in
    let conit = ap (λ (s : SeatsState). s.conit) c.self.view_is in
    let fits : FitsSigned w64 c.value-value.result = search rules in
    let seen = to_z w64 (of_z w64 c.value-value.result) in
    let seen_is = to_z-of_z w64 c.value-value.result fits ∙ c.value-value.ensures.value ∙ ap (net_sum core.writes.seen) conit in
    let out_is = c.all_out-out.ensures.all ∙ ap (all_out core.budgets) conit in
    let amount_is = c.unsigned_abs-amount.ensures.value ∙ ap unsigned_abs (to_z-of_z w64 c.args.change c.ranges.change) in
    let sign : pos 0 ≤ℤ c.args.change = grind (arith, ints) in
    is_over seats seen (net_sum core.writes.seen seats.conit) c.all_out-out.result (all_out core.budgets seats.conit)
    c.args.change c.unsigned_abs-amount.result c.over.result c.over.ensures seen_is out_is amount_is sign

pub returns-clause-of_part : goal.returns-clause-of_part
returns-clause-of_part c = λ part stands.
    let core = c.args.replica.now.core in
    let seats = c.args.self.now in
    let conit = ap (λ (s : SeatsState). s.conit) c.self.view_is in
    let fits : FitsSigned w64 c.value-value.result = search rules in
    let seen = to_z w64 (of_z w64 c.value-value.result) in
    let seen_is = to_z-of_z w64 c.value-value.result fits ∙ c.value-value.ensures.of_part part stands ∙ ap (value core.setup core.replica part) conit in
    let out_is = c.all_out-out.ensures.of_part part stands ∙ ap (out_of core.setup core.replica part) conit in
    let amount_is = c.unsigned_abs-amount.ensures.value ∙ ap unsigned_abs (to_z-of_z w64 c.args.change c.ranges.change) in
    let sign : pos 0 ≤ℤ c.args.change = grind (arith, ints) in
    is_over seats seen (value core.setup core.replica part seats.conit) c.all_out-out.result (out_of core.setup core.replica part seats.conit)
    c.args.change c.unsigned_abs-amount.result c.over.result c.over.ensures seen_is out_is amount_is sign
