use Rattle.std.proofs.Common.{◌≡◌, List, All, ap, sym, subst}
use Rattle.run_model.specs.Histories.{IsPrefix}
use Rattle.run_model.specs.Promises.{IsKept}
use Rattle.run_promises.proofs.Kept.{IsKept-run}
use Rattle.run_history.specs.Closing.{all_drawn, AreAllThere}
use Rattle.run_history.specs.Seats.{ClerkView}
use Rattle.run_history.specs.Steps.{seen_in}
use Rattle.run_history.specs.Ticks.{drawn_by, IsMerge}
use Rattle.run_history.proofs.Closed.{merges, parts_drawn, fronts_seen, clerks_apart}
use Rattle.run_history.proofs.desk.Desk.close.Goals as goal

pub returns-clause-merge : goal.returns-clause-merge
returns-clause-merge c =
    let setup = c.self.inside.table.shared.key in
    let seat = c.look_as-count.new.seat.me.0 in
    let clerks : List ClerkView = c.args.clerks.items in
    let drawn = parts_drawn setup clerks c.gather-seat.result.me.0 c.look_as-count.result seat c.gather-seat.ensures.gathered c.look_as-count.ensures.looked in
    let all : AreAllThere setup.replicas clerks = rw (ap (λ desk. desk.setup) c.self.view_is) c.requires.whole in
    subst (λ history. IsMerge (all_drawn clerks) history) (sym (ap seen_in c.into_badge.ensures.2))
    (merges setup seat.seen c.look_as-count.ensures.looked.run clerks all drawn)

pub returns-clause-parts : goal.returns-clause-parts
returns-clause-parts c =
    let clerks : List ClerkView = c.args.clerks.items in
    subst (λ history. All (λ (clerk : ClerkView). clerk.pairs ≡ drawn_by history clerk.replica) clerks) (sym (ap seen_in c.into_badge.ensures.2))
    (parts_drawn c.self.inside.table.shared.key clerks c.gather-seat.result.me.0 c.look_as-count.result c.look_as-count.new.seat.me.0 c.gather-seat.ensures.gathered c.look_as-count.ensures.looked)

pub returns-clause-kept : goal.returns-clause-kept
returns-clause-kept c =
    let setup = c.self.inside.table.shared.key in
    let seat = c.look_as-count.new.seat.me.0 in
    let kept = IsKept-run setup seat.seen c.self.invariant.1 c.look_as-count.ensures.looked.run in
    subst (λ history. IsKept c.args.self.setup history) (sym (ap seen_in c.into_badge.ensures.2))
    (subst (λ setup. IsKept setup seat.seen) (ap (λ desk. desk.setup) c.self.view_is) kept)

pub returns-clause-seen : goal.returns-clause-seen
returns-clause-seen c =
    let clerks : List ClerkView = c.args.clerks.items in
    subst (λ history. All (λ (clerk : ClerkView). IsPrefix clerk.seen history) clerks) (sym (ap seen_in c.into_badge.ensures.2))
    (fronts_seen c.self.inside.table.shared.key clerks c.gather-seat.result.me.0 c.look_as-count.result c.look_as-count.new.seat.me.0 c.gather-seat.ensures.gathered c.look_as-count.ensures.looked)

pub returns-clause-apart : goal.returns-clause-apart
returns-clause-apart c =
    clerks_apart c.self.inside.table.shared.key c.args.clerks.items c.gather-seat.result.me.0 c.look_as-count.result c.look_as-count.new.seat.me.0
    c.gather-seat.ensures.gathered c.look_as-count.ensures.looked
