use Rattle.std.proofs.Common.{◌≡◌, ◌-◌, ◌++◌, max, take, drop, get_or, refl, ap, ◌∙◌, subst, arith}
use Rattle.std.proofs.lemmas.List.{get_or_read}
use Rattle.tact_base.specs.Sums.{above_zero, below_zero}
use Rattle.split_budget.specs.Missed.{AreMissed}
use Rattle.split_budget.proofs.OwnLemmas.{AreMissed-taken, between}
use Rattle.split_budget.proofs.Parts.{part_on-append}
use Rattle.split_budget.proofs.SumsKept.{no_sums, KeepsSums-noted}
use Rattle.split_budget.proofs.own_writes.OwnWrites.note.Goals as goal
use Rattle.split_budget.proofs.own_writes.OwnWrites.note.Goals.{After-index_mut}

-- the newest number of writes that the replica is known to have
newest : (c : After-index_mut)
    → c.max-newest.result ≡ max (get_or c.self.inside.known.items c.args.peer 0) c.args.count
newest c =
    let is = rw (← c.self.view_is) at c.requires in
    let known = get_or_read c.self.inside.known.items c.args.peer c.index-known.result.now is.0 c.index-known.ensures 0 in
    c.max-newest.ensures ∙ ap (λ known. max known c.args.count) known

-- its sums are of the writes that are taken off and of those that stay
sums : (c : After-index_mut)
    → AreMissed c.self.inside.conits
    (take (c.min-to.result - c.min-from.result) (drop c.min-from.result c.items-writes.result.now) ++ drop (c.max-newest.result - c.self.inside.given_up) c.self.inside.writes.items)
    c.index_mut.result.now
sums c =
    let is = rw (← c.self.view_is) at c.requires in
    let o = c.self.inside in
    let known = get_or_read o.known.items c.args.peer c.index-known.result.now is.0 c.index-known.ensures 0 in
    let read = get_or_read o.missed.items c.args.peer c.index_mut.result.now (rw c.self.invariant.replicas is.0) c.index_mut.ensures.value no_sums in
    let parts = between (get_or o.known.items c.args.peer 0 - o.given_up) (c.max-newest.result - o.given_up) c.min-from.result c.min-to.result o.writes.items
    (omega (arith, newest c))
    (rw (← known, ← c.items-writes.ensures) c.min-from.ensures)
    (rw (← c.items-writes.ensures) c.min-to.ensures) in
    rw (c.items-writes.ensures, read) (subst (λ writes. AreMissed o.conits writes (get_or o.missed.items c.args.peer no_sums)) parts (c.self.invariant.sums c.args.peer is))

pub take_off-requires-clause-plus : goal.take_off-requires-clause-plus
take_off-requires-clause-plus c = λ conit.
    let d = (goal.at.take_off-requires-clause-plus c).After-index_mut in
    omega (
      arith,
      (sums d).plus conit,
      part_on-append above_zero conit (take (c.min-to.result - c.min-from.result) (drop c.min-from.result c.items-writes.result.now))
          (drop (c.max-newest.result - c.self.inside.given_up) c.self.inside.writes.items),
    )

pub take_off-requires-clause-minus : goal.take_off-requires-clause-minus
take_off-requires-clause-minus c = λ conit.
    let d = (goal.at.take_off-requires-clause-minus c).After-index_mut in
    omega (
      arith,
      (sums d).minus conit,
      part_on-append below_zero conit (take (c.min-to.result - c.min-from.result) (drop c.min-from.result c.items-writes.result.now))
          (drop (c.max-newest.result - c.self.inside.given_up) c.self.inside.writes.items),
    )

pub invariant_of-self : goal.invariant_of-self
invariant_of-self c =
    let d = (goal.at.invariant_of-self c).After-index_mut in
    let is = rw (← c.self.view_is) at c.requires in
    let o = c.self.inside in
    let of = AreMissed-taken o.conits c.index_mut.result.now c.take_off.new.self c.take_off.ensures.conits
    (take (c.min-to.result - c.min-from.result) (drop c.min-from.result c.items-writes.result.now)) (drop (c.max-newest.result - o.given_up) o.writes.items)
    c.take_off.ensures.plus c.take_off.ensures.minus (sums d) in
    KeepsSums-noted _ o.missed.items c.self.invariant c.args.peer c.max-newest.result c.take_off.new.self is
    (omega (arith, c.max-newest.ensures, d.type_inv.known.fits, c.ranges.count.fits)) (omega (arith, newest d)) of

pub returns : goal.returns
returns c =
    let d = (goal.at.returns c).After-index_mut in
    rw (newest d, ← c.self.view_is) refl
