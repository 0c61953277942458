use Rattle.std.proofs.Common.{◌≡◌, ◌<◌, ℤ, pos, length, map, take, sym, ◌∙◌, arith}
use Rattle.std.proofs.lemmas.List.{ext_get_or, get_or-take, get_or-map, length-map, length-take-le}
use Rattle.tact_base.specs.Sums.{net_sum}
use Rattle.tact_base.specs.declared.conit_list.Need.{Need}
use Rattle.replica_core.proofs.replica.Replica.sums.Goals as goal

pub returns : goal.returns
returns c =
    let needs = c.args.needs.now in
    let sums = c.loop-place.sums in
    let f : Need → ℤ = λ need. net_sum c.args.self.now.core.writes.seen need.conit in
    let none : Need = record { conit = 0; num = 0; order = 0; stale = 0 } in
    let size : length (take (length needs) sums) ≡ length needs = length-take-le (length needs) sums (omega (arith, c.requires.few, c.loop-place.invariant.sized)) in
    c.new.ensures
    ∙ ext_get_or (pos 0) (take (length needs) sums) (map f needs) (omega (arith, size, length-map needs f))
    (λ i inside.
    let within : i < length needs = omega (arith, inside, size) in
    get_or-take (length needs) sums i (pos 0) within ∙ c.loop-place.invariant.filled i none (omega (arith, within, c.loop-place-test.false)) ∙ sym (get_or-map f needs i none (pos 0) within))
