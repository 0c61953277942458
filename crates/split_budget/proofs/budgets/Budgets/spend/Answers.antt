use Rattle.std.proofs.Common.{◌≡◌, unsigned_abs, refl, rules}
use Rattle.std.proofs.lemmas.Int.{to_z-of_z}
use Rattle.std.proofs.lemmas.List.{get_or_read}
use Rattle.std.specs.Prelude.{FitsSigned}
use Rattle.std.specs.Int.{w64}
use Rattle.split_budget.proofs.KeptLemmas.{peer_of_other}
use Rattle.split_budget.proofs.WritesKept.{spent-fits, KeepsBudgets-spent}
use Rattle.split_budget.proofs.budgets.Budgets.spend.Goals as goal

pub add-requires-clause-plus : goal.add-requires-clause-plus
add-requires-clause-plus c = λ peer conit is on.
    let on_conit = rw (← c.self.view_is) at c.requires.conit in
    let held = rw (← c.self.view_is) at c.requires.held in
    let is_peer = peer_of_other _ c.self.inside.own c.self.invariant refl peer is in
    (spent-fits _ c.self.invariant.keeps c.args.weight 0 on_conit held peer conit is_peer (rw c.self.invariant.conits at on)).0

pub add-requires-clause-minus : goal.add-requires-clause-minus
add-requires-clause-minus c = λ peer conit is on.
    let on_conit = rw (← c.self.view_is) at c.requires.conit in
    let held = rw (← c.self.view_is) at c.requires.held in
    let is_peer = peer_of_other _ c.self.inside.own c.self.invariant refl peer is in
    (spent-fits _ c.self.invariant.keeps c.args.weight 0 on_conit held peer conit is_peer (rw c.self.invariant.conits at on)).1

pub invariant_of-self : goal.invariant_of-self
invariant_of-self c =
    let conit = rw (← c.self.view_is) at c.requires.conit in
    let held = rw (← c.self.view_is) at c.requires.held in
    let read = get_or_read c.self.inside.reserved.items c.args.weight.conit c.index_mut.result.now (rw c.self.invariant.keeps.reserved conit) c.index_mut.ensures.value 0 in
    let fits : FitsSigned w64 c.args.weight.nweight = search rules in
    let size : c.unsigned_abs.result ≡ unsigned_abs c.args.weight.nweight = simp to_z-of_z at c.unsigned_abs.ensures.value in
    rw (c.add.ensures.added, read, size) (record {
      keeps = KeepsBudgets-spent _ c.self.invariant.keeps c.args.weight c.add.new.self.room conit held;
      replica = c.self.invariant.replica;
      conits = c.self.invariant.conits;
    })
