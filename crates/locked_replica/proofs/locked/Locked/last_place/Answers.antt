use Rattle.std.proofs.Common.{◌≡◌, ◌-◌, ◌<◌, ◌≤◌, ℕ, ⊎_elim, false, get_or, length, sym, ap, ◌∙◌, subst, arith}
use Rattle.std.proofs.lemmas.Bool.{cases_eq}
use Rattle.std.proofs.lemmas.List.{get_or-map, length-map}
use Rattle.tact_base.proofs.ListLemmas.{filter_none}
use Rattle.run_model.specs.Histories.{is_call_of}
use Rattle.run_model.specs.declared.entry.Entry.{Entry}
use Rattle.locked_replica.specs.Locks.{LockedView, part_in}
use Rattle.locked_replica.proofs.locked.Locked.last_place.Goals as goal

pub loop-place-preserved : goal.loop-place-preserved
loop-place-preserved c none k from within =
    let stored = c.self.inside.stored.items in
    ⊎_elim
    (λ (same : k ≡ c.loop-place.place - 1).
    let here : k < length stored = subst (λ (v : LockedView). k < length v.stored) (sym c.self.view_is) within in
    ap (λ (v : LockedView). is_call_of c.args.client (get_or (part_in v) k none).act) (sym c.self.view_is)
    ∙ ap (λ (e : Entry). is_call_of c.args.client e.act) (get_or-map (λ (pair : ℕ × Entry). pair.1) stored k c.index-stored-place.result none here)
    ∙ ap (λ i. is_call_of c.args.client (get_or stored i c.index-stored-place.result).1.act) same
    ∙ ap (λ xs. is_call_of c.args.client (get_or xs (c.loop-place.place - 1) c.index-stored-place.result).1.act) (sym c.items-stored.ensures)
    ∙ sym c.is_by.ensures ∙ c.if-is_by.false)
    (λ (later : k ≡ c.loop-place.place - 1 → ⊥). c.loop-place.invariant none k (omega (arith, from, later, c.loop-place-test.true)) within)
    (cases_eq k (c.loop-place.place - 1))

pub unreachable-requires : goal.unreachable-requires
unreachable-requires c =
    let part = part_in c.args.self.now in
    let size = length-map c.args.self.now.stored (λ (pair : ℕ × Entry). pair.1) in
    absurd (c.requires.some (ap length (filter_none (λ (e : Entry). is_call_of c.args.client e.act) part
    (λ k d within. c.loop-place.invariant d k (omega (arith, c.loop-place-test.false)) (omega (arith, within, size))))))
