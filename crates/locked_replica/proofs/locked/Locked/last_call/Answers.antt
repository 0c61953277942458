use Rattle.std.proofs.Common.{◌≡◌, ◌<◌, ℕ, true, get_or, length, sym, ap, ◌∙◌, subst, arith}
use Rattle.std.proofs.lemmas.List.{get_or-map, length-map}
use Rattle.run_model.specs.Histories.{is_call_of}
use Rattle.run_model.specs.declared.entry.Entry.{Entry}
use Rattle.locked_replica.specs.Locks.{LockedView, part_in}
use Rattle.locked_replica.specs.Restarting.{IsCallWith}
use Rattle.locked_replica.proofs.LastCalls.{last_at}
use Rattle.locked_replica.proofs.locked.Locked.last_call.Goals as goal

pub call_of-requires : goal.call_of-requires
call_of-requires c =
    let place = c.last_place-place.result in
    let none : Entry = c.index-items-place.result.1 in
    let there : get_or (part_in c.args.self.now) place none ≡ (get_or c.items.result.now place c.index-items-place.result).1 =
    ap (λ (v : LockedView). get_or (part_in v) place none) (sym c.self.view_is)
    ∙ get_or-map (λ (pair : ℕ × Entry). pair.1) c.self.inside.stored.items place c.index-items-place.result none
    (subst (λ (v : LockedView). place < length v.stored) (sym c.self.view_is) c.last_place-place.ensures.within)
    ∙ ap (λ xs. (get_or xs place c.index-items-place.result).1) (sym c.items.ensures) in
    subst (λ (e : Entry). is_call_of c.args.client e.act ≡ true) there (c.last_place-place.ensures.call none)

pub returns : goal.returns
returns c =
    let place = c.last_place-place.result in
    let part = part_in c.args.self.now in
    let none : Entry = c.index-items-place.result.1 in
    let there : get_or part place none ≡ (get_or c.items.result.now place c.index-items-place.result).1 =
    ap (λ (v : LockedView). get_or (part_in v) place none) (sym c.self.view_is)
    ∙ get_or-map (λ (pair : ℕ × Entry). pair.1) c.self.inside.stored.items place c.index-items-place.result none
    (subst (λ (v : LockedView). place < length v.stored) (sym c.self.view_is) c.last_place-place.ensures.within)
    ∙ ap (λ xs. (get_or xs place c.index-items-place.result).1) (sym c.items.ensures) in
    let size = length-map c.args.self.now.stored (λ (pair : ℕ × Entry). pair.1) in
    last_at part c.args.client c.call_of.result.0 c.call_of.result.1 place none (omega (arith, c.last_place-place.ensures.within, size)) (c.last_place-place.ensures.call none)
    (λ k d past within. c.last_place-place.ensures.last d k past (omega (arith, within, size)))
    (subst (λ (e : Entry). IsCallWith c.args.client c.call_of.result.0 c.call_of.result.1 e.act) (sym there) c.call_of.ensures)
