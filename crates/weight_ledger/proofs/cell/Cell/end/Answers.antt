use Rattle.std.proofs.Common.{◌≡◌, ◌∙◌, ℕ, ◌+◌, List, ap, sym, rules}
use mathlib.Core.Option.{some-injective}
use Rattle.weight_ledger.specs.Seen.{CellView, TallyView}
use Rattle.weight_ledger.specs.Amounts.{added}
use Rattle.weight_ledger.proofs.Sharing.{joins}
use Rattle.weight_ledger.proofs.Ending.{idle_of, ends, agrees_too}
use Rattle.weight_ledger.proofs.cell.Cell.end.Goals as goal

pub join_seat-requires : goal.join_seat-requires
join_seat-requires g c =
    let key = c.self.inside.table.shared.key in
    let j = idle_of _ _ c.into_seat.result.me.0 c.all.invariant c.into_seat.ensures.2 in (
      search rules,
      search rules,
      search rules,
      search rules,
      joins g.T.Counted.label g.T.Counted.totals (g.T.Counted.label key.first.value) key.shared key.owned _ _ _ _ j.0,
    )

pub unreachable-requires : goal.unreachable-requires
unreachable-requires g c =
    let key = c.self.inside.table.shared.key in
    let e = c.join_seat.ensures.2 in
    let f = ends g.T.Counted.label g.T.Counted.totals (g.T.Counted.label key.first.value) key.shared key.owned _ _ _ _
    (ap (λ m. m.0.phase) e ∙ c.claim-seat.ensures.claims.0) c.close_with-closed.ensures.values.2 in
    c.in_default.not-Some f.0 (some-injective _ _ (sym c.take-found.ensures.value ∙ f.1))

pub returns : goal.returns
returns g c =
    let key = c.self.inside.table.shared.key in
    let e = c.join_seat.ensures.2 in
    let w = c.into_seat.result.me.0 in
    let j = idle_of _ _ w c.all.invariant c.into_seat.ensures.2 in
    let f = ends g.T.Counted.label g.T.Counted.totals (g.T.Counted.label key.first.value) key.shared key.owned _ _ _ _
    (ap (λ m. m.0.phase) e ∙ c.claim-seat.ensures.claims.0) c.close_with-closed.ensures.values.2 in
    let found = some-injective _ _ (sym c.take-found.ensures.value ∙ f.1) in
    let same : f.0 ≡ c.in-Some.value = cc (found, c.in-Some.is) in
    let amounts = ap (λ m. m.0.amounts) e ∙ (ap (λ (l : List ℕ). added l w.amounts) c.claim-seat.ensures.claims.2 ∙ (sym j.2 ∙ ap (λ (t : TallyView). t.amounts) c.all.view_is)) in
    let owns = ap (λ m. m.0.owns) e ∙ (ap (λ (l : List ℕ). added l w.owns) c.claim-seat.ensures.claims.3 ∙ (sym j.3 ∙ ap (λ (t : TallyView). t.owns) c.all.view_is)) in
    let size = ap (λ (x : CellView g.row.T-Label.Denot). x.shared + x.owned) c.self.view_is in
    let a = agrees_too _ _ _ _ _ _ _ _ (ap g.T.Counted.totals same) amounts owns size f.3 in
    record {
      label = ap g.T.Counted.label (sym same) ∙ (f.2 ∙ ap (λ (x : CellView g.row.T-Label.Denot). x.label) c.self.view_is);
      places = a.size;
      owned = a.owned;
      least = a.least;
    }
