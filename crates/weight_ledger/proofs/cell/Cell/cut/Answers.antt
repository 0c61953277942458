use Rattle.std.proofs.Common.{◌∙◌, ℕ, ap, sym, subst, arith, rules, length}
use Rattle.weight_ledger.specs.declared.view.View.{View}
use Rattle.weight_ledger.specs.Seen.{CellView, TallyView}
use Rattle.weight_ledger.specs.Amounts.{IsPartOf}
use Rattle.weight_ledger.proofs.Places.{length-lessened}
use Rattle.weight_ledger.proofs.Sharing.{cuts_part}
use Rattle.weight_ledger.proofs.Ending.{idle_of}
use Rattle.weight_ledger.proofs.cell.Cell.cut.Goals as goal

pub split_seat-other-requires : goal.split_seat-other-requires
split_seat-other-requires g c =
    let key = c.self.inside.table.shared.key in
    let v = c.taken-mine.result.me.0 in
    let i = idle_of _ _ v c.tally.invariant c.taken-mine.ensures.2 in
    let part = subst (λ (n : ℕ). IsPartOf n c.args.tally.now g.B.Part.amounts g.B.Part.owns)
    (ap (λ (x : CellView g.row.T-Label.Denot). x.shared) (sym c.self.view_is)) c.requires.part in (
      search rules,
      search rules,
      cuts_part g.T.Counted.label g.T.Counted.totals (g.T.Counted.label key.first.value) key.shared key.owned _ v c.args.tally.now _ _
          (ap (λ (t : TallyView). t.amounts) (sym c.tally.view_is) ∙ i.2) (ap (λ (t : TallyView). t.owns) (sym c.tally.view_is) ∙ i.3) part,
    )

pub invariant_of-tally : goal.invariant_of-tally
invariant_of-tally g c =
    let v = c.taken-mine.result.me.0 in
    let w = c.split_seat-other.new.seat.me.0 in
    let i = idle_of _ _ v c.tally.invariant c.taken-mine.ensures.2 in
    let e = ap (λ m. m.0) c.split_seat-other.ensures.2 in
    let ids = c.into_badge.ensures.0 ∙ (c.split_seat-other.ensures.0 ∙ c.taken-mine.ensures.0) in (
      w,
      c.into_badge.ensures.2,
      ap (λ (x : View g.row.T-Label.Denot). x.phase) e ∙ i.0,
      omega (arith, ap (λ (x : View g.row.T-Label.Denot). length x.amounts) e, length-lessened v.amounts g.B.Part.amounts, i.1, ap (λ z. z.words) ids),
    )
