use Rattle.std.proofs.Common.{◌∙◌, ℕ, List, ap, sym, arith, rules, length, get_or}
use Rattle.weight_ledger.specs.declared.view.View.{View}
use Rattle.weight_ledger.specs.Seen.{TallyView}
use Rattle.weight_ledger.specs.Keeping.{amounts_of, owns_of}
use Rattle.weight_ledger.proofs.Places.{get_or-added, length-added}
use Rattle.weight_ledger.proofs.Sharing.{joins}
use Rattle.weight_ledger.proofs.Ending.{idle_of}
use Rattle.weight_ledger.proofs.cell.Cell.join.Goals as goal

pub join_seat-requires : goal.join_seat-requires
join_seat-requires g c =
    let key = c.self.inside.table.shared.key in
    let j = idle_of _ _ c.into_seat.result.me.0 c.other.invariant c.into_seat.ensures.2 in (
      search rules,
      search rules,
      search rules,
      search rules,
      joins g.T.Counted.label g.T.Counted.totals (g.T.Counted.label key.first.value) key.shared key.owned _ _ _ _ j.0,
    )

pub invariant_of-tally : goal.invariant_of-tally
invariant_of-tally g c =
    let v = c.taken-mine.result.me.0 in
    let w = c.into_seat.result.me.0 in
    let i = idle_of _ _ v c.tally.invariant c.taken-mine.ensures.2 in
    let j = idle_of _ _ w c.other.invariant c.into_seat.ensures.2 in
    let e = ap (λ m. m.0) c.join_seat.ensures.2 in
    let ids = c.into_badge.ensures.0 ∙ (c.join_seat.ensures.0 ∙ c.taken-mine.ensures.0) in
    let mine = ap (λ (t : TallyView). t.id) c.tally.view_is ∙ c.requires.cell in
    let theirs = ap (λ (t : TallyView). t.id) c.other.view_is ∙ c.requires.other in
    let same = ap (λ z. z.words) (mine ∙ sym theirs) in (
      c.join_seat.new.seat.me.0,
      c.into_badge.ensures.2,
      ap (λ (x : View g.row.T-Label.Denot). x.phase) e ∙ i.0,
      omega (arith, ap (λ (x : View g.row.T-Label.Denot). length x.amounts) e, length-added v.amounts w.amounts (omega (arith, i.1, j.1, same)), i.1, ap (λ z. z.words) ids),
    )

pub returns-clause-amounts : goal.returns-clause-amounts
returns-clause-amounts g c = λ p.
    let v = c.taken-mine.result.me.0 in
    let w = c.into_seat.result.me.0 in
    let i = idle_of _ _ v c.tally.invariant c.taken-mine.ensures.2 in
    let j = idle_of _ _ w c.other.invariant c.into_seat.ensures.2 in
    let all = ap (λ (xs : List (View g.row.T-Label.Denot)). amounts_of xs) c.into_badge.ensures.2 ∙ ap (λ m. m.0.amounts) c.join_seat.ensures.2 in
    let mine = sym i.2 ∙ ap (λ (t : TallyView). t.amounts) c.tally.view_is in
    let theirs = sym j.2 ∙ ap (λ (t : TallyView). t.amounts) c.other.view_is in
    let at = λ (l : List ℕ). get_or l p 0 in
    omega (arith, ap at all, get_or-added v.amounts w.amounts p, ap at mine, ap at theirs)

pub returns-clause-owns : goal.returns-clause-owns
returns-clause-owns g c = λ p.
    let v = c.taken-mine.result.me.0 in
    let w = c.into_seat.result.me.0 in
    let i = idle_of _ _ v c.tally.invariant c.taken-mine.ensures.2 in
    let j = idle_of _ _ w c.other.invariant c.into_seat.ensures.2 in
    let all = ap (λ (xs : List (View g.row.T-Label.Denot)). owns_of xs) c.into_badge.ensures.2 ∙ ap (λ m. m.0.owns) c.join_seat.ensures.2 in
    let mine = sym i.3 ∙ ap (λ (t : TallyView). t.owns) c.tally.view_is in
    let theirs = sym j.3 ∙ ap (λ (t : TallyView). t.owns) c.other.view_is in
    let at = λ (l : List ℕ). get_or l p 0 in
    omega (arith, ap at all, get_or-added v.owns w.owns p, ap at mine, ap at theirs)
