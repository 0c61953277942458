use Rattle.std.proofs.Common.{◌≡◌, ◌<◌, ◌≤◌, ℕ, min, List, get_or, length, ap, sym, ◌∙◌, ⊎_elim, arith}
use Rattle.std.proofs.lemmas.Bool.{cases_eq}
use Rattle.std.proofs.lemmas.List.{get_or_default}
use Rattle.tact_base.proofs.CoversLemmas.{least_stamp-le, least_stamp-ge}
use Rattle.tact_base.specs.declared.write.Cover.{Cover}
use Rattle.version_vector.proofs.Vector.least.Goals as goal

pub loop-cover-init : goal.loop-cover-init
loop-cover-init c =
    let first = c.index.result.now in
    let low = least_stamp-le c.self.inside.covers.items 0 first (omega (arith, c.self.invariant)) in (
      rw (← c.self.view_is) (omega (arith, low, ap (λ (cover : Cover). cover.stamp) c.index.ensures)),
      λ k d before. absurd (omega (arith, before)),
    )

pub loop-cover-preserved : goal.loop-cover-preserved
loop-cover-preserved c =
    let covers = c.args.self.now in
    let items : c.deref-cover-items.result.now ≡ covers = c.deref-cover-items.ensures.value ∙ c.self.view_is in
    let i = c.loop-cover.cover-index in
    let inside : i < length covers = omega (arith, c.loop-cover-test.true, ap length items) in
    let step : (d : Cover) → c.min-least.result ≡ min c.loop-cover.least (get_or covers i d).stamp =
    λ d. c.min-least.ensures
    ∙ ap (λ (cs : List Cover). min c.loop-cover.least (get_or cs i (record { count = 0; stamp = 0; moment = 0 })).stamp) items
    ∙ ap (λ (cover : Cover). min c.loop-cover.least cover.stamp) (get_or_default covers i (record { count = 0; stamp = 0; moment = 0 }) d inside) in (
      omega (arith, c.loop-cover.invariant.0, step (record { count = 0; stamp = 0; moment = 0 }), least_stamp-le covers i (record { count = 0; stamp = 0; moment = 0 }) inside),
      λ k d before. ⊎_elim
          (λ (same : k ≡ i). omega (arith, step d, ap (λ (j : ℕ). (get_or covers j d).stamp) same))
          (λ (other : k ≡ i → ⊥). omega (arith, step d, c.loop-cover.invariant.1 k d (omega (arith, before, other))))
          (cases_eq k i),
    )

pub returns : goal.returns
returns c =
    let covers = c.args.self.now in
    let items : c.deref-cover-items.result.now ≡ covers = c.deref-cover-items.ensures.value ∙ c.self.view_is in
    let some : 0 < length covers = omega (arith, c.self.invariant, ap length c.self.view_is) in
    let high = least_stamp-ge c.loop-cover.least covers (record { count = 0; stamp = 0; moment = 0 }) some
    (λ k within. c.loop-cover.invariant.1 k (record { count = 0; stamp = 0; moment = 0 }) (omega (arith, within, c.loop-cover-test.false, ap length items))) in
    omega (arith, c.loop-cover.invariant.0, high)
