use Rattle.std.proofs.Common.{◌≡◌, ◌++◌, ℕ, List, length, take, drop, flat_map, IsPermutation, ap, ◌∙◌, subst, arith, rules}
use Rattle.std.proofs.Math.Seq.{take-append_seam}
use Rattle.std.proofs.lemmas.List.{take_all}
use Rattle.std.proofs.lemmas.Fn.{always_returns_same}
use Rattle.tact_base.specs.WriteOrder.{write_place}
use Rattle.tact_base.specs.declared.write.Write.{Write}
use Rattle.reference_book.specs.Books.{BookState, KeepsBook, writes_in}
use Rattle.reference_book.proofs.Sorting.{in_order-sorted}
use Rattle.reference_book.proofs.book.Book.ordered.Goals as goal

pub returns : goal.returns
returns c =
    let sorted = c.sort_unstable_by_key.new.self in
    let held = c.loop-log.writes.items in
    let logs : c.deref-log-items.result.now ≡ c.args.self.now.logs = c.deref-log-items.ensures.value ∙ ap (λ (b : BookState). b.logs) c.self.view_is in
    let all : held ≡ writes_in c.args.self.now =
    c.loop-log.invariant
    ∙ ap (flat_map (λ (log : List Write). log)) (take_all c.loop-log.log-index c.args.self.now.logs (omega (arith, c.loop-log-test.false, ap length logs))) in
    let keeps : KeepsBook c.args.self.now c.self.inside.sums = subst (λ (b : BookState). KeepsBook b c.self.inside.sums) c.self.view_is c.self.invariant in
    let taken : take (length held) (sorted ++ drop (length sorted) held) ≡ sorted =
    ap (λ (n : ℕ). take n (sorted ++ drop (length sorted) held)) (search rules) ∙ take-append_seam sorted (drop (length sorted) held) in
    taken
    ∙ in_order-sorted (writes_in c.args.self.now) sorted keeps.apart
    (subst (λ (ws : List Write). IsPermutation ws sorted) (c.items_mut.ensures.items ∙ all) c.sort_unstable_by_key.ensures.permutation)
    (c.sort_unstable_by_key.ensures.sorted write_place (always_returns_same _ _ _ (λ a r f' k. search rules)))
