use Rattle.std.proofs.Common.{ℕ, ℤ, List, ◌≡◌, ◌++◌, append_assoc, sym, ap, ◌∙◌, rules, w64, FitsSigned}
use Rattle.std.specs.List.{flat_map, range_with_len}
use Rattle.std.proofs.lemmas.Int.{to_z-of_z}
use Rattle.tact_base.proofs.RangeLists.{flat_map_range_more}
use Rattle.tact_top.specs.SalesText.{seen_by, value_text}
use Rattle.tact_top.proofs.selling.put_values.Goals as goal

pub loop-replica-preserved : goal.loop-replica-preserved
loop-replica-preserved c =
    let l = c.loop-replica in
    let line = λ (replica : ℕ). value_text replica (seen_by c.args.booking.now replica) in
    let fits : FitsSigned w64 c.value.result = search rules in
    c.in_ok-put_value.ensures
    ∙ ap (λ (seen : ℤ). l.out ++ value_text l.replica seen) (to_z-of_z w64 c.value.result fits ∙ c.value.ensures)
    ∙ ap (λ (text : List ℕ). text ++ line l.replica) l.invariant
    ∙ append_assoc c.args.out.now (flat_map line (range_with_len 0 l.replica)) (line l.replica)
    ∙ ap (λ (text : List ℕ). c.args.out.now ++ text) (sym (flat_map_range_more line l.replica))
