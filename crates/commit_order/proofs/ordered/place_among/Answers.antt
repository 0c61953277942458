use Rattle.std.proofs.Common.{rules, tests, ℕ, ◌-◌, ◌<◌, ◌≤◌, ◌≡◌, Bool, true, false, pos, [], length, get_or, sym, ap, ◌∙◌, arith}
use Rattle.std.specs.Ordering.{is_lt}
use Rattle.std.proofs.lemmas.List.{get_or_default}
use Rattle.std.proofs.lemmas.List.Sorted.{IsPartitionPoint-from_clause}
use Rattle.tact_base.specs.WriteOrder.{place_cmp, write_place}
use Rattle.tact_base.specs.declared.write.Write.{Write}
use Rattle.tact_base.specs.declared.write.Op.TheVariants.{Put}
use Rattle.commit_order.proofs.WriteOrderLemmas.{before_first}
use Rattle.commit_order.proofs.Partitions.{count_by-front}
use Rattle.commit_order.proofs.ordered.place_among.Goals as goal

pub returns-then-lt : goal.returns-then-lt
returns-then-lt c =
    let place = c.args.place in
    let key : Write = record { origin = place.origin; index = place.index; stamp = place.stamp; moment = 0; weights = []; op = Put 0 (pos 0) } in
    let before : Write → Bool = λ w. is_lt (place_cmp (write_place w) (write_place key)) in
    let writes = c.args.writes.now in
    let last = c.index-writes-all.result in
    let passes : before last ≡ true = search (rules, tests) in
    let some : 0 < length writes = omega (arith, c.if-all-gt0.true) in
    let at_end = λ (d : Write). get_or_default writes (length writes - 1) d last (omega arith) ∙ sym c.index-writes-all.is in
    let front = λ (k : ℕ) (d : Write) (low : 0 ≤ k) (high : k < length writes).
    before_first key writes c.requires k (length writes - 1) d (omega arith) (omega arith) (ap before (at_end d) ∙ passes) in
    let none = λ (k : ℕ) (d : Write) (low : length writes ≤ k) (high : k < length writes). absurd {A = before (get_or writes k d) ≡ false} (omega arith) in
    sym (count_by-front before writes (length writes) (omega arith) front none)

pub returns : goal.returns
returns c =
    let place = c.args.place in
    let key : Write = record { origin = place.origin; index = place.index; stamp = place.stamp; moment = 0; weights = []; op = Put 0 (pos 0) } in
    let before : Write → Bool = λ w. is_lt (place_cmp (write_place w) (write_place key)) in
    let writes = c.args.writes.now in
    let parts = before_first key writes c.requires in
    let part = IsPartitionPoint-from_clause before writes c.partition_point.result c.partition_point.ensures.partitioned parts (λ a r f' k. search (rules, tests)) in
    sym (count_by-front before writes c.partition_point.result c.partition_point.ensures.bound part.0 part.1)
