use Rattle.std.proofs.Common.{rules, tests, ◌≡◌, ◌≤◌, Bool, length, nat_le, sym, ap, ◌∙◌, arith}
use Rattle.std.proofs.lemmas.List.Elements.{All-weaker}
use Rattle.std.proofs.lemmas.List.Sums.{length-filter}
use Rattle.std.proofs.lemmas.List.Sorted.{IsPartitionPoint-from_clause}
use Rattle.tact_base.specs.declared.write.Write.{Write}
use Rattle.tact_base.specs.WriteOrder.{committed_to}
use Rattle.commit_order.specs.Order.{OrderState}
use Rattle.commit_order.proofs.Given.{held-sorted, committed-length}
use Rattle.commit_order.proofs.WriteOrderLemmas.{committed-rises, stamps_first}
use Rattle.commit_order.proofs.Partitions.{count_by-front}
use Rattle.commit_order.proofs.ordered.Ordered.commit_to.Goals as goal

rises : (c : goal.After-self-2-1) → c.self.inside.point ≤ c.args.stamp
rises c = omega (arith, c.requires, ap (λ (s : OrderState). s.point) c.self.view_is)

count : (c : goal.After-self-2-1)
    → c.partition_point-committed.result ≡ length (committed_to c.args.stamp c.self.inside.writes.items)
count c =
    let early : Write → Bool = λ w. nat_le w.stamp c.args.stamp in
    let writes = c.items.result.now in
    let kept = c.self.invariant in
    let parts = stamps_first c.args.stamp writes (rw c.items.ensures (held-sorted c.self.inside.gone.items c.self.inside.writes.items c.self.inside.point kept.past kept.sorted)) in
    let point = IsPartitionPoint-from_clause early writes c.partition_point-committed.result c.partition_point-committed.ensures.partitioned parts (λ a r f' k. search (rules, tests)) in
    let number = count_by-front early writes c.partition_point-committed.result c.partition_point-committed.ensures.bound point.0 point.1 in
    rw (← c.items.ensures) (sym number ∙ sym (length-filter early writes))

pub invariant_of-self : goal.invariant_of-self
invariant_of-self c =
    let kept = c.self.invariant in
    record {
      sorted = kept.sorted;
      many = kept.many;
      past = All-weaker (λ (write : Write). write.stamp ≤ c.self.inside.point) (λ (write : Write). write.stamp ≤ c.args.stamp) (λ write h. omega (arith, h, rises c))
          c.self.inside.gone.items kept.past;
      committed = count c;
      given_up = omega (arith, count c, kept.committed, kept.given_up, committed-rises c.self.inside.point c.args.stamp c.self.inside.writes.items (rises c));
      counted = kept.counted;
    }

pub returns-clause-count : goal.returns-clause-count
returns-clause-count c =
    let kept = c.self.invariant in
    let inside = c.self.inside in
    rw (← c.self.view_is) (omega (arith, count c, kept.many, committed-length inside.gone.items inside.writes.items inside.point kept.past c.args.stamp (rises c)))
