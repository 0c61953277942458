use Rattle.std.proofs.Common.{rules, tests, ◌==◌, Bool, sym}
use Rattle.std.proofs.lemmas.Bool.{ne_eqb, eq-eqb}
use Rattle.std.proofs.lemmas.List.Sorted.{IsPartitionPoint-from_clause}
use Rattle.tact_base.specs.declared.write.Write.{Write}
use Rattle.commit_order.proofs.Partitions.{count_by-front}
use Rattle.replica_core.proofs.FrontCounts.{count-to_last, count-from_first}
use Rattle.replica_core.proofs.replica.taking.count_of.Goals as goal

pub returns-then-last-origin : goal.returns-then-last-origin
returns-then-last-origin c =
    let of_origin : Write → Bool = λ write. write.origin == c.args.origin in
    sym (count-to_last of_origin c.args.writes.now c.requires c.in-Some.last.now (sym c.in-Some.ensures.value) (eq-eqb _ c.args.origin c.if-last-origin.true))

pub returns-then-writes-origin : goal.returns-then-writes-origin
returns-then-writes-origin c =
    let of_origin : Write → Bool = λ write. write.origin == c.args.origin in
    sym (count-from_first of_origin c.args.writes.now c.requires c.index-writes-0.result (ne_eqb _ c.args.origin c.if-writes-origin.true))

pub returns : goal.returns
returns c =
    let writes = c.args.writes.now in
    let of_origin : Write → Bool = λ write. write.origin == c.args.origin in
    let found = c.partition_point.ensures in
    let point = IsPartitionPoint-from_clause of_origin writes c.partition_point.result found.partitioned c.requires (λ a r f' k. search (rules, tests)) in
    sym (count_by-front of_origin writes c.partition_point.result found.bound point.0 point.1)
