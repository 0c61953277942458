use Rattle.std.proofs.Common.{arith}
use Rattle.run_record.proofs.RecordReader.{entries_good}
use Rattle.run_record.proofs.get_record.body_at.Goals as goal

pub new-requires : goal.new-requires
new-requires c =
    let exact = rw (c.replicas.ensures.count, c.conits.ensures.count) at c.in_ok-entries.ensures.exact in
    entries_good c.in_ok-config.config c.args.bytes.now c.in_ok-config.place c.in_ok-entries.entries c.in_ok-entries.place (λ i. omega (arith, c.type_inv.bytes i)) exact
