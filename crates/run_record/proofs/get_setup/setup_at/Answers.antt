use Rattle.std.proofs.Common.{ℕ, ◌*◌, length, sym, ap, arith}
use Rattle.run_record.specs.declared.parts.Counts.{Counts}
use Rattle.run_record.specs.EntriesAt.{AreCounts}
use Rattle.run_record.proofs.OkParts.{ok_of, part_keeps}
use Rattle.run_record.proofs.SetupRows.{bounds_are_setup}
use Rattle.run_record.proofs.BoundReaders.{bounds_reader}
use Rattle.run_record.proofs.get_setup.setup_at.Goals as goal

pub config_of-requires : goal.config_of-requires
config_of-requires c =
    let bytes = c.args.bytes.now in
    let counts = c.in_ok-counts.counts in
    let good = part_keeps (λ (read : Counts × ℕ). AreCounts read.0) (length bytes) c.counts_at.result (counts, c.in_ok-counts.place) c.counts_at.ensures.counts (sym c.in_ok-counts.ensures) in
    let t = (bounds_reader counts.replicas counts.conits (counts.replicas * counts.conits) 0).taken bytes c.in_ok-counts.place c.in_ok-bounds.bounds c.in_ok-bounds.place (λ i. omega (arith, c.type_inv.bytes i)) (ap ok_of c.in_ok-bounds.ensures.exact) in
    rw c.items.ensures (bounds_are_setup counts c.in_ok-bounds.bounds good t.1.0 t.1.1)
