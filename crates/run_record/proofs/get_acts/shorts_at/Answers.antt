use Rattle.std.proofs.Common.{length, sym, arith}
use Rattle.std.proofs.lemmas.Result.{err_from_is_err_and}
use Rattle.run_record.specs.EntriesAt.{shorts_at}
use Rattle.run_record.proofs.Loops.{entry_goes_on, entries_end, tag_fault, entry_fault, entries_run_out}
use Rattle.run_record.proofs.get_acts.shorts_at.Goals as goal

pub returns-in_err-tag-clause-exact : goal.returns-in_err-tag-clause-exact
returns-in_err-tag-clause-exact c =
    let p = err_from_is_err_and c.from_residual.result c.from_residual.ensures.1 in
    let bytes = c.args.bytes.now in
    let total = shorts_at c.args.counts.replicas c.args.counts.conits (length bytes) bytes c.args.start in
    rw (p.1, p.2) (tag_fault c.args.counts.replicas c.args.counts.conits bytes total c.loop-entry.shorts (length bytes) c.loop-entry._entry c.loop-entry.place c.in_err-tag.field-0.0
    (omega arith) (sym c.in_err-tag.ensures.exact) c.loop-entry.invariant.read)

pub returns-then-tag-eq255-clause-exact : goal.returns-then-tag-eq255-clause-exact
returns-then-tag-eq255-clause-exact c =
    let bytes = c.args.bytes.now in
    let total = shorts_at c.args.counts.replicas c.args.counts.conits (length bytes) bytes c.args.start in
    entries_end c.args.counts.replicas c.args.counts.conits bytes total c.loop-entry.shorts (length bytes) c.loop-entry._entry c.loop-entry.place c.in_ok-tag.tag c.in_ok-tag.next
    (omega arith) (sym c.in_ok-tag.ensures.exact) c.if-tag-eq255.true c.loop-entry.invariant.read

pub returns-in_err-short-clause-exact : goal.returns-in_err-short-clause-exact
returns-in_err-short-clause-exact c =
    let p = err_from_is_err_and c.from_residual-in_err-short.result c.from_residual-in_err-short.ensures.1 in
    let bytes = c.args.bytes.now in
    let total = shorts_at c.args.counts.replicas c.args.counts.conits (length bytes) bytes c.args.start in
    rw (p.1, p.2) (entry_fault c.args.counts.replicas c.args.counts.conits bytes total c.in_err-short.field-0.0 c.loop-entry.shorts (length bytes) c.loop-entry._entry c.loop-entry.place c.in_ok-tag.tag c.in_ok-tag.next
    (omega arith) (sym c.in_ok-tag.ensures.exact) c.if-tag-eq255.false c.in_err-short.ensures.exact c.loop-entry.invariant.read)

pub loop-entry-preserved : goal.loop-entry-preserved
loop-entry-preserved c =
    let bytes = c.args.bytes.now in
    let total = shorts_at c.args.counts.replicas c.args.counts.conits (length bytes) bytes c.args.start in
    record {
      within = omega (arith, c.in_ok-short.ensures.within);
      read = rw c.in_ok-push.ensures.ok (entry_goes_on c.args.counts.replicas c.args.counts.conits bytes total c.loop-entry.shorts (length bytes) c.loop-entry._entry c.loop-entry.place c.in_ok-tag.tag c.in_ok-tag.next c.in_ok-short.short c.in_ok-short.next
          (omega arith) (sym c.in_ok-tag.ensures.exact) c.if-tag-eq255.false c.in_ok-short.ensures.exact c.loop-entry.invariant.read);
    }

pub returns-clause-exact : goal.returns-clause-exact
returns-clause-exact c =
    let bytes = c.args.bytes.now in
    let total = shorts_at c.args.counts.replicas c.args.counts.conits (length bytes) bytes c.args.start in
    entries_run_out c.args.counts.replicas c.args.counts.conits bytes total c.loop-entry.shorts (length bytes) c.loop-entry._entry c.loop-entry.place (omega arith) c.loop-entry.invariant.read
