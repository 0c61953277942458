use Rattle.std.proofs.Common.{◌≡◌, ◌+◌, suc, sym, arith}
use Rattle.std.proofs.lemmas.Result.{err_from_is_err_and}
use Rattle.tact_base.specs.declared.write.Write.{Write}
use Rattle.run_model.proofs.ListLoop.{goes_on, ends, is_done}
use Rattle.tact_msg.specs.Faults.{behind}
use Rattle.tact_msg.specs.MessageBytes.{write_at, writes_of_at}
use Rattle.tact_msg.proofs.Loops.{field_fault, fault_behind}
use Rattle.tact_msg.proofs.get_writes.push_writes_of.Goals as goal

pub returns-in_err-write-clause-err : goal.returns-in_err-write-clause-err
returns-in_err-write-clause-err c =
    let p = err_from_is_err_and c.from_residual.result c.from_residual.ensures.1 in
    let told = c.args.told.now in
    let read = writes_of_at c.args.conits told c.args.bytes.now c.args.start in
    let item = write_at c.args.conits told.origin in
    let whole = ends item (λ (write : Write). suc write.index) c.loop-done.writes told.count c.loop-done.done
    (told.first + c.loop-done.done) c.args.bytes.now c.loop-done.place c.in_err-write.field-0.0
    (behind c.args.writes.now read) (omega arith) (rw c.from.ensures at (sym c.in_err-write.ensures.exact)) c.loop-done.invariant.read in
    rw (p.1, p.2) (field_fault read c.in_err-write.field-0.0 (fault_behind c.args.writes.now read c.in_err-write.field-0.0 whole))

pub loop-done-preserved : goal.loop-done-preserved
loop-done-preserved c =
    let told = c.args.told.now in
    let item = write_at c.args.conits told.origin in
    let write = c.in_ok-write.write in
    let next_index : suc write.index ≡ told.first + (c.loop-done.done + 1) = omega (arith, c.in_ok-write.ensures.within) in
    record {
      within = omega (arith, c.in_ok-write.ensures.within);
      read = rw (c.in_ok-push.ensures.ok, ← next_index) (goes_on item (λ (write : Write). suc write.index) c.loop-done.writes told.count c.loop-done.done
          (told.first + c.loop-done.done) c.args.bytes.now c.loop-done.place write c.in_ok-write.next
          (behind c.args.writes.now (writes_of_at c.args.conits told c.args.bytes.now c.args.start)) (omega arith) (rw c.from.ensures at (sym c.in_ok-write.ensures.exact)) c.loop-done.invariant.read);
    }

pub returns-clause-ok : goal.returns-clause-ok
returns-clause-ok c =
    let told = c.args.told.now in
    is_done (write_at c.args.conits told.origin) (λ (write : Write). suc write.index) c.loop-done.writes told.count c.loop-done.done (told.first + c.loop-done.done) c.args.bytes.now c.loop-done.place
    (behind c.args.writes.now (writes_of_at c.args.conits told c.args.bytes.now c.args.start)) (omega arith) c.loop-done.invariant.read
