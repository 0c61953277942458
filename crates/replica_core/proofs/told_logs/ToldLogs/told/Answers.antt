use Rattle.std.proofs.Common.{◌≡◌, length, refl, sym, ap, ap₂, ◌∙◌, subst, arith}
use Rattle.std.proofs.lemmas.Result.{IfOk-weaker}
use Rattle.write_log.specs.Logs.{LogState}
use Rattle.replica_core.specs.Told.{ArePieces, pieces_of, told_from}
use Rattle.replica_core.proofs.ToldLemmas.{pieces_told}
use Rattle.replica_core.proofs.told_logs.ToldLogs.told.Goals as goal

pub returns-then-is_of : goal.returns-then-is_of
returns-then-is_of c =
    let logs = c.args.self.now.logs in
    let told = c.index-told.result.now in
    let kept : ArePieces c.self.inside.logs.logs told =
    subst (ArePieces c.self.inside.logs.logs) (sym c.index-told.ensures)
    (c.self.invariant.pieces c.args.to told (omega (arith, c.requires.to, c.self.invariant.sized, c.self.invariant.places, ap (λ (s : LogState). length s.logs) c.self.view_is))) in
    c.in_ok-clone.ensures.cases ∙ kept.writes
    ∙ ap (λ (s : LogState). pieces_of s.logs told.firsts told.ends) c.self.view_is
    ∙ ap₂ (pieces_of logs) (c.if-is_of.ensures.firsts refl) (c.if-is_of.ensures.ends refl)
    ∙ pieces_told logs c.args.firsts.now c.put_ends-count.new.ends c.put_ends-count.ensures.ends

pub returns-then-count-lt-MESSAGE_WRITES : goal.returns-then-count-lt-MESSAGE_WRITES
returns-then-count-lt-MESSAGE_WRITES c =
    c.alone.ensures ∙ c.in_ok-writes.ensures
    ∙ pieces_told c.args.self.now.logs c.args.firsts.now c.put_ends-count.new.ends c.put_ends-count.ensures.ends

pub returns : goal.returns
returns c =
    let is = c.in_ok-writes.ensures ∙ pieces_told c.args.self.now.logs c.args.firsts.now c.put_ends-count.new.ends c.put_ends-count.ensures.ends in
    IfOk-weaker c.new.result (λ writes. writes ≡ c.in_ok-writes.writes) (λ writes. writes ≡ told_from c.args.self.now.logs c.args.firsts.now) (λ writes made. made ∙ is) c.new.ensures
