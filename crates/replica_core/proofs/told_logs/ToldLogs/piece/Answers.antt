use Rattle.std.proofs.Common.{◌≡◌, ℕ, ◌+◌, ◌-◌, take, drop, slice_range, sym, ap, ◌∙◌, arith}
use Rattle.std.proofs.lemmas.List.{drop-take}
use Rattle.write_log.specs.Logs.{LogState, log_of}
use Rattle.replica_core.proofs.told_logs.ToldLogs.piece.Goals as goal

pub returns : goal.returns
returns c =
    let log = log_of c.args.self.now c.args.origin in
    let first = c.args.first in
    let count = c.args.end - first in
    let end : first + count ≡ c.args.end = omega (arith, c.if-end-first.false) in
    let many : first + count - first ≡ count = omega arith in
    c.slice.ensures
    ∙ ap (λ (s : LogState). slice_range (log_of s c.args.origin) first (first + count)) c.self.view_is
    ∙ ap (λ (n : ℕ). take n (drop first log)) many
    ∙ sym (drop-take first count log)
    ∙ ap (λ (n : ℕ). drop first (take n log)) end
