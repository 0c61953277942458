use Rattle.std.proofs.Common.{◌≡◌, ℕ, ◌-◌, ◌++◌, List, take, drop, length, sym, ap, ap₂, ◌∙◌, arith}
use Rattle.std.proofs.Math.Seq.{drop-append_seam}
use Rattle.std.proofs.lemmas.List.{drop-drop}
use Rattle.tact_base.specs.declared.write.Write.{Write}
use Rattle.write_log.specs.OneLog.{OneLog}
use Rattle.write_log.proofs.log.Log.slice.Goals as goal

pub returns : goal.returns
returns c =
    let gone : List Write = c.self.inside.gone.items in
    let held : List Write = c.self.inside.held.items in
    let start : ℕ = c.args.first - c.self.inside.dropped in
    let base = ap (λ (log : OneLog). log.base) c.self.view_is in
    let past : drop start held ≡ drop c.args.first (gone ++ held) =
    ap (drop start) (sym (drop-append_seam gone held))
    ∙ drop-drop start (length gone) (gone ++ held)
    ∙ ap (λ (n : ℕ). drop n (gone ++ held)) (omega (arith, c.self.invariant.many, c.self.invariant.above, c.requires.base, base)) in
    ap₂ (λ (n : ℕ) (ws : List Write). take n ws) (omega arith)
    (ap (drop start) c.items.ensures ∙ past ∙ ap (λ (log : OneLog). drop c.args.first log.all) c.self.view_is)
