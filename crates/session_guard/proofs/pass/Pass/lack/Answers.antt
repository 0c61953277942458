use Rattle.std.proofs.Common.{ℕ, ap, sym, ◌∙◌, arith}
use Rattle.std.proofs.Common.{get_or, Some}
use Rattle.session_guard.proofs.PassLemmas.{lack_of-first, lack_of-none}
use Rattle.session_guard.specs.declared.steps.Visit.TheVariants as visit
use Rattle.session_guard.proofs.pass.Pass.lack.Goals as goal

pub returns-then-have-wanted : goal.returns-then-have-wanted
returns-then-have-wanted c =
    let origin = c.loop-origin.origin in
    let haves = c.args.haves.now in
    ap (λ (wanted : ℕ). Some (visit.Behind origin (get_or haves origin 0) wanted)) c.wanted-wanted.ensures
    ∙ sym (lack_of-first haves c.args.self.now origin
    (omega (arith, c.loop-origin-test.true, c.replicas-origin-end.ensures.count, c.requires)) (omega (arith, c.if-have-wanted.true, c.wanted-wanted.ensures)) c.loop-origin.invariant)

pub returns : goal.returns
returns c =
    sym (lack_of-none c.args.haves.now c.args.self.now
    (λ k within. c.loop-origin.invariant k (omega (arith, within, c.loop-origin-test.false, c.replicas-origin-end.ensures.count, c.requires))))
