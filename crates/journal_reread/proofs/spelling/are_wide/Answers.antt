use Rattle.std.proofs.Common.{◌≡◌, ℕ, suc, ◌+◌, rules, ℤ, pos, get_or, FitsSigned, All, take, sym, subst, arith}
use Rattle.std.proofs.Math.Seq.{take-suc}
use Rattle.std.proofs.lemmas.List.{take_all}
use Rattle.std.proofs.lemmas.List.Elements.{All-append}
use Rattle.tact_base.proofs.ListLemmas.{All-one}
use Rattle.std.specs.Int.{w64}
use Rattle.journal_reread.proofs.spelling.are_wide.Goals as goal

pub loop-sum-preserved : goal.loop-sum-preserved
loop-sum-preserved c =
    let Wide : ℤ → Type 0 = λ (sum : ℤ). FitsSigned w64 sum in
    let sums = c.args.sums.now in
    let at = c.loop-sum.sum-index in
    let next : suc at ≡ at + 1 = omega arith in
    let fits : FitsSigned w64 (get_or sums at (pos 0)) = search rules in
    subst (λ (n : ℕ). All Wide (take n sums)) next
    (subst (All Wide) (sym (take-suc sums at (pos 0) c.loop-sum-test.true)) (All-append Wide (take at sums) _ c.loop-sum.invariant (All-one Wide (get_or sums at (pos 0)) fits)))

pub returns : goal.returns
returns c =
    let Wide : ℤ → Type 0 = λ (sum : ℤ). FitsSigned w64 sum in
    subst (All Wide) (take_all c.loop-sum.sum-index c.args.sums.now (omega (arith, c.loop-sum-test.false))) c.loop-sum.invariant
