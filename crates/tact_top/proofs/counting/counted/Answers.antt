use Rattle.std.proofs.Common.{◌≡◌, ℕ, ◌+◌, sym, ap, ◌∙◌}
use Rattle.std.proofs.lemmas.Result.{IfOk-weaker}
use Rattle.run_model.specs.declared.entry.Entry.{Entry}
use Rattle.tact_top.proofs.DrillLemmas.{count_more_yes, count_more_no}
use Rattle.tact_top.proofs.counting.counted.Goals as goal

pub returns-then-is : goal.returns-then-is
returns-then-is g c =
    IfOk-weaker c.one_more.result (λ more. more ≡ c.args.count + 1) _
    (λ more next history same.
    next
    ∙ ap (λ (n : ℕ). n + 1) same
    ∙ sym (count_more_yes (λ (e : Entry). g.K.Kind.kind e.act) history c.args.entry.now (sym c.is.ensures ∙ c.if-is.true)))
    c.one_more.ensures

pub returns-else-is : goal.returns-else-is
returns-else-is g c = λ history same.
    same ∙ sym (count_more_no (λ (e : Entry). g.K.Kind.kind e.act) history c.args.entry.now (sym c.is.ensures ∙ c.if-is.false))
