use Rattle.std.proofs.Common.{refl, sym, ◌∙◌, subst}
use Rattle.replica_lock.specs.declared.resuming.Resumed.{Resumed}
use Rattle.steady_node.specs.Lost.{IsDueBack}
use Rattle.steady_node.specs.Settled.{IsResumedAs}
use Rattle.steady_node.specs.declared.settling.Outcome.TheVariants as outcome
use Rattle.steady_node.proofs.Sames.{other_request, same_request}
use Rattle.steady_node.proofs.settling.as_asked.Goals as goal

pub returns-then-eq-clause-same : goal.returns-then-eq-clause-same
returns-then-eq-clause-same c =
    let asked = c.args.asked.now in
    subst (λ (told : Resumed). IsResumedAs asked told (outcome.Stands c.in-Stands.reply c.in-Stands.allowance)) (sym c.in-Stands.is)
    (same_request c.in-Stands.request asked (sym c.eq.ensures ∙ c.if-eq.true), refl, refl)

pub returns-else-eq-clause-other : goal.returns-else-eq-clause-other
returns-else-eq-clause-other c =
    let asked = c.args.asked.now in (
      c.lost.ensures,
      λ node due. other_request c.in-Stands.request asked (sym c.eq.ensures ∙ c.if-eq.false) (subst (IsDueBack node asked) c.in-Stands.is due).0,
    )
