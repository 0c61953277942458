use Rattle.std.proofs.Common.{◌≡◌, ◌∙◌, refl, sym, rules}
use Rattle.std.proofs.lemmas.Int.{to_z-of_z}
use Rattle.std.specs.Prelude.{FitsSigned}
use Rattle.std.specs.Int.{w64}
use Rattle.run_model.proofs.call.ReplyClone.clone.Goals.{in-Done, in-Granted, in-Released, in-Value+in_ok-clone-in-Value, in-TooHeavy, in-WaitHeld, in-WaitShare, in-WaitLent, in-WaitOrder, in-WaitStale, in-NotHeld}
use Rattle.run_model.proofs.call.ReplyClone.clone.Goals as goal

pub returns : goal.returns
returns c =
    let same = elim c.match-self.branch as (λ b. c.match-self.result ≡ c.args.self.now) [
      | in-Done w ↦ w.result-is ∙ sym w.in-Done.is
      | in-Granted w ↦ w.result-is ∙ sym w.in-Granted.is
      | in-Released w ↦ w.result-is ∙ sym w.in-Released.is
      | in-Value+in_ok-clone-in-Value w ↦
          let fits : FitsSigned w64 w.in-Value.value = search rules in
          rw (w.result-is, w.in_ok-clone-in-Value.ensures.cases, w.in-Value.is) (simp to_z-of_z)
      | in-TooHeavy w ↦ w.result-is ∙ sym w.in-TooHeavy.is
      | in-WaitHeld w ↦ w.result-is ∙ sym w.in-WaitHeld.is
      | in-WaitShare w ↦ w.result-is ∙ sym w.in-WaitShare.is
      | in-WaitLent w ↦ w.result-is ∙ sym w.in-WaitLent.is
      | in-WaitOrder w ↦ w.result-is ∙ sym w.in-WaitOrder.is
      | in-WaitStale w ↦ w.result-is ∙ sym w.in-WaitStale.is
      | in-NotHeld w ↦ w.result-is ∙ sym w.in-NotHeld.is
    ] in
    record { cases = same }
