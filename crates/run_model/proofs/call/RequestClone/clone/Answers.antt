use Rattle.std.proofs.Common.{◌≡◌, ◌∙◌, refl, sym}
use Rattle.run_model.proofs.call.RequestClone.clone.Goals.{in-Write+in_ok-clone-in-Write, in-Held, in-Reserve, in-Release, in-Read+in_ok-clone-in-Read}
use Rattle.run_model.proofs.call.RequestClone.clone.Goals as goal

pub returns : goal.returns
returns c =
    let same = elim c.match-self.branch as (λ b. c.match-self.result ≡ c.args.self.now) [
      | in-Write+in_ok-clone-in-Write w ↦ rw (w.result-is, w.in_ok-clone-in-Write.ensures.cases, w.in-Write.is) refl
      | in-Held w ↦ w.result-is ∙ sym w.in-Held.is
      | in-Reserve w ↦ w.result-is ∙ sym w.in-Reserve.is
      | in-Release w ↦ w.result-is ∙ sym w.in-Release.is
      | in-Read+in_ok-clone-in-Read w ↦ rw (w.result-is, w.in_ok-clone-in-Read.ensures.cases, w.in-Read.is) refl
    ] in
    record { cases = same }
