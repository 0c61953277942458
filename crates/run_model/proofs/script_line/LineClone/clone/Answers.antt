use Rattle.std.proofs.Common.{◌≡◌, ◌∙◌, refl, sym}
use Rattle.run_model.proofs.script_line.LineClone.clone.Goals.{in-Start, in-Bound, in-At, in-Write+in_ok-clone-in-Write, in-Held, in-Reserve, in-Release, in-Read+in_ok-clone-in-Read, in-Send+in_ok-clone-in-Send, in-Take, in-Sync, in-Lend, in-Back, in-Restart, in-Show, in-Ref}
use Rattle.run_model.proofs.script_line.LineClone.clone.Goals as goal

pub returns : goal.returns
returns c =
    let same = elim c.match-self.branch as (λ b. c.match-self.result ≡ c.args.self.now) [
      | in-Start w ↦ w.result-is ∙ sym w.in-Start.is
      | in-Bound w ↦ w.result-is ∙ sym w.in-Bound.is
      | in-At w ↦ w.result-is ∙ sym w.in-At.is
      | in-Write+in_ok-clone-in-Write w ↦ rw (w.result-is, w.in_ok-clone-in-Write.ensures.cases, w.in-Write.is) refl
      | in-Held w ↦ w.result-is ∙ sym w.in-Held.is
      | in-Reserve w ↦ w.result-is ∙ sym w.in-Reserve.is
      | in-Release w ↦ w.result-is ∙ sym w.in-Release.is
      | in-Read+in_ok-clone-in-Read w ↦ rw (w.result-is, w.in_ok-clone-in-Read.ensures.cases, w.in-Read.is) refl
      | in-Send+in_ok-clone-in-Send w ↦ rw (w.result-is, w.in_ok-clone-in-Send.ensures.cases, w.in-Send.is) refl
      | in-Take w ↦ w.result-is ∙ sym w.in-Take.is
      | in-Sync w ↦ w.result-is ∙ sym w.in-Sync.is
      | in-Lend w ↦ w.result-is ∙ sym w.in-Lend.is
      | in-Back w ↦ w.result-is ∙ sym w.in-Back.is
      | in-Restart w ↦ w.result-is ∙ sym w.in-Restart.is
      | in-Show w ↦ w.result-is ∙ sym w.in-Show.is
      | in-Ref w ↦ w.result-is ∙ sym w.in-Ref.is
    ] in
    record { cases = same }
