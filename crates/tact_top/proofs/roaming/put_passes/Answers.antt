use Rattle.std.proofs.Common.{ℕ, List, ◌≡◌, ◌++◌, append_assoc, sym, ap, ◌∙◌}
use Rattle.std.specs.List.{flat_map, range_with_len}
use Rattle.tact_base.proofs.RangeLists.{flat_map_range_more}
use Rattle.session_guard.specs.Passes.{PassState}
use Rattle.session_guard.specs.Roaming.{pass_at}
use Rattle.session_guard.specs.Roams.{roamed_by}
use Rattle.tact_top.specs.RoamText.{pass_text}
use Rattle.tact_top.proofs.roaming.put_passes.Goals as goal

pub loop-number-preserved : goal.loop-number-preserved
loop-number-preserved c =
    let l = c.loop-number in
    let line = λ (number : ℕ). pass_text (pass_at (roamed_by c.args.roam.now).passes number) number in
    c.in_ok-put_pass.ensures
    ∙ ap (λ (pass : PassState). l.out ++ pass_text pass l.number) c.pass.ensures
    ∙ ap (λ (text : List ℕ). text ++ line l.number) l.invariant
    ∙ append_assoc c.args.out.now (flat_map line (range_with_len 0 l.number)) (line l.number)
    ∙ ap (λ (text : List ℕ). c.args.out.now ++ text) (sym (flat_map_range_more line l.number))
