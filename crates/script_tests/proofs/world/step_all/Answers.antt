use Rattle.std.proofs.Common.{List, [], ◌∷◌, ◌++◌, sym, ap, ◌∙◌}
use Rattle.run_model.specs.declared.script_line.Line.{Line}
use Rattle.script_run.proofs.Played.{front_is, AreFirstLines-next}
use Rattle.script_tests.proofs.world.step_all.Goals as goal

pub step-requires : goal.step-requires
step-requires g c = record {
  first = λ unspent. AreFirstLines-next c.loop-line.world.setup c.args.lines.now c.loop-line.world.lines c.loop-line.line-index c.line-item.result
      c.requires.script c.requires.few c.loop-line.invariant.0 c.loop-line.invariant.1 c.loop-line-test.true c.line-item.is;
}

pub loop-line-preserved : goal.loop-line-preserved
loop-line-preserved g c =
    let invariant = c.loop-line.invariant in (
      c.in-Ok.ensures.setup ∙ invariant.0,
      c.in-Ok.ensures.lines ∙ ap (λ (ls : List Line). ls ++ c.line-item.result ∷ []) invariant.1
          ∙ sym (front_is c.args.lines.now c.loop-line.line-index c.line-item.result c.loop-line-test.true c.line-item.is),
      c.in-Ok.ensures.unspent.1,
    )
