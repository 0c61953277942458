use Rattle.std.proofs.Common.{◌≡◌, false, ◌∷◌, [], ◌++◌, sym, subst}
use Rattle.run_model.specs.ScriptRuns.{Played}
use Rattle.script_run.specs.Stages.{IsReadyFor, setup_in}
use Rattle.script_run.specs.Worlds.{WorldState, AreFirstLines, HasPlayed}
use Rattle.script_run.proofs.Fronts.{next_is_ready}
use Rattle.script_run.proofs.world.World.step.Goals as goal

pub step-requires-clause-ready : goal.step-requires-clause-ready
step-requires-clause-ready c =
    let inside = c.self.inside in
    let line = c.args.line.now in
    let first : AreFirstLines (setup_in inside.stage) (inside.lines.items ++ line ∷ []) =
    subst (λ (w : WorldState). w.spent ≡ false → AreFirstLines w.setup (w.lines ++ line ∷ [])) (sym c.self.view_is) c.requires.first c.if-self.false in
    let has : HasPlayed inside.stage inside.entries inside.lines.items = c.self.invariant c.if-self.false in
    subst (λ (p : Played). IsReadyFor (setup_in inside.stage) p.history line) (sym has.played)
    (next_is_ready (setup_in inside.stage) inside.lines.items line first)
