use Rattle.script_run.proofs.Opening.{opens}
use Rattle.std.proofs.Common.{ap, ◌∙◌, arith, refl, replicate, []}
use Rattle.run_model.specs.declared.entry.Act.TheVariants as act
use Rattle.script_run.proofs.stage.Stage.new.Goals as goal

pub returns-clause-keeps : goal.returns-clause-keeps
returns-clause-keeps c =
    opens (record {
      set = c.in_ok-new.field-0;
      book = c.in_ok-new-2.field-0;
      history = c.new-4.result;
      sent = c.loop-replica.sent;
      handed = 0;
      zeros = c.in_ok-filled.field-0;
      prints = c.args.prints;
      calling = record { replica = 0; moment = 0; act = act.Restart };
    }) c.args.config.now c.in_ok-new.ensures.setup c.new-4.ensures refl c.in_ok-new.ensures.stands
    (c.loop-replica.invariant ∙ ap (λ n. replicate n []) (omega (arith, c.replicas-replica-end.ensures.count)))
    (c.in_ok-filled.ensures ∙ ap (λ n. replicate n 0) c.replicas.ensures.count)
    c.in_ok-new-2.ensures
