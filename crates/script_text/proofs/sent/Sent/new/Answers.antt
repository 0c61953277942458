use Rattle.std.proofs.Common.{◌≡◌, refl, arith}
use Rattle.std.proofs.lemmas.Grind.{replicate_next}
use Rattle.script_text.proofs.sent.Sent.new.Goals as goal

pub loop-preserved : goal.loop-preserved
loop-preserved c =
    rw (c.in_ok-push.ensures.items, c.new.ensures, c.loop.invariant, replicate_next) refl

pub returns : goal.returns
returns c =
    let same : c.loop.counter ≡ c.args.replicas = omega arith in
    rw (← same) c.loop.invariant
