use Rattle.std.proofs.Common.{ℕ, [], refl, ap, ◌∙◌}
use Rattle.std.specs.Prelude.{replicate}
use Rattle.script_text.proofs.Begun.{begun_is}
use Rattle.script_text.proofs.reader.begun.Goals as goal

pub returns-clause-reading : goal.returns-clause-reading
returns-clause-reading c =
    begun_is _ c.args.line (c.in_ok-lines.ensures) c.requires refl
    (c.in_ok-sent.ensures ∙ ap (λ (n : ℕ). replicate n []) c.replicas.ensures.count)
