use Rattle.std.proofs.Common.{◌≡◌, ◌++◌, List, Option, ap, ◌∙◌, subst}
use Rattle.std.specs.Prelude.{IfSome}
use Rattle.std.specs.List.{flat_map, All}
use Rattle.std.proofs.lemmas.List.{append-nil}
use Rattle.tact_base.specs.declared.write.Write.{Write}
use Rattle.run_check.specs.declared.kept.Span.{Span}
use Rattle.run_check.specs.Keeping.{writes_of, IsSpanIn}
use Rattle.run_check.proofs.kept.kept_of.Goals as goal

pub returns-clause-placed : goal.returns-clause-placed
returns-clause-placed c =
    subst (λ (found : Option (List Span)). IfSome found (All (IsSpanIn c.spans_of.new.written.items))) c.in-Ok-Some.field-0-is c.in-Ok-Some.ensures.within

pub returns-clause-ok : goal.returns-clause-ok
returns-clause-ok c =
    let at = flat_map (writes_of c.spans_of.new.written.items) c.in-Ok-Some.spans in
    let found : at ≡ c.args.message.writes =
    subst (λ (found : Option (List Span)). IfSome found (λ spans. flat_map (writes_of c.spans_of.new.written.items) spans ≡ c.items.result.now)) c.in-Ok-Some.field-0-is c.in-Ok-Some.ensures.ok
    ∙ c.items.ensures in
    ap (λ (own : List Write). record c.args.message { writes = at ++ own }) c.empty.ensures
    ∙ ap (λ (writes : List Write). record c.args.message { writes = writes }) (append-nil at ∙ found)
