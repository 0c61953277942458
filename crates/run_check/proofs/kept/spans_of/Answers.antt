use Rattle.std.proofs.Common.{◌-◌, List, Option, [], ◌∷◌, ◌++◌, length, take, drop, sym, subst}
use Rattle.std.specs.Prelude.{IfSome}
use Rattle.std.proofs.lemmas.List.{take_rest}
use Rattle.tact_base.specs.declared.write.Write.{Write}
use Rattle.run_check.specs.declared.kept.Span.{Span}
use Rattle.run_check.specs.Keeping.{IsSpanOf}
use Rattle.run_check.proofs.Spans.{AreSpansUpTo, one_more}
use Rattle.run_check.proofs.kept.spans_of.Goals as goal

pub loop-rest-preserved : goal.loop-rest-preserved
loop-rest-preserved c =
    let first = c.args.written.now.items in
    let after = c.span_of.new.written.items in
    let rest = c.loop-rest.rest.now in
    let span = c.in-Some.span in
    let writes = c.args.writes.now in
    let is : IsSpanOf after rest span =
    subst (λ (found : Option Span). IfSome found (IsSpanOf after rest)) c.in-Some.is c.in_ok-span.ensures.ok in
    let next = one_more first c.loop-rest.written.items after c.loop-rest.spans rest writes span c.loop-rest.invariant c.span_of.ensures.grown is in
    let left = take (length rest - (span.past - span.first)) (drop (span.past - span.first) rest) in
    subst (λ (spans : List Span). AreSpansUpTo first after spans left writes) (sym c.in_ok-push-in-Some.ensures.ok)
    (subst (λ (others : List Write). AreSpansUpTo first after (c.loop-rest.spans ++ span ∷ []) others writes) (sym (take_rest rest (span.past - span.first))) next)
