use Rattle.std.proofs.Common.{◌≡◌, ◌<◌, List, [], length, take, Some, sym, ap, ◌∙◌, subst, subst₂, arith}
use Rattle.std.specs.List.{slice_get}
use Rattle.tact_base.specs.Setup.{Setup}
use Rattle.run_promises.proofs.Kept.{IsKept-run}
use Rattle.run_record.specs.declared.short.Short.{Short}
use Rattle.run_check.specs.declared.refusal.Refusal.{Refusal}
use Rattle.run_check.specs.Expanded.{with_short, expanded}
use Rattle.run_check.specs.Checking.{AreSent, HasPassed, IsRefusalOf}
use Rattle.run_check.specs.Verdicts.{AreLawful, IsFirstBad, summary_of}
use Rattle.run_check.proofs.AtReplica.{item_at}
use Rattle.run_check.proofs.Going.{goes_from_start, goes_on, bad_here, all_lawful}
use Rattle.run_check.proofs.NoFailure.{bad_is_no_record}
use Rattle.run_check.proofs.Records.{lawful_is_record}
use Rattle.run_check.proofs.check.check_record.Goals as goal

pub loop-place-init : goal.loop-place-init
loop-place-init c =
    let same = c.in_ok-checker.ensures.setup ∙ c.config.ensures in
    goes_from_start c.args.held.now c.in_ok-checker.checker.set c.in_ok-checker.checker.sent same c.in_ok-checker.ensures.follow
    (subst (λ (s : Setup). AreSent s.replicas [] c.in_ok-checker.checker.sent) c.config.ensures c.in_ok-checker.ensures.sent)

-- the first bad entry
bad_at : (c : goal.After-drop-checker-in-Err-Unlawful-4) → IsFirstBad c.args.held.now c.loop-place.place c.in-Err-Unlawful.cause
bad_at c =
    let held = c.args.held.now in
    let place = c.loop-place.place in
    let within : place < length held.entries = omega (arith, ap length c.entries-entries.ensures.entries) in
    let there = item_at held.entries place within in
    let found : slice_get c.entries-entries.result.now place ≡ Some there.0 = ap (λ (es : List Short). slice_get es place) c.entries-entries.ensures.entries ∙ there.1 in
    let refused = subst₂ (λ (s : Setup) (es : List Short). IsRefusalOf s (expanded s (take place es)) there.0 c.in-Err-Unlawful.field-0)
    c.loop-place.invariant.setup_same c.entries-entries.ensures.entries (c.in-Err-Unlawful.ensures.err there.0 found) in
    bad_here held place there.0 there.1 c.loop-place.checker.set c.loop-place.checker.sent c.in-Err-Unlawful.cause c.loop-place.invariant
    (subst (λ (r : Refusal). IsRefusalOf held.setup (expanded held.setup (take place held.entries)) there.0 r) c.in-Err-Unlawful.field-0-is refused)

pub returns-in-Err-Unlawful-clause-verdict : goal.returns-in-Err-Unlawful-clause-verdict
returns-in-Err-Unlawful-clause-verdict c = subst (IsFirstBad c.args.held.now c.loop-place.place) (sym c.in-Err-Unlawful.cause-is) (bad_at c)

pub returns-in-Err-Unlawful-clause-runs : goal.returns-in-Err-Unlawful-clause-runs
returns-in-Err-Unlawful-clause-runs c =
    λ history. bad_is_no_record c.args.held.now c.loop-place.place c.in-Err-Unlawful.cause history (bad_at c)

pub loop-place-preserved : goal.loop-place-preserved
loop-place-preserved c =
    let held = c.args.held.now in
    let place = c.loop-place.place in
    let within : place < length held.entries = omega (arith, ap length c.entries-entries.ensures.entries) in
    let there = item_at held.entries place within in
    let found : slice_get c.entries-entries.result.now place ≡ Some there.0 = ap (λ (es : List Short). slice_get es place) c.entries-entries.ensures.entries ∙ there.1 in
    goes_on held place there.0 there.1 c.loop-place.checker.set c.judge.new.self.set c.loop-place.checker.sent c.judge.new.self.sent c.loop-place.invariant
    (subst₂ (λ (s : Setup) (es : List Short). HasPassed s (expanded s (take place es)) there.0 c.judge.new.self.set)
    c.loop-place.invariant.setup_same c.entries-entries.ensures.entries (c.in-Ok.ensures.ok there.0 found))
    (subst₂ (λ (s : Setup) (es : List Short). AreSent s.replicas (with_short s (expanded s (take place es)) there.0) c.judge.new.self.sent)
    c.loop-place.invariant.setup_same c.entries-entries.ensures.entries (c.in-Ok.ensures.sent there.0 found))

-- each entry is lawful
all_are : (c : goal.After-drop-checker-6) → AreLawful c.args.held.now.setup c.args.held.now.entries
all_are c =
    all_lawful c.args.held.now c.loop-place.checker.set c.loop-place.checker.sent c.loop-place.place
    (omega (arith, ap length c.entries-entries.ensures.entries)) c.loop-place.invariant

pub returns-clause-verdict : goal.returns-clause-verdict
returns-clause-verdict c = (all_are c, c.summary_of.ensures ∙ ap summary_of c.entries-entries.ensures.entries)

pub returns-clause-runs : goal.returns-clause-runs
returns-clause-runs c =
    let held = c.args.held.now in
    let record_is = lawful_is_record held (all_are c) in
    (record_is, IsKept-run held.setup (expanded held.setup held.entries) c.entries-entries.ensures.held.setup record_is.0)
