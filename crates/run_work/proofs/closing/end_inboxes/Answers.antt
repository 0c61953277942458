use Rattle.std.proofs.Common.{◌≡◌, ℕ, ◌+◌, ◌<◌, List, [], ◌∷◌, ◌++◌, length, get_or, map, ap, ap₂, sym, ◌∙◌, subst, ⊎_elim, arith}
use Rattle.std.proofs.lemmas.Bool.{cases_lt}
use Rattle.std.proofs.lemmas.List.{append_assoc, get_or_append_left, get_or_push, length_push, map-append}
use Rattle.link_faults.specs.Inboxes.{InboxState}
use Rattle.link_faults.specs.declared.plan.LinkPlan.{LinkPlan}
use Rattle.run_history.specs.Seats.{DeskView}
use Rattle.locked_replica.specs.Parcels.{ParcelView}
use Rattle.postbox.specs.Posts.{AreFor, PostboxView}
use Rattle.run_work.specs.Sites.{IsInboxAt}
use Rattle.run_work.proofs.Ended.{all_there}
use Rattle.run_work.proofs.closing.end_inboxes.Goals as goal

-- what waits in each inbox is for it
ended_more : (boxes : List PostboxView) (inboxes : List (InboxState ParcelView)) (box : PostboxView) (inbox : InboxState ParcelView)
    → length inboxes ≡ length boxes
    → AreFor box.desk box.to inbox.waiting
    → ((replica : ℕ) (no_box : PostboxView) (none : InboxState ParcelView) → replica < length inboxes
    → AreFor (get_or boxes replica no_box).desk (get_or boxes replica no_box).to (get_or inboxes replica none).waiting)
    → (replica : ℕ) (no_box : PostboxView) (none : InboxState ParcelView) → replica < length (inboxes ++ inbox ∷ [])
    → AreFor (get_or (boxes ++ box ∷ []) replica no_box).desk (get_or (boxes ++ box ∷ []) replica no_box).to (get_or (inboxes ++ inbox ∷ []) replica none).waiting
ended_more boxes inboxes box inbox size one all replica no_box none within =
    ⊎_elim
    (λ (below : replica < length inboxes).
    let inside : replica < length boxes = omega (arith, size, below) in
    subst (λ (b : PostboxView). AreFor b.desk b.to (get_or (inboxes ++ inbox ∷ []) replica none).waiting) (sym (get_or_append_left boxes (box ∷ []) no_box replica inside))
    (subst (λ (i : InboxState ParcelView). AreFor (get_or boxes replica no_box).desk (get_or boxes replica no_box).to i.waiting) (sym (get_or_append_left inboxes (inbox ∷ []) none replica below))
    (all replica no_box none below)))
    (λ above.
    let last : length inboxes ≡ replica = omega (arith, length_push inboxes inbox, within, above) in
    subst (λ (b : PostboxView). AreFor b.desk b.to (get_or (inboxes ++ inbox ∷ []) replica none).waiting) (sym (get_or_push boxes box no_box replica (sym size ∙ last)))
    (subst (λ (i : InboxState ParcelView). AreFor box.desk box.to i.waiting) (sym (get_or_push inboxes inbox none replica last)) one))
    (cases_lt replica (length inboxes))

-- the same list of keys, one further
keys_rest : {A : Type 0} (one other : A) (rest more : List A) → one ∷ rest ≡ other ∷ more → rest ≡ more
keys_rest one other rest more same = cc

-- with one inbox for each box, of a desk and its replica
parcels_for : (desk : DeskView) (boxes : List PostboxView) (inboxes : List (InboxState ParcelView))
    → length inboxes ≡ length boxes
    → ((replica : ℕ) (none : PostboxView) → replica < length boxes → IsInboxAt desk replica (get_or boxes replica none))
    → ((replica : ℕ) (no_box : PostboxView) (none : InboxState ParcelView) → replica < length inboxes
    → AreFor (get_or boxes replica no_box).desk (get_or boxes replica no_box).to (get_or inboxes replica none).waiting)
    → (replica : ℕ) (none : InboxState ParcelView) → replica < length inboxes
    → AreFor desk.table replica (get_or inboxes replica none).waiting
parcels_for desk [] inboxes size at all replica none within = absurd (omega (arith, size, within))
parcels_for desk (box ∷ boxes) inboxes size at all replica none within =
    let inside : replica < length (box ∷ boxes) = omega (arith, size, within) in
    let is = at replica box inside in
    let one : PostboxView = get_or (box ∷ boxes) replica box in
    subst (λ table. AreFor table replica (get_or inboxes replica none).waiting) is.0
    (subst (λ (to : ℕ). AreFor one.desk to (get_or inboxes replica none).waiting) is.1 (all replica box none within))

pub loop-inbox-preserved : goal.loop-inbox-preserved
loop-inbox-preserved g c =
    let before : List PostboxView = c.loop-inbox.yielded in
    let box : PostboxView = c.in-Some.inbox in
    let ended : List (InboxState ParcelView) = c.loop-inbox.ended.items in
    let inbox : InboxState ParcelView = c.end.result in
    record {
      all = append_assoc before (box ∷ []) c.next.new.self.rest.items ∙ ap (λ (items : List PostboxView). before ++ items) (sym c.in-Some.ensures.steps.0) ∙ c.loop-inbox.invariant.all;
      keys = keys_rest c.in-Some-next.key box.cell c.next-in-loop-inbox.new.self.rest.items (map (λ (b : PostboxView). b.cell) c.next.new.self.rest.items)
          (sym c.in-Some-next.ensures.items ∙ c.loop-inbox.invariant.keys ∙ ap (map (λ (b : PostboxView). b.cell)) c.in-Some.ensures.steps.0);
      plans = ap (map (λ (i : InboxState ParcelView). i.plan)) c.in_ok-push.ensures.items
          ∙ map-append (λ (i : InboxState ParcelView). i.plan) ended (inbox ∷ [])
          ∙ ap₂ (λ (plans : List LinkPlan) (plan : LinkPlan). plans ++ plan ∷ []) c.loop-inbox.invariant.plans c.end.ensures.plan
          ∙ sym (map-append (λ (b : PostboxView). b.plan) before (box ∷ []));
      count = ap length c.in_ok-push.ensures.items ∙ length_push ended inbox ∙ ap (λ (k : ℕ). k + 1) c.loop-inbox.invariant.count ∙ sym (length_push before box);
      ended = subst (λ (all : List (InboxState ParcelView)). (replica : ℕ) (no_box : PostboxView) (none : InboxState ParcelView) → replica < length all
          → AreFor (get_or (before ++ box ∷ []) replica no_box).desk (get_or (before ++ box ∷ []) replica no_box).to (get_or all replica none).waiting) (sym c.in_ok-push.ensures.items)
          (ended_more before ended box inbox c.loop-inbox.invariant.count c.end.ensures.parcels c.loop-inbox.invariant.ended);
    }

pub returns-clause-plans : goal.returns-clause-plans
returns-clause-plans g c =
    let all : c.loop-inbox.yielded ≡ c.args.inboxes.items =
    all_there c.loop-inbox.yielded c.loop-inbox.inbox-iterator.rest.items c.args.inboxes.items c.loop-inbox.invariant.all (omega (arith, c.in-None.ensures.steps.0)) in
    c.loop-inbox.invariant.plans ∙ ap (map (λ (b : PostboxView). b.plan)) all

pub returns-clause-inboxes : goal.returns-clause-inboxes
returns-clause-inboxes g c =
    λ desk at.
    let boxes : List PostboxView = c.args.inboxes.items in
    let ended : List (InboxState ParcelView) = c.loop-inbox.ended.items in
    let all : c.loop-inbox.yielded ≡ boxes =
    all_there c.loop-inbox.yielded c.loop-inbox.inbox-iterator.rest.items boxes c.loop-inbox.invariant.all (omega (arith, c.in-None.ensures.steps.0)) in
    let count : length ended ≡ length boxes = c.loop-inbox.invariant.count ∙ ap length all in (
      count,
      record {
        parcels = parcels_for desk boxes ended count at
            (subst (λ (yielded : List PostboxView). (replica : ℕ) (no_box : PostboxView) (none : InboxState ParcelView) → replica < length ended
            → AreFor (get_or yielded replica no_box).desk (get_or yielded replica no_box).to (get_or ended replica none).waiting) all c.loop-inbox.invariant.ended);
      },
    )
