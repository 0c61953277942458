use Rattle.std.proofs.Common.{◌≡◌, ℕ, ◌+◌, List, [], ◌∷◌, ◌++◌, get_or, length, ap, sym, ◌∙◌, subst, arith}
use Rattle.std.proofs.lemmas.List.{append_assoc, length_push}
use Rattle.run_history.specs.Seats.{ClerkView, DeskView}
use Rattle.link_faults.specs.Plans.{no_faults}
use Rattle.tact_base.specs.Setup.{IsSetup, Setup}
use Rattle.tact_base.proofs.SetupLemmas.{HasCounts-from_IsSetup}
use Rattle.run_work.specs.Sites.{IsInboxAt, IsNodeAt}
use Rattle.run_work.proofs.Ended.{all_there}
use Rattle.run_work.proofs.Opening.{IsOpening-more, fresh_at, fresh_count, numbered_opening}
use Rattle.run_work.proofs.seat.open.Goals as goal

pub open_at-requires-clause-replica : goal.open_at-requires-clause-replica
open_at-requires-clause-replica g c =
    let desk : DeskView = c.args.desk.now in
    let fresh = fresh_at desk.table desk.setup.replicas c.loop-clerk.yielded c.next.new.self.rest.items c.args.clerks.items c.in-Some.clerk
    (ap (λ (items : List ClerkView). c.loop-clerk.yielded ++ items) (sym c.in-Some.ensures.steps.0) ∙ c.loop-clerk.invariant.all) c.requires.clerks in
    omega (arith, ap (λ (clerk : ClerkView). clerk.replica) fresh.0, fresh.1, ap (λ (setup : Setup). setup.replicas) c.requires.setup)

pub open_at-requires-clause-clerk : goal.open_at-requires-clause-clerk
open_at-requires-clause-clerk g c =
    let desk : DeskView = c.args.desk.now in
    let fresh = fresh_at desk.table desk.setup.replicas c.loop-clerk.yielded c.next.new.self.rest.items c.args.clerks.items c.in-Some.clerk
    (ap (λ (items : List ClerkView). c.loop-clerk.yielded ++ items) (sym c.in-Some.ensures.steps.0) ∙ c.loop-clerk.invariant.all) c.requires.clerks in
    ap (λ (clerk : ClerkView). clerk.table) fresh.0

pub open_at-requires-clause-drawn : goal.open_at-requires-clause-drawn
open_at-requires-clause-drawn g c =
    let desk : DeskView = c.args.desk.now in
    let fresh = fresh_at desk.table desk.setup.replicas c.loop-clerk.yielded c.next.new.self.rest.items c.args.clerks.items c.in-Some.clerk
    (ap (λ (items : List ClerkView). c.loop-clerk.yielded ++ items) (sym c.in-Some.ensures.steps.0) ∙ c.loop-clerk.invariant.all) c.requires.clerks in
    ap (λ (clerk : ClerkView). clerk.pairs) fresh.0

pub loop-clerk-preserved : goal.loop-clerk-preserved
loop-clerk-preserved g c =
    let desk : DeskView = c.args.desk.now in
    let before : List ClerkView = c.loop-clerk.yielded in
    let clerk : ClerkView = c.in-Some.clerk in
    let after : List ClerkView = c.next.new.self.rest.items in
    let whole : before ++ clerk ∷ after ≡ c.args.clerks.items = ap (λ (items : List ClerkView). before ++ items) (sym c.in-Some.ensures.steps.0) ∙ c.loop-clerk.invariant.all in
    let fresh = fresh_at desk.table desk.setup.replicas before after c.args.clerks.items clerk whole c.requires.clerks in
    let number : clerk.replica ≡ length before = ap (λ (one : ClerkView). one.replica) fresh.0 in
    let more : length (before ++ clerk ∷ []) ≡ length before + 1 = length_push before clerk in
    record {
      all = append_assoc before (clerk ∷ []) after ∙ whole;
      opening = rw (more, c.put.ensures.items, c.put-in-Ok.ensures.items, c.put-in-Ok-2.ensures.items, c.put-in-Ok-3.ensures.items)
          (IsOpening-more c.args.plan.now desk (length before) c.loop-clerk.nodes.items c.loop-clerk.inboxes.items c.loop-clerk.ends.items c.loop-clerk.keys.items
          c.in-Ok.field-0.node c.in-Ok.field-0.inbox c.in-Ok.field-0.end c.in-Ok.field-0.key
          (subst (λ (k : ℕ). IsNodeAt desk k c.in-Ok.field-0.node) number c.in-Ok.ensures.node) (subst (λ (k : ℕ). IsInboxAt desk k c.in-Ok.field-0.inbox) number c.in-Ok.ensures.inbox)
          (c.in-Ok.ensures.plan ∙ ap (λ (k : ℕ). get_or c.args.plan.now.links k no_faults) number) c.in-Ok.ensures.end c.in-Ok.ensures.key c.loop-clerk.invariant.opening);
      node_room = omega (arith, c.loop-clerk.invariant.node_room, c.put.ensures.capacity);
      inbox_room = omega (arith, c.loop-clerk.invariant.inbox_room, c.put-in-Ok.ensures.capacity);
      end_room = omega (arith, c.loop-clerk.invariant.end_room, c.put-in-Ok-2.ensures.capacity);
      key_room = omega (arith, c.loop-clerk.invariant.key_room, c.put-in-Ok-3.ensures.capacity);
      ends_count = ap length c.put-in-Ok-2.ensures.items ∙ length_push c.loop-clerk.ends.items _ ∙ ap (λ (k : ℕ). k + 1) c.loop-clerk.invariant.ends_count ∙ sym more;
      keys_count = ap length c.put-in-Ok-3.ensures.items ∙ length_push c.loop-clerk.keys.items _ ∙ ap (λ (k : ℕ). k + 1) c.loop-clerk.invariant.keys_count ∙ sym more;
      low = omega (arith, c.loop-clerk.invariant.low, c.open_at.ensures.never_falls);
    }

pub open_at-requires-clause-few : goal.open_at-requires-clause-few
open_at-requires-clause-few g c =
    let desk : DeskView = c.args.desk.now in
    let fresh = fresh_at desk.table desk.setup.replicas c.loop-clerk.yielded c.next.new.self.rest.items c.args.clerks.items c.in-Some.clerk
    (ap (λ (items : List ClerkView). c.loop-clerk.yielded ++ items) (sym c.in-Some.ensures.steps.0) ∙ c.loop-clerk.invariant.all) c.requires.clerks in
    let counts = HasCounts-from_IsSetup desk.setup (subst IsSetup (c.config.ensures.config ∙ sym c.requires.setup) c.conits-conits.ensures.sound) in
    omega (arith, ap (λ (clerk : ClerkView). clerk.replica) fresh.0, fresh.1, counts.replicas_high)

pub give_up-requires-clause-nodes : goal.give_up-requires-clause-nodes
give_up-requires-clause-nodes g c =
    let desk : DeskView = c.args.desk.now in
    let fresh = fresh_at desk.table desk.setup.replicas c.loop-clerk.yielded c.next.new.self.rest.items c.args.clerks.items c.in-Some.clerk
    (ap (λ (items : List ClerkView). c.loop-clerk.yielded ++ items) (sym c.in-Some.ensures.steps.0) ∙ c.loop-clerk.invariant.all) c.requires.clerks in
    let counts = HasCounts-from_IsSetup desk.setup (subst IsSetup (c.config.ensures.config ∙ sym c.requires.setup) c.conits-conits.ensures.sound) in
    numbered_opening c.args.plan.now desk (length c.loop-clerk.yielded) c.loop-clerk.nodes.items c.loop-clerk.inboxes.items c.loop-clerk.ends.items c.loop-clerk.keys.items
    (omega (arith, fresh.1, counts.replicas_high)) c.loop-clerk.invariant.opening

pub invariant_of-result : goal.invariant_of-result
invariant_of-result g c =
    let desk : DeskView = c.args.desk.now in
    let all : c.loop-clerk.yielded ≡ c.args.clerks.items =
    all_there c.loop-clerk.yielded c.loop-clerk.clerk-iterator.rest.items c.args.clerks.items c.loop-clerk.invariant.all (omega (arith, c.in-None.ensures.steps.0)) in
    let count : length c.loop-clerk.yielded ≡ desk.setup.replicas = ap length all ∙ fresh_count desk.table desk.setup.replicas c.args.clerks.items c.requires.clerks in
    let opening = c.loop-clerk.invariant.opening in (
      c.conits-conits.ensures.count ∙ ap (λ (setup : Setup). setup.conits) (c.config.ensures.config ∙ sym c.requires.setup),
      record {
        sound = subst IsSetup (c.config.ensures.config ∙ sym c.requires.setup) c.conits-conits.ensures.sound;
        nodes_are = opening.nodes_are ∙ count;
        inboxes_are = opening.inboxes_are ∙ count;
        node = opening.node;
        inbox = opening.inbox;
      },
    )
