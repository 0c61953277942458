-- How a run opens: its clerks one by one, with a node and an inbox for each.
use Rattle.std.proofs.Common.{◌≡◌, ℕ, ◌+◌, ◌<◌, ◌≤◌, List, [], ◌∷◌, ◌++◌, All, get_or, length, map, refl, sym, ap, ◌∙◌, subst, ⊎_elim, arith}
use Rattle.std.specs.List.{range_with_len}
use Rattle.std.proofs.lemmas.Bool.{cases_lt}
use Rattle.std.proofs.lemmas.List.{get_or_append_left, get_or_push, length-map, length_push, map_push}
use Rattle.std.proofs.lemmas.List.Elements.{All-nil}
use Rattle.std.proofs.lemmas.List.FromFn.{length-range_with_len}
use Rattle.tact_base.proofs.ListLemmas.{get_or-map_range}
use Rattle.atomic_table.specs.Seated.{TableId}
use Rattle.run_history.specs.Seats.{ClerkView, DeskView, fresh_clerk}
use Rattle.replica_lock.specs.Rosters.{IsRosterOf}
use Rattle.replica_lock.specs.Sessions.{IsAtNode, NodeView, SessionView, own_calls}
use Rattle.link_faults.specs.Plans.{no_faults}
use Rattle.postbox.specs.Posts.{PostboxView}
use Rattle.tact_base.specs.declared.limits.TheConstants.{REPLICAS_MAX}
use Rattle.work_load.specs.Workloads.{Workload}
use Rattle.run_work.specs.Ends.{AreEnds, AreKeys, IsNewEnd, IsEnd, noted_calls}
use Rattle.run_work.specs.Sites.{AreNumbered, HavePlans, IsInboxAt, IsNodeAt}
use Rattle.run_work.specs.declared.seat.End.{End}
use Rattle.run_work.proofs.Ended.{at_push, count_at, stands_at}

-- a clerk of a new desk, after some others
pub fresh_at : (table : TableId) (replicas : ℕ) (before after clerks : List ClerkView) (clerk : ClerkView)
    → before ++ clerk ∷ after ≡ clerks
    → clerks ≡ map (fresh_clerk table) (range_with_len 0 replicas)
    → (clerk ≡ fresh_clerk table (length before)) × (length before < replicas)
fresh_at table replicas before after clerks clerk whole fresh =
    let size : length clerks ≡ replicas = ap length fresh ∙ length-map (range_with_len 0 replicas) (fresh_clerk table) ∙ length-range_with_len 0 replicas in
    let below : length before < replicas = omega (arith, size, count_at before clerk after clerks whole) in (
      sym (stands_at before clerk after clerks clerk whole) ∙ ap (λ (all : List ClerkView). get_or all (length before) clerk) fresh
          ∙ get_or-map_range (fresh_clerk table) replicas (length before) clerk below,
      below,
    )

pub fresh_count : (table : TableId) (replicas : ℕ) (clerks : List ClerkView)
    → clerks ≡ map (fresh_clerk table) (range_with_len 0 replicas)
    → length clerks ≡ replicas
fresh_count table replicas clerks fresh = ap length fresh ∙ length-map (range_with_len 0 replicas) (fresh_clerk table) ∙ length-range_with_len 0 replicas

-- the end of a new node
IsEnd-new : (replica : ℕ) (node : NodeView) (end : End)
    → IsRosterOf node end.roster
    → end.roster.clients ≡ []
    → end.sessions.items ≡ []
    → IsEnd [] [] [] replica node end
IsEnd-new replica node end roster clients none =
    let IsNoted : SessionView → Type 0 = λ session. own_calls session ≡ noted_calls [] [] replica session.client in
    record {
      roster = roster;
      seated_are = clients;
      sessions = subst (All (IsAtNode node)) (sym none) (All-nil (IsAtNode node));
      back_are = ap (map (λ (session : SessionView). session.client)) none;
      calls = subst (All IsNoted) (sym none) (All-nil IsNoted);
    }

-- one more node is new
pub AreEnds-new : (desk : DeskView) (nodes : List NodeView) (inboxes : List PostboxView) (more : List PostboxView) (ends : List End) (node : NodeView) (end : End)
    → IsRosterOf node end.roster
    → end.roster.clients ≡ []
    → end.sessions.items ≡ []
    → AreEnds [] [] [] (record { desk = desk; nodes = nodes; inboxes = inboxes }) ends
    → AreEnds [] [] [] (record { desk = desk; nodes = nodes ++ node ∷ []; inboxes = more }) (ends ++ end ∷ [])
AreEnds-new desk nodes inboxes more ends node end roster clients none are = record {
  count = length_push ends end ∙ ap (λ (k : ℕ). k + 1) are.count ∙ sym (length_push nodes node);
  each = λ replica no_node no_end within.
      ⊎_elim
      (λ (below : replica < length ends).
      let inside : replica < length nodes = omega (arith, are.count, below) in
      subst (λ (n : NodeView). IsEnd [] [] [] replica n (get_or (ends ++ end ∷ []) replica no_end)) (sym (get_or_append_left nodes (node ∷ []) no_node replica inside))
      (subst (IsEnd [] [] [] replica (get_or nodes replica no_node)) (sym (get_or_append_left ends (end ∷ []) no_end replica below)) (are.each replica no_node no_end below)))
      (λ above.
      let last : length ends ≡ replica = omega (arith, length_push ends end, within, above) in
      subst (λ (n : NodeView). IsEnd [] [] [] replica n (get_or (ends ++ end ∷ []) replica no_end)) (sym (get_or_push nodes node no_node replica (sym are.count ∙ last)))
      (subst (IsEnd [] [] [] replica node) (sym (get_or_push ends end no_end replica last)) (IsEnd-new replica node end roster clients none)))
      (cases_lt replica (length ends));
}

-- the places of the first replicas
pub record IsOpening (plan : Workload) (desk : DeskView) (count : ℕ) (nodes : List NodeView) (inboxes : List PostboxView) (ends : List End) (keys : List TableId) : Type 0 where
  pub nodes_are : length nodes ≡ count
  pub inboxes_are : length inboxes ≡ count
  pub node : (replica : ℕ) (none : NodeView) → replica < length nodes → IsNodeAt desk replica (get_or nodes replica none)
  pub inbox : (replica : ℕ) (none : PostboxView) → replica < length inboxes → IsInboxAt desk replica (get_or inboxes replica none)
  pub plans : HavePlans plan inboxes
  pub keys_are : AreKeys inboxes keys
  pub ends_are : AreEnds [] [] [] (record { desk = desk; nodes = nodes; inboxes = inboxes }) ends

-- and of one more
pub IsOpening-more : (plan : Workload) (desk : DeskView) (count : ℕ) (nodes : List NodeView) (inboxes : List PostboxView) (ends : List End) (keys : List TableId)
    (node : NodeView) (inbox : PostboxView) (end : End) (key : TableId)
    → IsNodeAt desk count node
    → IsInboxAt desk count inbox
    → inbox.plan ≡ get_or plan.links count no_faults
    → IsNewEnd node end
    → key ≡ inbox.cell
    → IsOpening plan desk count nodes inboxes ends keys
    → IsOpening plan desk (count + 1) (nodes ++ node ∷ []) (inboxes ++ inbox ∷ []) (ends ++ end ∷ []) (keys ++ key ∷ [])
IsOpening-more plan desk count nodes inboxes ends keys node inbox end key at for linked new same opening = record {
  nodes_are = length_push nodes node ∙ ap (λ (k : ℕ). k + 1) opening.nodes_are;
  inboxes_are = length_push inboxes inbox ∙ ap (λ (k : ℕ). k + 1) opening.inboxes_are;
  node = at_push (IsNodeAt desk) nodes node opening.node (subst (λ (k : ℕ). IsNodeAt desk k node) (sym opening.nodes_are) at);
  inbox = at_push (IsInboxAt desk) inboxes inbox opening.inbox (subst (λ (k : ℕ). IsInboxAt desk k inbox) (sym opening.inboxes_are) for);
  plans = at_push (λ replica (one : PostboxView). one.plan ≡ get_or plan.links replica no_faults) inboxes inbox opening.plans
      (linked ∙ ap (λ (k : ℕ). get_or plan.links k no_faults) (sym opening.inboxes_are));
  keys_are = ap (λ (all : List TableId). all ++ key ∷ []) opening.keys_are
      ∙ ap (λ (one : TableId). map (λ (post : PostboxView). post.cell) inboxes ++ one ∷ []) same
      ∙ sym (map_push (λ (post : PostboxView). post.cell) inboxes inbox);
  ends_are = AreEnds-new desk nodes inboxes (inboxes ++ inbox ∷ []) ends node end new.roster new.clients new.sessions opening.ends_are;
}

-- at first there are none
pub IsOpening-start : (plan : Workload) (desk : DeskView) (nodes : List NodeView) (inboxes : List PostboxView) (ends : List End) (keys : List TableId)
    → nodes ≡ []
    → inboxes ≡ []
    → ends ≡ []
    → keys ≡ []
    → IsOpening plan desk 0 nodes inboxes ends keys
IsOpening-start plan desk nodes inboxes ends keys no_nodes no_inboxes no_ends no_keys = rw (no_nodes, no_inboxes, no_ends, no_keys) (record {
  nodes_are = refl;
  inboxes_are = refl;
  node = λ replica none within. absurd (omega (arith, within));
  inbox = λ replica none within. absurd (omega (arith, within));
  plans = λ replica none within. absurd (omega (arith, within));
  keys_are = refl;
  ends_are = record { count = refl; each = λ replica no_node no_end within. absurd (omega (arith, within)) };
})

-- they are numbered, and each node's roster is in its end
pub numbered_opening : (plan : Workload) (desk : DeskView) (count : ℕ) (nodes : List NodeView) (inboxes : List PostboxView) (ends : List End) (keys : List TableId)
    → count ≤ REPLICAS_MAX
    → IsOpening plan desk count nodes inboxes ends keys
    → AreNumbered nodes
numbered_opening plan desk count nodes inboxes ends keys few opening = record {
  few = omega (arith, few, opening.nodes_are);
  number = λ replica none within. (opening.node replica none within).1;
}
