use Rattle.std.proofs.Common.{rules, ◌≡◌, ◌<◌, ◌≤◌, List, length, get_or, ap, ◌∙◌, sym, subst, arith}
use Rattle.tact_base.proofs.SetupLemmas.{HasCounts-from_IsSetup}
use Rattle.tact_base.specs.declared.write.Write.{Write}
use Rattle.replica_core.specs.States.{ReplicaState, IsBetweenEntries}
use Rattle.replica_core.specs.Trimming.{known_all_at, held_committed}
use Rattle.replica_core.proofs.TrimmedWrites.{held-placed, AreHad-next, longest-found, longest-all}
use Rattle.replica_core.proofs.replica.Replica.longest_front.Goals as goal

pub is_had_by_all-requires-clause-origin : goal.is_had_by_all-requires-clause-origin
is_had_by_all-requires-clause-origin c =
    let core = c.args.self.now.core in
    let core_is = ap (λ (s : ReplicaState). s.core) c.self.view_is in
    let items : c.committed-write-items.result.now ≡ held_committed core = c.committed-write-items.ensures.committed ∙ ap held_committed core_is in
    let placed = held-placed core (subst IsBetweenEntries core_is c.self.invariant.0.between) in
    let i = c.loop-write.write-index in
    let d = c.write-item.result in
    let here : d ≡ get_or (held_committed core) i d = c.write-item.is ∙ ap (λ (ws : List Write). get_or ws i d) items in
    subst (λ (write : Write). write.origin < core.setup.replicas) (sym here)
    (placed i d (omega (arith, c.loop-write-test.true, ap length items))).0

pub is_had_by_all-requires-clause-few : goal.is_had_by_all-requires-clause-few
is_had_by_all-requires-clause-few c =
    omega (
      arith,
      (HasCounts-from_IsSetup c.self.inside.config c.self.invariant.0.setup).replicas_high,
      ap (λ (s : ReplicaState). s.core.setup.replicas) c.self.view_is,
    )

pub loop-write-preserved : goal.loop-write-preserved
loop-write-preserved c =
    let core = c.args.self.now.core in
    let core_is = ap (λ (s : ReplicaState). s.core) c.self.view_is in
    let items : c.committed-write-items.result.now ≡ held_committed core = c.committed-write-items.ensures.committed ∙ ap held_committed core_is in
    let i = c.loop-write.write-index in
    let d = c.write-item.result in
    let here : d ≡ get_or (held_committed core) i d = c.write-item.is ∙ ap (λ (ws : List Write). get_or ws i d) items in
    let had : d.index < known_all_at core d.origin = search rules in
    record {
      count = omega (arith, c.loop-write.invariant.count);
      had = AreHad-next core i d (omega (arith, c.loop-write-test.true, ap length items)) c.loop-write.invariant.had
          (subst (λ (write : Write). write.index < known_all_at core write.origin) here had);
      sized = c.is_had_by_all.ensures.sized;
      known = c.is_had_by_all.ensures.known;
    }

pub returns-then-not-is_had_by_all : goal.returns-then-not-is_had_by_all
returns-then-not-is_had_by_all c =
    let core = c.args.self.now.core in
    let core_is = ap (λ (s : ReplicaState). s.core) c.self.view_is in
    let items : c.committed-write-items.result.now ≡ held_committed core = c.committed-write-items.ensures.committed ∙ ap held_committed core_is in
    let i = c.loop-write.write-index in
    let d = c.write-item.result in
    let here : d ≡ get_or (held_committed core) i d = c.write-item.is ∙ ap (λ (ws : List Write). get_or ws i d) items in
    let lacked : known_all_at core d.origin ≤ d.index = search rules in
    c.loop-write.invariant.count
    ∙ longest-found core i d (omega (arith, c.loop-write-test.true, ap length items)) c.loop-write.invariant.had
    (λ inside. subst (λ (write : Write). known_all_at core write.origin ≤ write.index) here lacked)

pub returns : goal.returns
returns c =
    let core = c.args.self.now.core in
    let core_is = ap (λ (s : ReplicaState). s.core) c.self.view_is in
    let items : c.committed-write-items.result.now ≡ held_committed core = c.committed-write-items.ensures.committed ∙ ap held_committed core_is in
    c.loop-write.invariant.count
    ∙ longest-all core c.loop-write.write-index (omega (arith, c.loop-write-test.false, c.loop-write.auto.write-index-end, ap length items)) c.loop-write.invariant.had
