use Rattle.std.proofs.Common.{◌≡◌, ℕ, ◌+◌, ◌<◌, List, [], ◌∷◌, ◌++◌, All, length, get_or, set, refl, ap, sym, subst, ◌∙◌, arith}
use Rattle.std.proofs.lemmas.List.{length-set}
use Rattle.tact_base.specs.Covers.{no_cover}
use Rattle.tact_base.specs.declared.write.Write.{Write}
use Rattle.std.specs.List.Sorted.{IsStrictlySortedBy}
use Rattle.tact_base.proofs.ListLemmas.{All-one}
use Rattle.tact_base.proofs.SetupLemmas.{HasCounts-from_IsSetup}
use Rattle.tact_base.specs.declared.conit_list.Weight.{Weight}
use Rattle.tact_base.specs.declared.limits.TheConstants.{HISTORY_MAX}
use Rattle.tact_base.specs.WriteOrder.{write_cmp}
use Rattle.commit_order.specs.Batches.{with_writes}
use Rattle.replica_core.specs.States.{ReplicaState, AreNext}
use Rattle.tact_base.proofs.CoversLemmas.{least_stamp-le}
use Rattle.replica_core.specs.Calling.{MayCount}
use Rattle.replica_core.specs.Seen.{SeenState}
use Rattle.replica_core.proofs.BudgetRoom.{MayCount-room}
use Rattle.replica_core.proofs.DueEntries.{not_full}
use Rattle.replica_core.proofs.LentLemmas.{AreLentBy-same, AreLentBy-later}
use Rattle.replica_core.proofs.AdmitLemmas.{AreAdmitted, admitted_all, seen-few, AreNext-own, AreFew-own, bases-grown}
use Rattle.replica_core.proofs.replica.Replica.accept.Goals as goal

pub admit-requires-clause-past : goal.admit-requires-clause-past
admit-requires-clause-past c =
    let kept = c.self.invariant.0.between in
    let places = c.self.invariant.0.places in
    let point = c.self.inside.seen.point in
    subst (λ (ws : List Write). All (λ (write : Write). point < write.stamp) ws) (sym c.from_ref-one.ensures.value)
    (All-one (λ (write : Write). point < write.stamp) _
    (omega (arith, kept.committed, kept.own, least_stamp-le c.self.inside.vector c.self.inside.replica no_cover (omega (arith, places.among, places.covers_sized)))))

pub admit-requires-clause-rising : goal.admit-requires-clause-rising
unfolding IsStrictlySortedBy
admit-requires-clause-rising c = subst (IsStrictlySortedBy write_cmp) (sym c.from_ref-one.ensures.value) (tt, tt)

pub admit-requires-clause-next : goal.admit-requires-clause-next
admit-requires-clause-next c =
    let logs : List (List Write) = c.self.inside.logs.logs in
    let write : Write = record { origin = c.self.inside.replica; index = c.count-index.result; stamp = c.self.inside.clock + 1; moment = c.max.result; weights = c.args.weights.now; op = c.args.op } in
    let entries : c.self.inside.count < HISTORY_MAX = omega (arith, (not_full c.args.self.now.core c.requires.free).0, ap (λ (s : ReplicaState). s.core.counts.count) c.self.view_is) in
    let next : AreNext c.self.inside.config.conits c.self.inside.replica (length (get_or logs c.self.inside.replica [])) (write ∷ []) =
    AreNext-own c.self.inside.config.conits c.self.inside.replica c.self.inside.count logs write refl c.count-index.ensures
    (subst (λ (s : ReplicaState). All (λ (weight : Weight). weight.conit < s.core.setup.conits) c.args.weights.now) (sym c.self.view_is) c.requires.conits) c.self.invariant.0.few entries in
    subst (λ (conits : ℕ). AreNext conits c.self.inside.replica (length (get_or c.self.inside.logs.logs c.self.inside.replica [])) c.from_ref-one.result.now) (sym c.self.invariant.2)
    (subst (AreNext c.self.inside.config.conits c.self.inside.replica (length (get_or c.self.inside.logs.logs c.self.inside.replica []))) (sym c.from_ref-one.ensures.value) next)

pub admit-requires-clause-few : goal.admit-requires-clause-few
admit-requires-clause-few c =
    let kept = c.self.invariant.0 in
    omega (
      arith,
      seen-few c.self.inside.config.replicas c.self.inside.logs.logs c.self.inside.seen.writes kept.between.ordered kept.few.each,
      (HasCounts-from_IsSetup c.self.inside.config kept.setup).replicas_high,
      c.from_ref-one.ensures.len,
    )

pub invariant_of-self : goal.invariant_of-self
invariant_of-self c =
    let kept = c.self.invariant.0.between in
    let places = c.self.invariant.0.places in
    let budgets = c.self.invariant.0.budgets in
    let rooms = c.self.invariant.1 in
    let spare : 0 < c.self.inside.spare = omega (arith, c.requires.room, ap (λ (s : ReplicaState). s.spare) c.self.view_is) in
    let one : length c.from_ref-one.result.now ≡ 1 = c.from_ref-one.ensures.len in
    let logs : List (List Write) = c.self.inside.logs.logs in
    let write : Write = record { origin = c.self.inside.replica; index = c.count-index.result; stamp = c.self.inside.clock + 1; moment = c.max.result; weights = c.args.weights.now; op = c.args.op } in
    let entries : c.self.inside.count < HISTORY_MAX = omega (arith, (not_full c.args.self.now.core c.requires.free).0, ap (λ (s : ReplicaState). s.core.counts.count) c.self.view_is) in
    let next : AreNext c.self.inside.config.conits c.self.inside.replica (length (get_or logs c.self.inside.replica [])) (write ∷ []) =
    AreNext-own c.self.inside.config.conits c.self.inside.replica c.self.inside.count logs write refl c.count-index.ensures
    (subst (λ (s : ReplicaState). All (λ (weight : Weight). weight.conit < s.core.setup.conits) c.args.weights.now) (sym c.self.view_is) c.requires.conits) c.self.invariant.0.few entries in
    let admitted =
    subst (λ (ws : List Write). AreAdmitted c.self.inside.config.replicas (set logs c.self.inside.replica (get_or logs c.self.inside.replica [] ++ ws))
    (with_writes ws c.self.inside.seen.writes)) (sym c.from_ref-one.ensures.value)
    (admitted_all (write ∷ []) c.self.inside.config.conits c.self.inside.config.replicas logs c.self.inside.seen.writes c.self.inside.replica
    (record { sized = places.logs_sized; ordered = kept.ordered; placed = kept.placed }) places.among next) in (
      record {
        setup = c.self.invariant.0.setup;
        places = record {
          among = places.among;
          bases_sized = ap length c.admit.ensures.bases ∙ places.bases_sized;
          logs_sized = ap length c.admit.ensures.logs ∙ length-set c.self.inside.logs.logs c.self.inside.replica _ ∙ places.logs_sized;
          covers_sized = places.covers_sized;
          known_sized = places.known_sized;
          calls_sized = places.calls_sized;
        };
        budgets = record { setup = ap (λ b. b.setup) c.count.ensures.counted ∙ budgets.setup; replica = ap (λ b. b.replica) c.count.ensures.counted ∙ budgets.replica };
        between = rw (c.admit.ensures.logs, c.admit.ensures.seen)
            (record { ordered = admitted.ordered; placed = admitted.placed; own = omega (arith, kept.own); committed = kept.committed });
        bases = rw (c.admit.ensures.logs, c.admit.ensures.bases)
            (record {
              within = bases-grown c.self.inside.config.replicas c.self.inside.logs.bases logs c.self.inside.replica c.from_ref-one.result.now
                  (omega (arith, places.among, places.logs_sized)) c.self.invariant.0.bases.within;
              had = c.self.invariant.0.bases.had;
            });
        few = rw c.admit.ensures.logs (AreFew-own c.self.inside.replica c.self.inside.count c.self.inside.logs.logs c.from_ref-one.result.now
            (omega (arith, places.among, places.logs_sized)) (omega (arith, one)) entries c.self.invariant.0.few);
        lent = AreLentBy-later c.self.inside.count (c.self.inside.count + 1) c.count.new.budgets.lent (omega arith)
            (AreLentBy-same c.self.inside.count (ap (λ b. b.lent) c.count.ensures.counted) c.self.invariant.0.lent);
      },
      record {
        own = omega (arith, rooms.own, c.admit.ensures.room, one);
        others = λ origin other within.
            omega (
              arith,
              rooms.others origin other (omega (
                arith,
                within,
                ap length c.admit.ensures.logs,
                length-set c.self.inside.logs.logs c.self.inside.replica
                    (get_or c.self.inside.logs.logs c.self.inside.replica [] ++ c.from_ref-one.result.now),
              )),
              c.admit.ensures.others origin other,
            );
        seen = omega (arith, rooms.seen, ap (λ (seen : SeenState). seen.room) c.admit.ensures.seen, one, spare);
        budgets = omega (arith, rooms.budgets, c.count.ensures.room);
      },
      ap (λ (seen : SeenState). seen.conits) c.admit.ensures.seen ∙ c.self.invariant.2,
    )

pub count-requires-clause-counts : goal.count-requires-clause-counts
count-requires-clause-counts c =
    MayCount-room c.self.inside.budgets 0 c.args.weights.now c.args.held
    (subst (λ (s : ReplicaState). MayCount s.core.budgets c.args.weights.now c.args.held) (sym c.self.view_is) c.requires.counts)
