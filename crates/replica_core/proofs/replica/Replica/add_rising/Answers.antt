use Rattle.std.proofs.Common.{◌≡◌, ℕ, ◌<◌, ◌≤◌, ◌++◌, List, [], length, get_or, sym, ap, subst, ◌∙◌, ⊎_elim, arith}
use Rattle.std.proofs.lemmas.Bool.{cases_eq}
use Rattle.std.proofs.lemmas.List.{length-set}
use Rattle.tact_base.proofs.SetupLemmas.{HasCounts-from_IsSetup}
use Rattle.tact_base.specs.declared.write.Write.{Write}
use Rattle.write_log.specs.Logs.{room_of}
use Rattle.replica_core.specs.Seen.{SeenState}
use Rattle.replica_core.specs.States.{ReplicaState, AreNext, log_at}
use Rattle.replica_core.proofs.AdmitLemmas.{admitted_all, seen-few, AreFew-other, bases-grown}
use Rattle.replica_core.proofs.replica.Replica.add_rising.Goals as goal

pub admit-requires-clause-next : goal.admit-requires-clause-next
admit-requires-clause-next c =
    let next : AreNext c.self.inside.config.conits c.args.origin (length (get_or c.self.inside.logs.logs c.args.origin [])) c.args.writes.now =
    subst (λ (s : ReplicaState). AreNext s.core.setup.conits c.args.origin (length (log_at s.core c.args.origin)) c.args.writes.now) (sym c.self.view_is) c.requires.next in
    subst (λ (conits : ℕ). AreNext conits c.args.origin (length (get_or c.self.inside.logs.logs c.args.origin [])) c.args.writes.now) (sym c.self.invariant.2) next

pub admit-requires-clause-few : goal.admit-requires-clause-few
admit-requires-clause-few c =
    let next : AreNext c.self.inside.config.conits c.args.origin (length (get_or c.self.inside.logs.logs c.args.origin [])) c.args.writes.now =
    subst (λ (s : ReplicaState). AreNext s.core.setup.conits c.args.origin (length (log_at s.core c.args.origin)) c.args.writes.now) (sym c.self.view_is) c.requires.next in
    let kept = c.self.invariant.0 in
    omega (
      arith,
      seen-few c.self.inside.config.replicas c.self.inside.logs.logs c.self.inside.seen.writes kept.between.ordered kept.few.each,
      (HasCounts-from_IsSetup c.self.inside.config kept.setup).replicas_high,
      next.few,
    )

pub invariant_of-self : goal.invariant_of-self
invariant_of-self c =
    let kept = c.self.invariant.0 in
    let rooms = c.self.invariant.1 in
    let places = kept.places in
    let logs = c.self.inside.logs.logs in
    let origin = c.args.origin in
    let writes = c.args.writes.now in
    let grown : List Write = get_or logs origin [] ++ writes in
    let among : origin < c.self.inside.config.replicas = omega (arith, c.requires.origin, ap (λ (s : ReplicaState). s.core.setup.replicas) c.self.view_is) in
    let replica_is = ap (λ (s : ReplicaState). s.core.replica) c.self.view_is in
    let other : origin ≡ c.self.inside.replica → ⊥ = λ same. c.requires.other (same ∙ replica_is) in
    let next : AreNext c.self.inside.config.conits c.args.origin (length (get_or c.self.inside.logs.logs c.args.origin [])) c.args.writes.now =
    subst (λ (s : ReplicaState). AreNext s.core.setup.conits c.args.origin (length (log_at s.core c.args.origin)) c.args.writes.now) (sym c.self.view_is) c.requires.next in
    let admitted = admitted_all writes c.self.inside.config.conits c.self.inside.config.replicas logs c.self.inside.seen.writes origin
    (record { sized = places.logs_sized; ordered = kept.between.ordered; placed = kept.between.placed }) among next in
    let few : length writes ≤ c.self.inside.beside = omega (arith, c.requires.room, ap (λ (s : ReplicaState). s.beside) c.self.view_is) in (
      record {
        setup = kept.setup;
        places = record {
          among = places.among;
          bases_sized = ap length c.admit.ensures.bases ∙ places.bases_sized;
          logs_sized = ap length c.admit.ensures.logs ∙ length-set logs origin grown ∙ places.logs_sized;
          covers_sized = places.covers_sized;
          known_sized = places.known_sized;
          calls_sized = places.calls_sized;
        };
        budgets = record { setup = kept.budgets.setup; replica = kept.budgets.replica };
        between = rw (c.admit.ensures.logs, c.admit.ensures.seen)
            (record { ordered = admitted.ordered; placed = admitted.placed; own = kept.between.own; committed = kept.between.committed });
        bases = rw (c.admit.ensures.logs, c.admit.ensures.bases)
            (record {
              within = bases-grown c.self.inside.config.replicas c.self.inside.logs.bases logs origin writes (omega (arith, among, places.logs_sized)) kept.bases.within;
              had = kept.bases.had;
            });
        few = rw c.admit.ensures.logs (AreFew-other c.self.inside.replica c.self.inside.count logs origin writes (omega (arith, among, places.logs_sized)) other next.few kept.few);
        lent = kept.lent;
      },
      record {
        own = omega (arith, rooms.own, c.admit.ensures.others c.self.inside.replica (λ same. other (sym same)));
        others = λ one apart within.
            let inside : one < length logs = omega (arith, within, ap length c.admit.ensures.logs, length-set logs origin grown) in
            ⊎_elim
            (λ (same : one ≡ origin). omega (arith, few, rooms.others one apart inside, c.admit.ensures.room, ap (room_of c.self.inside.logs) same, ap (room_of c.admit.new.logs) same))
            (λ (differ : one ≡ origin → ⊥). omega (arith, few, rooms.others one apart inside, c.admit.ensures.others one differ))
            (cases_eq one origin);
        seen = omega (arith, few, rooms.seen, ap (λ (seen : SeenState). seen.room) c.admit.ensures.seen);
        budgets = rooms.budgets;
      },
      ap (λ (seen : SeenState). seen.conits) c.admit.ensures.seen ∙ c.self.invariant.2,
    )
