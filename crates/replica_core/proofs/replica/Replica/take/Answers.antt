use Rattle.std.proofs.Common.{◌≡◌, ℕ, ◌+◌, ◌*◌, ◌<◌, ◌≤◌, ◌==◌, max, cond, List, [], length, get_or, map, refl, sym, ap, ap₂, ◌∙◌, subst, ⊎_elim, arith}
use Rattle.std.proofs.lemmas.Bool.{cases_eq, eq-eqb, ne_eqb}
use Rattle.tact_base.specs.Covers.{no_cover, cover_after, least_stamp}
use Rattle.tact_base.specs.Logs.{log_after}
use Rattle.tact_base.specs.declared.write.Cover.{Cover}
use Rattle.tact_base.specs.declared.write.Write.{Write}
use Rattle.run_model.specs.Histories.{greatest}
use Rattle.run_model.specs.Taking.{OriginState, after_taking, told_cover, told_first, told_have, told_writes}
use Rattle.run_model.specs.declared.entry.Act.TheVariants as act
use Rattle.split_budget.specs.Budgets.{BudgetState}
use Rattle.replica_core.specs.States.{Core, ReplicaState, IsKept, log_at, cover_at, entered}
use Rattle.replica_core.specs.Stands.{Stands, with_act}
use Rattle.replica_core.specs.Trimming.{trimmed}
use Rattle.replica_core.specs.Taking.{AreWritesTaken, AreBudgetsTaken, kept_at, kept_after, log_told, raised_by}
use Rattle.replica_core.proofs.BudgetRoom.{with_room}
use Rattle.replica_core.proofs.LentLemmas.{AreLentBy-same}
use Rattle.replica_core.proofs.Taken.{Stands-taken}
use Rattle.replica_core.proofs.TakenParts.{cover_after-stamp, least_stamp-rises, raised_by-ge, AreBudgetsTaken-noted}
use Rattle.replica_core.proofs.replica.Replica.take.Goals as goal

pub invariant_of-self : goal.invariant_of-self
invariant_of-self c =
    let inside = c.self.inside in
    let kept = c.self.invariant.0 in
    let rooms = c.self.invariant.1 in
    let places = kept.places in
    let noted = c.note_told.ensures.acked in
    let raised = c.raise_covers.new.vector in
    let rises : (k : ℕ) → k < length inside.vector → (get_or inside.vector k no_cover).stamp ≤ (get_or raised k no_cover).stamp = λ k within.
    let is = c.raise_covers.ensures.covers k (omega (arith, within, places.covers_sized)) in
    ⊎_elim
    (λ (same : k ≡ inside.replica). omega (
      arith,
      ap (λ (cover : Cover). cover.stamp)
          (is ∙ ap (λ yes. cond yes (get_or inside.vector k no_cover)
          (cover_after (length (get_or inside.logs.logs k [])) (get_or inside.vector k no_cover) (told_cover c.args.message.now k))) (eq-eqb k inside.replica same)),
    ))
    (λ (other : k ≡ inside.replica → ⊥). omega (
      arith,
      ap (λ (cover : Cover). cover.stamp)
          (is ∙ ap (λ yes. cond yes (get_or inside.vector k no_cover)
          (cover_after (length (get_or inside.logs.logs k [])) (get_or inside.vector k no_cover) (told_cover c.args.message.now k))) (ne_eqb k inside.replica other)),
      cover_after-stamp (length (get_or inside.logs.logs k [])) (get_or inside.vector k no_cover) (told_cover c.args.message.now k),
    ))
    (cases_eq k inside.replica) in
    let own : get_or raised inside.replica no_cover ≡ get_or inside.vector inside.replica no_cover =
    c.raise_covers.ensures.covers inside.replica places.among
    ∙ ap (λ yes. cond yes (get_or inside.vector inside.replica no_cover)
    (cover_after (length (get_or inside.logs.logs inside.replica [])) (get_or inside.vector inside.replica no_cover) (told_cover c.args.message.now inside.replica)))
    (eq-eqb inside.replica inside.replica refl) in
    let least : least_stamp inside.vector ≤ least_stamp raised =
    least_stamp-rises inside.vector raised (omega (arith, places.among, places.covers_sized)) c.raise_covers.ensures.sized rises in (
      record {
        setup = kept.setup;
        places = record {
          among = places.among;
          bases_sized = places.bases_sized;
          logs_sized = places.logs_sized;
          covers_sized = c.raise_covers.ensures.sized ∙ places.covers_sized;
          known_sized = c.learn_haves.ensures.sized ∙ places.known_sized;
          calls_sized = places.calls_sized;
        };
        budgets = record { setup = ap (λ (b : BudgetState). b.setup) noted ∙ kept.budgets.setup; replica = ap (λ (b : BudgetState). b.replica) noted ∙ kept.budgets.replica };
        between = record {
          ordered = kept.between.ordered;
          placed = kept.between.placed;
          own = omega (arith, ap (λ (cover : Cover). cover.stamp) own, kept.between.own, c.max-self-inside.ensures);
          committed = omega (arith, kept.between.committed, least);
        };
        bases = record {
          within = kept.bases.within;
          had = λ peer origin peer_in origin_in apart other.
              omega (
                arith,
                kept.bases.had peer origin peer_in origin_in apart other,
                c.learn_haves.ensures.known peer origin peer_in origin_in,
                raised_by-ge
                    c.args.message.now peer (get_or inside.known.items (peer * inside.config.replicas + origin) 0) (told_have c.args.message.now origin),
              );
        };
        few = kept.few;
        lent = AreLentBy-same inside.count (ap (λ (b : BudgetState). b.lent) noted) kept.lent;
      },
      record { own = rooms.own; others = rooms.others; seen = rooms.seen; budgets = omega (arith, rooms.budgets, c.note_told.ensures.room) },
      c.self.invariant.2,
    )

pub returns-clause-goes_on : goal.returns-clause-goes_on
returns-clause-goes_on c part stands =
    let old = c.args.self.now.core in
    let message = c.args.message.now in
    let inside = c.self.inside in
    let may = c.in_ok-may_enter.ensures in
    let told = c.add_told.new.self.core in
    let view : Core = record {
      setup = inside.config;
      replica = inside.replica;
      writes = record {
        bases = inside.logs.bases;
        logs = inside.logs.logs;
        covers = inside.vector;
        known = inside.known.items;
        seen = inside.seen.writes;
        dropped = inside.seen.dropped;
        point = inside.seen.point;
        clock = inside.clock;
      };
      budgets = with_room inside.budgets 0;
      counts = record { calls = inside.calls.items; sends = inside.sends; count = inside.count; last = inside.last };
    } in
    let logged : List (List Write) → List Write → Core = λ logs seen. let k : Core = record old { writes = record old.writes { logs = logs; seen = seen } } in k in
    let is_told : view ≡ told = ap (λ (s : ReplicaState). s.core) c.self.view_is in
    let logs_are = ap (λ (k : Core). k.writes.logs) is_told in
    let seen_is = ap (λ (k : Core). k.writes.seen) is_told in
    let mid : view ≡ logged inside.logs.logs inside.seen.writes =
    is_told ∙ c.add_told.ensures.core
    ∙ ap (λ (k : Core). let t : Core = record k { writes = record k.writes { logs = told.writes.logs; seen = told.writes.seen } } in t) c.in_ok-reserve_told.ensures.core
    ∙ ap₂ logged (sym logs_are) (sym seen_is) in
    let budgets = with_room c.note_told.new.budgets 0 in
    let closed : Core → Core = λ k. let t : Core =
    record k { writes = record k.writes { covers = c.raise_covers.new.vector; known = c.learn_haves.new.known.items; clock = c.max-self-inside.result }; budgets = budgets } in t in
    let final : closed view ≡ closed (logged inside.logs.logs inside.seen.writes) = ap closed mid in
    let after = closed (logged inside.logs.logs inside.seen.writes) in
    let reached : c.trim.new.self.core ≡ trimmed (entered after c.args.moment) =
    ap (λ (s : ReplicaState). s.core) c.trim.ensures
    ∙ ap (λ (s : ReplicaState). trimmed s.core) c.enter.ensures ∙ ap (λ (k : Core). trimmed (entered k c.args.moment)) final in
    let kept : IsKept after = subst IsKept final (invariant_of-self c.before.before.before.before).0 in
    let covers_are : inside.vector ≡ old.writes.covers = ap (λ (k : Core). k.writes.covers) mid in
    let known_are : inside.known.items ≡ old.writes.known = ap (λ (k : Core). k.writes.known) mid in
    let clock_is : inside.clock ≡ old.writes.clock = ap (λ (k : Core). k.writes.clock) mid in
    let replica_is : inside.replica ≡ old.replica = ap (λ (k : Core). k.replica) mid in
    let replicas_are : inside.config.replicas ≡ old.setup.replicas = ap (λ (k : Core). k.setup.replicas) mid in
    let log_is : (origin : ℕ) → origin < old.setup.replicas → get_or inside.logs.logs origin [] ≡ log_told old message origin = λ origin within.
    ap (λ (ls : List (List Write)). get_or ls origin []) logs_are
    ∙ c.add_told.ensures.logs origin (omega (arith, within, ap (λ (k : Core). k.setup.replicas) c.in_ok-reserve_told.ensures.core))
    ∙ ap (λ (k : Core). log_told k message origin) c.in_ok-reserve_told.ensures.core in
    let cover_is : (origin : ℕ) → origin < old.setup.replicas
    → get_or c.raise_covers.new.vector origin no_cover
    ≡ cond (origin == old.replica) (cover_at old origin) (cover_after (length (get_or inside.logs.logs origin [])) (cover_at old origin) (told_cover message origin)) = λ origin within.
    c.raise_covers.ensures.covers origin (omega (arith, within, replicas_are))
    ∙ ap (λ (vector : List Cover). cond (origin == inside.replica) (get_or vector origin no_cover)
    (cover_after (length (get_or inside.logs.logs origin [])) (get_or vector origin no_cover) (told_cover message origin))) covers_are
    ∙ ap (λ (r : ℕ). cond (origin == r) (cover_at old origin) (cover_after (length (get_or inside.logs.logs origin [])) (cover_at old origin) (told_cover message origin))) replica_is in
    let pair = λ (log : List Write) (cover : Cover). let k : OriginState = record { log = log; cover = cover } in k in
    let kept_is : (origin : ℕ) → origin < old.setup.replicas → kept_at after origin ≡ kept_after old message origin = λ origin within.
    ⊎_elim
    (λ (same : origin ≡ old.replica).
    let yes = eq-eqb origin old.replica same in
    ap₂ pair
    (log_is origin within ∙ ap (λ b. cond b (log_at old origin) (log_after (log_at old origin) (told_first message origin) (told_writes message origin))) yes)
    (cover_is origin within ∙ ap (λ b. cond b (cover_at old origin) (cover_after (length (get_or inside.logs.logs origin [])) (cover_at old origin) (told_cover message origin))) yes)
    ∙ sym (ap (λ b. cond b (kept_at old origin) (after_taking origin (kept_at old origin) message)) yes))
    (λ (other : origin ≡ old.replica → ⊥).
    let no = ne_eqb origin old.replica other in
    let log : get_or inside.logs.logs origin [] ≡ log_after (log_at old origin) (told_first message origin) (told_writes message origin) =
    log_is origin within ∙ ap (λ b. cond b (log_at old origin) (log_after (log_at old origin) (told_first message origin) (told_writes message origin))) no in
    ap₂ pair log
    (cover_is origin within ∙ ap (λ b. cond b (cover_at old origin) (cover_after (length (get_or inside.logs.logs origin [])) (cover_at old origin) (told_cover message origin))) no
    ∙ ap (λ (ws : List Write). cover_after (length ws) (cover_at old origin) (told_cover message origin)) log)
    ∙ sym (ap (λ b. cond b (kept_at old origin) (after_taking origin (kept_at old origin) message)) no))
    (cases_eq origin old.replica) in
    let are_writes : AreWritesTaken old after message = record {
      bases = refl;
      dropped = refl;
      kept = kept_is;
      known = λ peer origin peer_in origin_in.
          ap (λ (n : ℕ). get_or c.learn_haves.new.known.items (peer * n + origin) 0) (sym replicas_are)
          ∙ c.learn_haves.ensures.known peer origin (omega (arith, peer_in, replicas_are)) (omega (arith, origin_in, replicas_are))
          ∙ ap₂ (λ (ks : List ℕ) (n : ℕ). raised_by message peer (get_or ks (peer * n + origin) 0) (told_have message origin)) known_are replicas_are;
      clock = c.max-self-inside.ensures ∙ ap₂ max clock_is (c.latest_stamp.ensures ∙ ap (λ (cs : List Cover). greatest (map (λ (cover : Cover). cover.stamp) cs)) c.items.ensures);
    } in
    let fits = c.requires.fits in
    let from_other : message.from ≡ old.replica → ⊥ = λ same. fits.in_range.others (same ∙ sym fits.addressed) in
    let budget_setup : inside.budgets.setup ≡ old.setup = ap (λ (k : Core). k.budgets.setup) mid ∙ may.kept.budgets.setup in
    let budget_replica : inside.budgets.replica ≡ old.replica = ap (λ (k : Core). k.budgets.replica) mid ∙ may.kept.budgets.replica in
    let acked = c.note_told.ensures.acked in
    let are_budgets : AreBudgetsTaken old.setup old.replica old.budgets budgets message =
    subst (λ (b : BudgetState). AreBudgetsTaken old.setup old.replica b budgets message) (ap (λ (k : Core). k.budgets) mid)
    (AreBudgetsTaken-noted old.setup old.replica inside.budgets c.note_told.new.budgets message budget_setup budget_replica fits.in_range.from from_other
    c.note_told.ensures.kept acked c.note_told.ensures.lent c.note_told.ensures.returned) in
    subst (Stands (with_act old.replica part c.args.moment (act.Take message))) (sym reached)
    (Stands-taken part old stands may.ok may.kept.places c.args.moment c.requires.moment message fits after.writes budgets are_writes are_budgets kept)
