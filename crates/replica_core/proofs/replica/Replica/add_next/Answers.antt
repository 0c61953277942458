use Rattle.std.proofs.Common.{◌≡◌, ℕ, ◌+◌, ◌<◌, List, [], ◌∷◌, ◌++◌, length, take, sym, ap, ◌∙◌, subst, arith}
use Rattle.std.proofs.lemmas.List.{take_more, length-append, length-take-le}
use Rattle.std.specs.List.Sorted.{IsStrictlySortedBy}
use Rattle.tact_base.specs.WriteOrder.{write_cmp}
use Rattle.tact_base.specs.declared.write.Write.{Write}
use Rattle.replica_core.specs.States.{Core, AreNext, log_at}
use Rattle.replica_core.specs.Taking.{with_next}
use Rattle.replica_core.proofs.AddingNext.{AreNext-one, log_at-with_next, with_next-more}
use Rattle.replica_core.proofs.replica.Replica.add_next.Goals as goal

pub add_rising-requires-in-loop-write-clause-next : goal.add_rising-requires-in-loop-write-clause-next
add_rising-requires-in-loop-write-clause-next c =
    let old = c.args.self.now.core in
    let k = c.loop-write.write-index in
    let writes = c.args.writes.now in
    let within : c.args.origin < length old.writes.logs = omega (arith, c.requires.origin, c.requires.sized) in
    let log : log_at c.loop-write.self.core c.args.origin ≡ log_at old c.args.origin ++ take k writes =
    ap (λ (core : Core). log_at core c.args.origin) c.loop-write.invariant.core ∙ log_at-with_next old c.args.origin within (take k writes) c.loop-write.self.core.writes.seen in
    let count : length (log_at c.loop-write.self.core c.args.origin) ≡ length (log_at old c.args.origin) + k =
    omega (arith, ap length log, length-append (log_at old c.args.origin) (take k writes), length-take-le k writes (omega (arith, c.loop-write-test.true))) in
    let conits = old.setup.conits in
    subst (λ (ws : List Write). AreNext c.loop-write.self.core.setup.conits c.args.origin (length (log_at c.loop-write.self.core c.args.origin)) ws) (sym c.from_ref.ensures.value)
    (subst (λ (k : Core). AreNext k.setup.conits c.args.origin (length (log_at c.loop-write.self.core c.args.origin)) (c.write-item.result ∷ [])) (sym c.loop-write.invariant.core)
    (subst (λ (n : ℕ). AreNext conits c.args.origin n (c.write-item.result ∷ [])) (sym count)
    (AreNext-one conits c.args.origin (length (log_at old c.args.origin)) k writes c.write-item.result c.requires.next c.loop-write-test.true c.write-item.is)))

pub add_rising-requires-in-loop-write-clause-rising : goal.add_rising-requires-in-loop-write-clause-rising
unfolding IsStrictlySortedBy
add_rising-requires-in-loop-write-clause-rising c = subst (IsStrictlySortedBy write_cmp) (sym c.from_ref.ensures.value) (tt, tt)

pub loop-write-preserved : goal.loop-write-preserved
loop-write-preserved c =
    let old = c.args.self.now.core in
    let k = c.loop-write.write-index in
    let writes = c.args.writes.now in
    let after = c.add_rising-in-loop-write.new.self.core.writes.seen in
    let within : c.args.origin < length old.writes.logs = omega (arith, c.requires.origin, c.requires.sized) in
    record {
      core =
          c.add_rising-in-loop-write.ensures.core
          ∙ ap (λ (ws : List Write). with_next c.loop-write.self.core c.args.origin ws after) c.from_ref.ensures.value
          ∙ ap (λ (core : Core). with_next core c.args.origin (c.write-item.result ∷ []) after) c.loop-write.invariant.core
          ∙ with_next-more old c.args.origin within (take k writes) c.loop-write.self.core.writes.seen (c.write-item.result ∷ []) after
          ∙ ap (λ (ws : List Write). with_next old c.args.origin ws after)
          (ap (λ (w : Write). take k writes ++ w ∷ []) c.write-item.is ∙ sym (take_more writes k c.write-item.result c.loop-write-test.true));
      spare = c.add_rising-in-loop-write.ensures.spare ∙ c.loop-write.invariant.spare;
      room = omega (arith, c.loop-write.invariant.room, c.add_rising-in-loop-write.ensures.room, c.from_ref.ensures.len);
    }
