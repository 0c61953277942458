use Rattle.std.proofs.Common.{◌≡◌, ℕ, ◌+◌, ◌<◌, max, nat_lt, List, take, length, All, sym, ap, ap₂, ◌∙◌, subst, le_trans, arith}
use Rattle.std.proofs.lemmas.List.{length-drop}
use Rattle.std.proofs.lemmas.List.Sums.{prefix_len-le-length}
use Rattle.tact_base.specs.WriteOrder.{committed_to}
use Rattle.tact_base.specs.declared.limits.TheConstants.{HISTORY_MAX}
use Rattle.tact_base.specs.declared.write.Write.{Write}
use Rattle.replica_core.specs.contracts.replica.Replica.{the_view}
use Rattle.replica_core.specs.Dropped.{past_of}
use Rattle.replica_core.specs.Seen.{SeenState}
use Rattle.replica_core.specs.States.{Core, ReplicaState, IsKept, base_at, log_at}
use Rattle.replica_core.specs.Trimming.{known_all_at, held_committed, longest_at, trimmed}
use Rattle.replica_core.proofs.TrimmedKept.{gone_of, gone-few, gone-within, with_given_up, with_given_up-is, IsKept-trimmed}
use Rattle.replica_core.proofs.replica.Replica.trim.Goals.{After-trim}
use Rattle.replica_core.proofs.replica.Replica.trim.Goals as goal

pub trim_logs-requires-clause-few : goal.trim_logs-requires-clause-few
trim_logs-requires-clause-few c =
    let old = (the_view c.self.inside).core in
    let core_is = ap (λ (s : ReplicaState). s.core) c.self.view_is in
    let gone : take c.longest_front-count.result c.committed.result.now ≡ gone_of old =
    ap₂ (λ (n : ℕ) (ws : List Write). take n ws) (c.longest_front-count.ensures ∙ ap longest_at (sym core_is)) c.committed.ensures.committed in
    subst (All (λ (write : Write). write.index < HISTORY_MAX)) (sym gone) (gone-few old c.self.invariant.0)

pub trim_logs-requires-clause-within : goal.trim_logs-requires-clause-within
trim_logs-requires-clause-within c =
    let old = (the_view c.self.inside).core in
    let core_is = ap (λ (s : ReplicaState). s.core) c.self.view_is in
    let gone : take c.longest_front-count.result c.committed.result.now ≡ gone_of old =
    ap₂ (λ (n : ℕ) (ws : List Write). take n ws) (c.longest_front-count.ensures ∙ ap longest_at (sym core_is)) c.committed.ensures.committed in
    subst (All (λ (write : Write). write.index < length (log_at old write.origin))) (sym gone) (gone-within old c.self.invariant.0)

pub trim-requires : goal.trim-requires
trim-requires c =
    let old = (the_view c.self.inside).core in
    let core_is = ap (λ (s : ReplicaState). s.core) c.self.view_is in
    let count : c.longest_front-count.result ≡ longest_at old = c.longest_front-count.ensures ∙ ap longest_at (sym core_is) in
    let few = prefix_len-le-length (λ (write : Write). nat_lt write.index (known_all_at old write.origin)) (held_committed old) in
    omega (arith, c.committed.ensures.within, count, few, length-drop c.self.inside.seen.dropped (committed_to c.self.inside.seen.point c.self.inside.seen.writes))

-- what it keeps then
core_then : (c : After-trim)
    → with_given_up (the_view c.self.inside).core c.trim_logs.new.logs.bases c.trim_logs.new.logs.logs c.trim.new.self.writes c.trim.new.self.dropped
    c.trim.new.self.point ≡ trimmed (the_view c.self.inside).core
core_then c =
    let old = (the_view c.self.inside).core in
    let core_is = ap (λ (s : ReplicaState). s.core) c.self.view_is in
    let count : c.longest_front-count.result ≡ longest_at old = c.longest_front-count.ensures ∙ ap longest_at (sym core_is) in
    let gone : take c.longest_front-count.result c.committed.result.now ≡ gone_of old = ap₂ (λ (n : ℕ) (ws : List Write). take n ws) count c.committed.ensures.committed in
    with_given_up-is old c.trim_logs.new.logs.bases c.trim_logs.new.logs.logs c.trim.new.self.writes c.trim.new.self.dropped c.trim.new.self.point
    (c.trim_logs.ensures.sized ∙ c.self.invariant.0.places.bases_sized)
    (λ origin within.
    c.trim_logs.ensures.bases origin (omega (arith, within, c.replicas.ensures.count))
    ∙ ap (λ (ws : List Write). max (base_at old origin) (past_of ws origin)) gone)
    c.trim_logs.ensures.logs
    (ap (λ (s : SeenState). s.writes) c.trim.ensures)
    (ap (λ (s : SeenState). s.dropped) c.trim.ensures ∙ ap (λ (n : ℕ). c.self.inside.seen.dropped + n) count)
    (ap (λ (s : SeenState). s.point) c.trim.ensures)

pub invariant_of-self : goal.invariant_of-self
invariant_of-self c =
    let rooms = c.self.invariant.1 in
    let room = ap (λ (s : SeenState). s.room) c.trim.ensures in (
      subst IsKept (sym (core_then c)) (IsKept-trimmed (the_view c.self.inside).core c.self.invariant.0),
      record {
        own = le_trans rooms.own (c.trim_logs.ensures.room c.self.inside.replica);
        others = λ origin other within.
            le_trans (rooms.others origin other (omega (arith, within, ap (λ (logs : List (List Write)). length logs) c.trim_logs.ensures.logs))) (c.trim_logs.ensures.room origin);
        seen = omega (arith, rooms.seen, room);
        budgets = rooms.budgets;
      },
      ap (λ (s : SeenState). s.conits) c.trim.ensures ∙ c.self.invariant.2,
    )

pub returns : goal.returns
returns c =
    ap (λ (core : Core). let s : ReplicaState = record { core = core; spare = c.self.inside.spare; beside = c.self.inside.beside } in s) (core_then c)
    ∙ ap (λ (s : ReplicaState). let t : ReplicaState = record { core = trimmed s.core; spare = s.spare; beside = s.beside } in t) c.self.view_is
