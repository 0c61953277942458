use Rattle.std.proofs.Common.{◌≡◌, ◌+◌, List, length, sym, ap, ◌∙◌, subst, refl, le_trans, arith}
use Rattle.tact_base.specs.declared.write.Write.{Write}
use Rattle.replica_core.specs.contracts.replica.Replica.{the_view}
use Rattle.replica_core.specs.Seen.{SeenState}
use Rattle.replica_core.specs.States.{Core, ReplicaState, IsKept}
use Rattle.replica_core.proofs.RoomMade.{same_core, sum_is, on_err}
use Rattle.replica_core.proofs.replica.Replica.make_room.Goals as goal

pub invariant_of-self : goal.invariant_of-self
invariant_of-self c =
    let made = c.reserve_each.ensures in
    let rooms = c.self.invariant.1 in (
      subst IsKept (same_core (the_view c.self.inside).core c.reserve_each.new.logs c.self.inside.seen made.bases made.logs refl refl refl) c.self.invariant.0,
      record {
        own = le_trans rooms.own (made.kept c.self.inside.replica);
        others = λ origin other within.
            le_trans (rooms.others origin other (omega (arith, within, ap (λ (logs : List (List Write)). length logs) made.logs))) (made.kept origin);
        seen = rooms.seen;
        budgets = rooms.budgets;
      },
      c.self.invariant.2,
    )

pub invariant_of-self-in_err-reserve : goal.invariant_of-self-in_err-reserve
invariant_of-self-in_err-reserve c =
    let made = c.reserve_each.ensures in
    let same = c.reserve.ensures.same in
    let rooms = c.self.invariant.1 in (
      subst IsKept (same_core (the_view c.self.inside).core c.reserve_each.new.logs c.reserve.new.self made.bases made.logs
          (ap (λ (s : SeenState). s.writes) same) (ap (λ (s : SeenState). s.dropped) same) (ap (λ (s : SeenState). s.point) same)) c.self.invariant.0,
      record {
        own = le_trans rooms.own (made.kept c.self.inside.replica);
        others = λ origin other within.
            le_trans (rooms.others origin other (omega (arith, within, ap (λ (logs : List (List Write)). length logs) made.logs))) (made.kept origin);
        seen = le_trans rooms.seen c.reserve.ensures.kept;
        budgets = rooms.budgets;
      },
      ap (λ (s : SeenState). s.conits) same ∙ c.self.invariant.2,
    )

pub invariant_of-self-2 : goal.invariant_of-self-2
invariant_of-self-2 c =
    let made = c.reserve_each.ensures in
    let same = c.reserve.ensures.same in
    let rooms = c.self.invariant.1 in
    let all : c.in_ok-all.all ≡ c.self.inside.spare + c.args.count = sum_is _ c.checked_add.result c.in_ok-all.all _ c.checked_add.ensures c.in_ok-all.ensures.ok_part in (
      subst IsKept (same_core (the_view c.self.inside).core c.reserve_each.new.logs c.reserve.new.self made.bases made.logs
          (ap (λ (s : SeenState). s.writes) same) (ap (λ (s : SeenState). s.dropped) same) (ap (λ (s : SeenState). s.point) same)) c.self.invariant.0,
      record {
        own = le_trans rooms.own (made.kept c.self.inside.replica);
        others = λ origin other within. c.in_ok-reserve_each.ensures.room origin (omega (
          arith,
          within,
          ap (λ (logs : List (List Write)). length logs) made.logs,
          c.self.invariant.0.places.logs_sized,
          c.replicas.ensures.count,
        ));
        seen = omega (arith, c.in_ok-reserve.ensures.room, all);
        budgets = rooms.budgets;
      },
      ap (λ (s : SeenState). s.conits) same ∙ c.self.invariant.2,
    )

pub returns-clause-core : goal.returns-clause-core
returns-clause-core c =
    let made = c.reserve_each.ensures in
    let same = c.reserve.ensures.same in
    sym (same_core (the_view c.self.inside).core c.reserve_each.new.logs c.reserve.new.self made.bases made.logs
    (ap (λ (s : SeenState). s.writes) same) (ap (λ (s : SeenState). s.dropped) same) (ap (λ (s : SeenState). s.point) same))
    ∙ ap (λ (s : ReplicaState). s.core) c.self.view_is

pub returns-in_err-reserve_each-clause-core : goal.returns-in_err-reserve_each-clause-core
returns-in_err-reserve_each-clause-core c =
    let made = c.reserve_each.ensures in
    sym (same_core (the_view c.self.inside).core c.reserve_each.new.logs c.self.inside.seen made.bases made.logs refl refl refl) ∙ ap (λ (s : ReplicaState). s.core) c.self.view_is

pub returns-in_err-reserve_each-clause-err : goal.returns-in_err-reserve_each-clause-err
returns-in_err-reserve_each-clause-err c =
    let made = c.reserve_each.ensures in
    let with_core = λ (core : Core). let s : ReplicaState = record { core = core; spare = c.self.inside.spare; beside = c.self.inside.beside } in s in
    on_err _ _ (ap with_core (sym (same_core (the_view c.self.inside).core c.reserve_each.new.logs c.self.inside.seen made.bases made.logs refl refl refl)) ∙ c.self.view_is)

pub returns-in_err-reserve-clause-core : goal.returns-in_err-reserve-clause-core
returns-in_err-reserve-clause-core c =
    let made = c.reserve_each.ensures in
    let same = c.reserve.ensures.same in
    sym (same_core (the_view c.self.inside).core c.reserve_each.new.logs c.reserve.new.self made.bases made.logs
    (ap (λ (s : SeenState). s.writes) same) (ap (λ (s : SeenState). s.dropped) same) (ap (λ (s : SeenState). s.point) same))
    ∙ ap (λ (s : ReplicaState). s.core) c.self.view_is

pub returns-in_err-reserve-clause-err : goal.returns-in_err-reserve-clause-err
returns-in_err-reserve-clause-err c =
    let made = c.reserve_each.ensures in
    let same = c.reserve.ensures.same in
    let with_core = λ (core : Core). let s : ReplicaState = record { core = core; spare = c.self.inside.spare; beside = c.self.inside.beside } in s in
    on_err _ _ (ap with_core (sym (same_core (the_view c.self.inside).core c.reserve_each.new.logs c.reserve.new.self made.bases made.logs
    (ap (λ (s : SeenState). s.writes) same) (ap (λ (s : SeenState). s.dropped) same) (ap (λ (s : SeenState). s.point) same)))
    ∙ c.self.view_is)
