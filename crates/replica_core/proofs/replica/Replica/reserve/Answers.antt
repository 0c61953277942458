use Rattle.std.proofs.Common.{◌≡◌, ◌+◌, sym, ap, ◌∙◌, subst, refl, le_refl, arith}
use Rattle.replica_core.specs.contracts.replica.Replica.{the_view}
use Rattle.replica_core.specs.Seen.{SeenState}
use Rattle.replica_core.specs.States.{Core, ReplicaState, IsKept}
use Rattle.replica_core.proofs.RoomMade.{same_core, same_budgets, HasRooms-more, sum_is, on_err}
use Rattle.replica_core.proofs.replica.Replica.reserve.Goals as goal

pub invariant_of-self : goal.invariant_of-self
invariant_of-self c =
    let made = c.reserve.ensures in
    let same = same_core (the_view c.self.inside).core c.reserve.new.self c.self.inside.seen made.bases made.logs refl refl refl in
    (subst IsKept same c.self.invariant.0, HasRooms-more _ _ _ c.self.inside.logs c.reserve.new.self _ _ _ _ c.self.invariant.1 made.logs made.kept made.others (le_refl _) (le_refl _), c.self.invariant.2)

pub invariant_of-self-in_err-reserve-2 : goal.invariant_of-self-in_err-reserve-2
invariant_of-self-in_err-reserve-2 c =
    let made = c.reserve.ensures in
    let seen = c.reserve-then-k-self.ensures.same in
    let same = same_core (the_view c.self.inside).core c.reserve.new.self c.reserve-then-k-self.new.self made.bases made.logs
    (ap (λ (s : SeenState). s.writes) seen) (ap (λ (s : SeenState). s.dropped) seen) (ap (λ (s : SeenState). s.point) seen) in
    (subst IsKept same c.self.invariant.0, HasRooms-more _ _ _ c.self.inside.logs c.reserve.new.self _ _ _ _ c.self.invariant.1 made.logs made.kept made.others c.reserve-then-k-self.ensures.kept (le_refl _), ap (λ (s : SeenState). s.conits) seen ∙ c.self.invariant.2)

pub invariant_of-self-in_err-reserve_room : goal.invariant_of-self-in_err-reserve_room
invariant_of-self-in_err-reserve_room c =
    let made = c.reserve.ensures in
    let seen = c.reserve-then-k-self.ensures.same in
    let same = same_core (the_view c.self.inside).core c.reserve.new.self c.reserve-then-k-self.new.self made.bases made.logs
    (ap (λ (s : SeenState). s.writes) seen) (ap (λ (s : SeenState). s.dropped) seen) (ap (λ (s : SeenState). s.point) seen) in
    let all = same ∙ same_budgets _ c.self.inside.budgets c.reserve_room.new.self c.reserve_room.ensures.others refl in
    (subst IsKept all c.self.invariant.0, HasRooms-more _ _ _ c.self.inside.logs c.reserve.new.self _ _ _ _ c.self.invariant.1 made.logs made.kept made.others c.reserve-then-k-self.ensures.kept c.reserve_room.ensures.kept, ap (λ (s : SeenState). s.conits) seen ∙ c.self.invariant.2)

pub invariant_of-self-then-k-self : goal.invariant_of-self-then-k-self
invariant_of-self-then-k-self c =
    let made = c.reserve.ensures in
    let seen = c.reserve-then-k-self.ensures.same in
    let same = same_core (the_view c.self.inside).core c.reserve.new.self c.reserve-then-k-self.new.self made.bases made.logs
    (ap (λ (s : SeenState). s.writes) seen) (ap (λ (s : SeenState). s.dropped) seen) (ap (λ (s : SeenState). s.point) seen) in
    let all = same ∙ same_budgets _ c.self.inside.budgets c.reserve_room.new.self c.reserve_room.ensures.others refl in
    let more = HasRooms-more _ _ _ c.self.inside.logs c.reserve.new.self _ _ _ _ c.self.invariant.1 made.logs made.kept made.others c.reserve-then-k-self.ensures.kept c.reserve_room.ensures.kept in
    let sum : c.in_ok-all.all ≡ c.args.k + c.self.inside.beside = sum_is _ c.checked_add.result c.in_ok-all.all _ c.checked_add.ensures c.in_ok-all.ensures.ok_part in (
      subst IsKept all c.self.invariant.0,
      record { own = c.in_ok-reserve.ensures.room; others = more.others; seen = omega (arith, c.in_ok-reserve-2.ensures.room, sum); budgets = c.in_ok-reserve_room.ensures.ok },
      ap (λ (s : SeenState). s.conits) seen ∙ c.self.invariant.2,
    )

pub returns-in_err-reserve-clause-core : goal.returns-in_err-reserve-clause-core
returns-in_err-reserve-clause-core c =
    let made = c.reserve.ensures in
    let same = same_core (the_view c.self.inside).core c.reserve.new.self c.self.inside.seen made.bases made.logs refl refl refl in
    sym same ∙ ap (λ (s : ReplicaState). s.core) c.self.view_is

pub returns-in_err-reserve-clause-err : goal.returns-in_err-reserve-clause-err
returns-in_err-reserve-clause-err c =
    let made = c.reserve.ensures in
    let same = same_core (the_view c.self.inside).core c.reserve.new.self c.self.inside.seen made.bases made.logs refl refl refl in
    let with_core = λ (core : Core). let s : ReplicaState = record { core = core; spare = c.self.inside.spare; beside = c.self.inside.beside } in s in
    on_err _ _ (ap with_core (sym same) ∙ c.self.view_is)

pub returns-in_err-reserve-2-clause-core : goal.returns-in_err-reserve-2-clause-core
returns-in_err-reserve-2-clause-core c =
    let made = c.reserve.ensures in
    let seen = c.reserve-then-k-self.ensures.same in
    let same = same_core (the_view c.self.inside).core c.reserve.new.self c.reserve-then-k-self.new.self made.bases made.logs
    (ap (λ (s : SeenState). s.writes) seen) (ap (λ (s : SeenState). s.dropped) seen) (ap (λ (s : SeenState). s.point) seen) in
    sym same ∙ ap (λ (s : ReplicaState). s.core) c.self.view_is

pub returns-in_err-reserve-2-clause-err : goal.returns-in_err-reserve-2-clause-err
returns-in_err-reserve-2-clause-err c =
    let made = c.reserve.ensures in
    let seen = c.reserve-then-k-self.ensures.same in
    let same = same_core (the_view c.self.inside).core c.reserve.new.self c.reserve-then-k-self.new.self made.bases made.logs
    (ap (λ (s : SeenState). s.writes) seen) (ap (λ (s : SeenState). s.dropped) seen) (ap (λ (s : SeenState). s.point) seen) in
    let with_core = λ (core : Core). let s : ReplicaState = record { core = core; spare = c.self.inside.spare; beside = c.self.inside.beside } in s in
    on_err _ _ (ap with_core (sym same) ∙ c.self.view_is)

pub returns-in_err-reserve_room-clause-core : goal.returns-in_err-reserve_room-clause-core
returns-in_err-reserve_room-clause-core c =
    let made = c.reserve.ensures in
    let seen = c.reserve-then-k-self.ensures.same in
    let same = same_core (the_view c.self.inside).core c.reserve.new.self c.reserve-then-k-self.new.self made.bases made.logs
    (ap (λ (s : SeenState). s.writes) seen) (ap (λ (s : SeenState). s.dropped) seen) (ap (λ (s : SeenState). s.point) seen) in
    let all = same ∙ same_budgets _ c.self.inside.budgets c.reserve_room.new.self c.reserve_room.ensures.others refl in
    sym all ∙ ap (λ (s : ReplicaState). s.core) c.self.view_is

pub returns-in_err-reserve_room-clause-err : goal.returns-in_err-reserve_room-clause-err
returns-in_err-reserve_room-clause-err c =
    let made = c.reserve.ensures in
    let seen = c.reserve-then-k-self.ensures.same in
    let same = same_core (the_view c.self.inside).core c.reserve.new.self c.reserve-then-k-self.new.self made.bases made.logs
    (ap (λ (s : SeenState). s.writes) seen) (ap (λ (s : SeenState). s.dropped) seen) (ap (λ (s : SeenState). s.point) seen) in
    let all = same ∙ same_budgets _ c.self.inside.budgets c.reserve_room.new.self c.reserve_room.ensures.others refl in
    let with_core = λ (core : Core). let s : ReplicaState = record { core = core; spare = c.self.inside.spare; beside = c.self.inside.beside } in s in
    on_err _ _ (ap with_core (sym all) ∙ c.self.view_is)

pub returns-in_ok-reserve_room-clause-core : goal.returns-in_ok-reserve_room-clause-core
returns-in_ok-reserve_room-clause-core c =
    let made = c.reserve.ensures in
    let seen = c.reserve-then-k-self.ensures.same in
    let same = same_core (the_view c.self.inside).core c.reserve.new.self c.reserve-then-k-self.new.self made.bases made.logs
    (ap (λ (s : SeenState). s.writes) seen) (ap (λ (s : SeenState). s.dropped) seen) (ap (λ (s : SeenState). s.point) seen) in
    let all = same ∙ same_budgets _ c.self.inside.budgets c.reserve_room.new.self c.reserve_room.ensures.others refl in
    sym all ∙ ap (λ (s : ReplicaState). s.core) c.self.view_is
