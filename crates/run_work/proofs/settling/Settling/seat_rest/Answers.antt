use Rattle.std.proofs.Common.{◌≡◌, ◌≢◌, ◌<◌, ◌≤◌, ◌+◌, ℕ, ⊎_elim, arith, get_or, length, map, sym, ◌∙◌, subst}
use Rattle.std.proofs.lemmas.Bool.{cases_eq}
use Rattle.std.proofs.lemmas.Grind.{common_steps}
use Rattle.replica_lock.specs.Sessions.{NodeView, SessionView}
use Rattle.run_work.specs.Settling.{HasSeated}
use Rattle.run_work.specs.declared.seat.End.{End}
use Rattle.run_work.proofs.Settled.{AreReady-seated, AreSettled-seated}
use Rattle.run_work.proofs.RoundSteps.{AreStill-seated}
use Rattle.run_work.proofs.settling.Settling.seat_rest.Goals as goal

pub seat-requires-clause-whole : goal.seat-requires-clause-whole
seat-requires-clause-whole g c none =
    let node : NodeView = record { cell = c.loop-replica.self.desk.table; desk = c.loop-replica.self.desk; replica = 0 } in
    let replica = c.loop-replica.replica in
    let within : replica < length c.args.self.now.nodes = grind (arith, common_steps) in
    let whole = c.requires.whole.2 in
    subst (λ (e : End). map (λ (s : SessionView). s.client) e.sessions.items ≡ e.roster.clients) (sym (c.loop-replica.invariant.3 replica none (omega arith)))
    (whole.each replica node none (omega (arith, within, whole.count))).whole

pub loop-replica-preserved : goal.loop-replica-preserved
loop-replica-preserved g c =
    let invariant = c.loop-replica.invariant in
    let seated = c.in_ok-seat.ensures.seated in
    let replica = c.loop-replica.replica in
    let now = c.seat.new.self in
    let begun = c.args.self.now in
    let others : (place : ℕ) (none : End) → replica + 1 ≤ place → get_or now.ends place none ≡ get_or begun.ends place none =
    λ place none behind. seated.others place none (λ same. absurd (omega (arith, same, behind))) ∙ invariant.3 place none (omega (arith, behind)) in
    let done : (place : ℕ) (no_node : NodeView) (none : End) → place < replica + 1 → HasSeated (get_or begun.nodes place no_node) (get_or begun.ends place none) (get_or now.ends place none) =
    λ place no_node none before.
    ⊎_elim (λ (same : place ≡ replica).
    subst (λ p. HasSeated (get_or begun.nodes p no_node) (get_or begun.ends p none) (get_or now.ends p none)) (sym same)
    (subst (λ e. HasSeated (get_or begun.nodes replica no_node) e (get_or now.ends replica none)) (invariant.3 replica none (omega arith))
    (subst (λ ns. HasSeated (get_or ns replica no_node) (get_or c.loop-replica.self.ends replica none) (get_or now.ends replica none)) invariant.1 (seated.seated no_node none))))
    (λ (other : place ≢ replica).
    subst (HasSeated (get_or begun.nodes place no_node) (get_or begun.ends place none)) (sym (seated.others place none other)) (invariant.4 place no_node none (omega (arith, before, other))))
    (cases_eq place replica) in
    (seated.desk ∙ invariant.0, seated.nodes ∙ invariant.1, seated.count ∙ invariant.2, others, done, seated.inboxes ∙ invariant.5)

pub returns-clause-settled : goal.returns-clause-settled
returns-clause-settled g c =
    let invariant = c.loop-replica.invariant in
    let over : length c.args.self.now.nodes ≤ c.loop-replica.replica = grind (arith, common_steps) in
    AreSettled-seated c.args.self.now c.loop-replica.self invariant.0 invariant.1 invariant.2 c.requires.whole.2.count
    (λ place no_node none within. invariant.4 place no_node none (omega (arith, within, over)))

pub returns-clause-ready : goal.returns-clause-ready
returns-clause-ready g c =
    let invariant = c.loop-replica.invariant in
    let node : NodeView = record { cell = c.loop-replica.self.desk.table; desk = c.loop-replica.self.desk; replica = 0 } in
    let over : length c.args.self.now.nodes ≤ c.loop-replica.replica = grind (arith, common_steps) in
    AreReady-seated c.args.self.now c.loop-replica.self invariant.0 invariant.1 invariant.2 c.requires.whole.2.count
    (λ place no_node none within. invariant.4 place no_node none (omega (arith, within, over))) node

pub returns-clause-still : goal.returns-clause-still
returns-clause-still g c =
    let invariant = c.loop-replica.invariant in
    let node : NodeView = record { cell = c.loop-replica.self.desk.table; desk = c.loop-replica.self.desk; replica = 0 } in
    let over : length c.args.self.now.nodes ≤ c.loop-replica.replica = grind (arith, common_steps) in
    AreStill-seated c.args.self.now c.loop-replica.self node invariant.5 invariant.2
    (λ place none within. invariant.4 place node none (omega (arith, within, over, c.requires.whole.2.count)))
