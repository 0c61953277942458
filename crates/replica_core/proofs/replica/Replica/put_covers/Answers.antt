use Rattle.std.proofs.Common.{◌≡◌, ℕ, length, map, set, get_or, subst, cond, sym, ap, ◌∙◌, ⊎_elim, arith}
use Rattle.std.proofs.lemmas.Bool.{cases_eq, eq-eqb, ne_eqb}
use Rattle.std.proofs.lemmas.List.{length-set, get_or-set_same, get_or-set_other}
use Rattle.std.proofs.lemmas.List.FromFn.{fill_by_all}
use Rattle.tact_base.specs.Covers.{no_cover}
use Rattle.replica_core.specs.States.{Core, ReplicaState, HasPlaces, cover_at, log_at, origins_of, own_cover}
use Rattle.replica_core.specs.Sending.{cover_told}
use Rattle.replica_core.proofs.replica.Replica.put_covers.Goals as goal

-- the covers, with its own in the place of what was told of it
with_own : (core : Core) (moment : ℕ)
    → HasPlaces core
    → set core.writes.covers core.replica (own_cover core moment) ≡ map (cover_told core moment) (origins_of core)
with_own core moment has =
    let covers = core.writes.covers in
    let own = own_cover core moment in
    fill_by_all (cover_told core moment) (set covers core.replica own) core.setup.replicas no_cover
    (length-set covers core.replica own ∙ has.covers_sized)
    (λ origin within.
    ⊎_elim
    (λ (same : origin ≡ core.replica).
    ap (λ (o : ℕ). get_or (set covers core.replica own) o no_cover) same
    ∙ get_or-set_same covers core.replica own no_cover (omega (arith, has.among, has.covers_sized))
    ∙ sym (ap (λ yes. cond yes own (cover_at core origin)) (eq-eqb origin core.replica same)))
    (λ (other : origin ≡ core.replica → ⊥).
    get_or-set_other covers core.replica origin own no_cover other
    ∙ sym (ap (λ yes. cond yes own (cover_at core origin)) (ne_eqb origin core.replica other)))
    (cases_eq origin core.replica))

pub returns : goal.returns
returns c =
    let core = c.args.self.now.core in
    let replica = ap (λ (s : ReplicaState). s.core.replica) c.self.view_is in
    let count = c.have.ensures ∙ ap (λ (origin : ℕ). length (log_at core origin)) replica in
    let stamp = ap (λ (s : ReplicaState). s.core.writes.clock) c.self.view_is in
    let covers = c.in_ok-replace.ensures.ok ∙ c.covers.ensures.covers ∙ ap (λ (s : ReplicaState). s.core.writes.covers) c.self.view_is in
    let has : HasPlaces core = subst (λ (s : ReplicaState). HasPlaces s.core) c.self.view_is c.self.invariant.0.places in
    c.set.ensures
    ∙ rw (covers, replica, count, stamp) (with_own core c.args.moment has)
