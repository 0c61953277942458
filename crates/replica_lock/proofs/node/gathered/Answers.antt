use Rattle.std.proofs.lemmas.Grind.{common_steps}
use Rattle.std.proofs.Common.{◌≡◌, ◌≢◌, ◌<◌, ℕ, false, arith, List, [], ◌∷◌, ◌++◌, All, AllPairs, Contains, length, map, refl, get_or, sym, ap, ◌∙◌, subst}
use Rattle.std.proofs.lemmas.List.{append_assoc}
use Rattle.std.proofs.lemmas.List.Elements.{All-nil, All-push, Contains-append_right}
use Rattle.tact_base.specs.declared.limits.TheConstants.{CLIENTS}
use Rattle.tact_base.proofs.ElementLemmas.{Contains-first}
use Rattle.atomic_table.specs.Seated.{TableId}
use Rattle.replica_lock.specs.Rosters.{HasNumbers, RosterView, no_numbers}
use Rattle.replica_lock.specs.Sessions.{HasPlacesOf, SessionView, numbers_of, own_calls, place_of}
use Rattle.replica_lock.proofs.Finishing.{All-contains, All-map, free-more, not_done, nothing-more, places-more}
use Rattle.replica_lock.proofs.node.gathered.Goals as goal

-- A session that is next among the sessions: it has the roster's count of conits.
module _ (cell : TableId) (width : ℕ) (sessions : List SessionView) (done : List SessionView) (session : SessionView) (rest : List SessionView)
    (split : done ++ session ∷ rest ≡ sessions)
    (all : All (λ (s : SessionView). (s.cell ≡ cell) × (s.conits ≡ width)) sessions) where
  conits : session.conits ≡ width
  conits =
      (All-contains (λ (s : SessionView). (s.cell ≡ cell) × (s.conits ≡ width)) sessions session all
      (subst (λ items. Contains items session) split (Contains-append_right done (session ∷ rest) session (Contains-first session session rest refl)))).1

pub loop-session-init : goal.loop-session-init
loop-session-init g c =
    let tally = c.roster.inside.tally in (
      grind (arith, common_steps),
      ap (λ (r : RosterView). r.cell) c.roster.view_is ∙ c.requires.cell,
      All-nil (λ (s : SessionView). s.client < CLIENTS),
      All-nil (λ (s : SessionView). HasPlacesOf c.args.roster.conits s.client (numbers_of s) tally),
      subst (λ (r : RosterView). (client : ℕ) → client < CLIENTS → (Contains {X = ℕ} [] client → ⊥) → HasNumbers r.conits client no_numbers tally) c.roster.view_is
          (λ client among out. c.roster.invariant.nothing client among),
      subst (λ (r : RosterView). (client : ℕ) → client < CLIENTS → (Contains r.clients client → ⊥) → HasPlacesOf r.conits client no_numbers tally) c.roster.view_is
          c.roster.invariant.free,
      All-nil (λ (s : SessionView). s.doubt ≡ false → s.calls ≡ length (own_calls s)),
    )

pub give_places-requires-clause-nothing : goal.give_places-requires-clause-nothing
give_places-requires-clause-nothing g c among =
    let done = c.loop-session.yielded in
    let session = c.in-Some.session in
    let old = c.loop-session.tally in
    let rest = c.next.new.self.rest.items in
    let split = ap (λ items. done ++ items) (sym c.in-Some.ensures.steps.0) ∙ c.loop-session.invariant.0 in
    let whole = ap (map (λ (s : SessionView). s.client)) split ∙ c.requires.whole in
    let apart = subst (λ (r : RosterView). AllPairs (λ (one other : ℕ). one ≢ other) r.clients) c.roster.view_is c.roster.invariant.apart in
    subst (λ n. HasNumbers n session.client no_numbers old) (sym (conits c.args.cell.now.id c.args.roster.conits c.args.sessions.items done session rest split c.requires.sessions))
    (c.loop-session.invariant.4 session.client among
    (not_done c.args.roster.conits c.args.roster.clients done session rest old old whole apart among (λ p apart_all. (refl, λ owned. owned))))

pub loop-session-preserved : goal.loop-session-preserved
loop-session-preserved g c =
    let invariant = c.loop-session.invariant in
    let done = c.loop-session.yielded in
    let session = c.in-Some.session in
    let rest = c.next.new.self.rest.items in
    let old = c.loop-session.tally in
    let new = c.give_places.new.tally in
    let width = c.args.roster.conits in
    let clients = c.args.roster.clients in
    let among = c.give_places.ensures.among in
    let split = ap (λ items. done ++ items) (sym c.in-Some.ensures.steps.0) ∙ invariant.0 in
    let whole = ap (map (λ (s : SessionView). s.client)) split ∙ c.requires.whole in
    let apart = subst (λ (r : RosterView). AllPairs (λ (one other : ℕ). one ≢ other) r.clients) c.roster.view_is c.roster.invariant.apart in
    let same = conits c.args.cell.now.id width c.args.sessions.items done session rest split c.requires.sessions in
    let elsewhere = subst (λ n. (p : ℕ) → ((k : ℕ) → k < 5 → p ≢ place_of n session.client k)
    → (get_or new.amounts p 0 ≡ get_or old.amounts p 0) × (get_or old.owns p 0 ≢ 0 → get_or new.owns p 0 ≢ 0)) same c.give_places.ensures.others in
    let mine = subst (λ n. HasPlacesOf n session.client (numbers_of session) new) same c.give_places.ensures.places in (
      append_assoc done (session ∷ []) rest ∙ split,
      c.give_places.ensures.cell,
      All-push (λ (s : SessionView). s.client < CLIENTS) done session invariant.2 among,
      places-more width clients done session rest old new whole apart among elsewhere invariant.2 invariant.3 mine,
      nothing-more width clients done session rest old new whole apart among elsewhere invariant.4,
      free-more width clients done session rest old new whole apart among elsewhere invariant.5,
      All-push (λ (s : SessionView). s.doubt ≡ false → s.calls ≡ length (own_calls s)) done session invariant.6 c.give_places.ensures.counted,
    )

pub returns-clause-among : goal.returns-clause-among
returns-clause-among g c =
    let invariant = c.loop-session.invariant in
    let all : c.loop-session.yielded ≡ c.args.sessions.items = grind (arith, common_steps) in
    subst (All (λ (client : ℕ). client < CLIENTS)) (ap (map (λ (s : SessionView). s.client)) all ∙ c.requires.whole)
    (All-map (λ (client : ℕ). client < CLIENTS) (λ (s : SessionView). s.client) c.loop-session.yielded invariant.2)
