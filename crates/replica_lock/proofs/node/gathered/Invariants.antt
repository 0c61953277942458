use Rattle.std.proofs.Common.{◌≡◌, ◌<◌, ℕ, false, ◌++◌, All, Contains, length, map}
use Rattle.tact_base.specs.declared.limits.TheConstants.{CLIENTS}
use Rattle.replica_lock.specs.Rosters.{HasNumbers, no_numbers}
use Rattle.replica_lock.specs.Sessions.{HasPlacesOf, SessionView, numbers_of, own_calls}
use Rattle.replica_lock.proofs.node.gathered.Given as goal

abbrev pub invariant-loop-session : goal.invariant-loop-session
invariant-loop-session g l =
    (l.yielded ++ l.session-iterator.rest.items ≡ l.fn.sessions.items)
    × (l.tally.id ≡ l.fn.cell.id)
    × All (λ (s : SessionView). s.client < CLIENTS) l.yielded
    × All (λ (s : SessionView). HasPlacesOf l.fn.roster.conits s.client (numbers_of s) l.tally) l.yielded
    × ((client : ℕ) → client < CLIENTS → (Contains (map (λ (s : SessionView). s.client) l.yielded) client → ⊥) → HasNumbers l.fn.roster.conits client no_numbers l.tally)
    × ((client : ℕ) → client < CLIENTS → (Contains l.fn.roster.clients client → ⊥) → HasPlacesOf l.fn.roster.conits client no_numbers l.tally)
    × All (λ (s : SessionView). s.doubt ≡ false → s.calls ≡ length (own_calls s)) l.yielded
