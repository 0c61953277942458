-- The committed writes that a replica holds, and how many of them at the front each replica is known to have.
use Rattle.std.proofs.Common.{◌≡◌, ℕ, ◌+◌, ◌<◌, ◌≤◌, nat_le, nat_lt, true, [], length, get_or, All, sym, ap, ◌∙◌, subst, ⊎_elim, le-ltb, lt-ltb, arith}
use Rattle.std.proofs.lemmas.Bool.{cases_lt}
use Rattle.std.proofs.lemmas.List.{append-nil, get_or_default}
use Rattle.std.specs.List.{prefix_len}
use Rattle.std.proofs.lemmas.List.Elements.{All-drop, All-filter}
use Rattle.std.proofs.lemmas.List.Sums.{prefix_len_is}
use Rattle.tact_base.specs.WriteOrder.{committed_to}
use Rattle.tact_base.specs.declared.write.Write.{Write}
use Rattle.replica_core.specs.States.{Core, IsBetweenEntries, log_at}
use Rattle.replica_core.specs.Trimming.{known_all_at, held_committed, longest_at}
use Rattle.replica_core.proofs.DroppedLemmas.{prefix_len-passed}

-- each is within the log of its origin
abbrev pub IsPlaced : Core → Write → Type 0
IsPlaced core write = (write.origin < core.setup.replicas) × (write.index < length (log_at core write.origin))

pub held-placed : (core : Core) → IsBetweenEntries core → All (IsPlaced core) (held_committed core)
held-placed core between =
    All-drop (IsPlaced core) core.writes.dropped (committed_to core.writes.point core.writes.seen)
    (All-filter (λ (write : Write). nat_le write.stamp core.writes.point) (IsPlaced core) core.writes.seen between.placed)

-- each replica is known to have each of so many
abbrev pub AreHad : Core → ℕ → Type 0
AreHad core count =
    (k : ℕ) (d : Write) → k < count → nat_lt (get_or (held_committed core) k d).index (known_all_at core (get_or (held_committed core) k d).origin) ≡ true

-- and not the next, if there is one
pub longest-found : (core : Core) (count : ℕ) (d : Write)
    → count ≤ length (held_committed core)
    → AreHad core count
    → (count < length (held_committed core) → known_all_at core (get_or (held_committed core) count d).origin ≤ (get_or (held_committed core) count d).index)
    → count ≡ longest_at core
longest-found core count d within had next =
    sym (prefix_len_is (λ (write : Write). nat_lt write.index (known_all_at core write.origin)) (held_committed core) count d within
    (λ k before. had k d before) (λ inside. le-ltb _ _ (next inside)))

-- one more of them
pub AreHad-next : (core : Core) (count : ℕ) (d : Write)
    → count < length (held_committed core)
    → AreHad core count
    → (get_or (held_committed core) count d).index < known_all_at core (get_or (held_committed core) count d).origin
    → AreHad core (count + 1)
AreHad-next core count d within had next k e before = ⊎_elim
    (λ (earlier : k < count). had k e earlier)
    (λ (last : count ≤ k).
    let same : get_or (held_committed core) count d ≡ get_or (held_committed core) k e =
    get_or_default (held_committed core) count d e within ∙ ap (λ n. get_or (held_committed core) n e) (omega (arith, last, before)) in
    subst (λ (write : Write). nat_lt write.index (known_all_at core write.origin) ≡ true) same (lt-ltb _ _ next))
    (cases_lt k count)

-- or all of them
pub longest-all : (core : Core) (count : ℕ)
    → count ≡ length (held_committed core)
    → AreHad core count
    → count ≡ longest_at core
longest-all core count all had =
    let test = λ (write : Write). nat_lt write.index (known_all_at core write.origin) in
    sym (ap (prefix_len test) (sym (append-nil (held_committed core)))
    ∙ prefix_len-passed test (held_committed core) [] (λ k d within. had k d (omega (arith, within, all)))
    ∙ omega (arith, all))
