-- The first place of the least of numbers, as it is looked for.
use Rattle.std.proofs.Common.{◌≡◌, ◌≢◌, ℕ, ◌+◌, ◌<◌, ◌≤◌, List, get_or, length, map, sym, ap, ◌∙◌, subst, ⊎_elim, arith}
use Rattle.std.proofs.lemmas.Bool.{cases_eq}
use Rattle.std.proofs.lemmas.List.{get_or-map}
use Rattle.replica_lock.specs.Sessions.{SessionView}
use Rattle.run_work.specs.Rounds.{IsLead}

-- the first place of the least of the numbers below a place
pub record IsLeadBelow (bound : ℕ) (numbers : List ℕ) (place : ℕ) : Type 0 where
  pub below : place < bound
  pub within : bound ≤ length numbers
  pub least : (other : ℕ) → other < bound → get_or numbers place 0 ≤ get_or numbers other 0
  pub first : (other : ℕ) → other < place → get_or numbers place 0 < get_or numbers other 0

pub IsLeadBelow-one : (numbers : List ℕ) → 0 < length numbers → IsLeadBelow 1 numbers 0
IsLeadBelow-one numbers some = record {
  below = omega arith;
  within = some;
  least = λ other below.
      let same : 0 ≡ other = omega (arith, below) in
      subst (λ o. get_or numbers 0 0 ≤ get_or numbers o 0) same (omega arith);
  first = λ other below. absurd (omega (arith, below));
}

pub IsLeadBelow-less : (bound : ℕ) (numbers : List ℕ) (place : ℕ)
    → bound < length numbers
    → get_or numbers bound 0 < get_or numbers place 0
    → IsLeadBelow bound numbers place
    → IsLeadBelow (bound + 1) numbers bound
IsLeadBelow-less bound numbers place within less lead = record {
  below = omega arith;
  within = omega (arith, within);
  least = λ other below.
      ⊎_elim (λ (same : other ≡ bound). subst (λ o. get_or numbers bound 0 ≤ get_or numbers o 0) (sym same) (omega arith))
      (λ (apart : other ≢ bound). omega (arith, less, lead.least other (omega (arith, below, apart))))
      (cases_eq other bound);
  first = λ other below. omega (arith, less, lead.least other below);
}

pub IsLeadBelow-more : (bound : ℕ) (numbers : List ℕ) (place : ℕ)
    → bound < length numbers
    → get_or numbers place 0 ≤ get_or numbers bound 0
    → IsLeadBelow bound numbers place
    → IsLeadBelow (bound + 1) numbers place
IsLeadBelow-more bound numbers place within more lead = record {
  below = omega (arith, lead.below);
  within = omega (arith, within);
  least = λ other below.
      ⊎_elim (λ (same : other ≡ bound). subst (λ o. get_or numbers place 0 ≤ get_or numbers o 0) (sym same) more)
      (λ (apart : other ≢ bound). lead.least other (omega (arith, below, apart)))
      (cases_eq other bound);
  first = lead.first;
}

pub IsLead-all : (bound : ℕ) (numbers : List ℕ) (place : ℕ)
    → length numbers ≤ bound
    → IsLeadBelow bound numbers place
    → IsLead numbers place
IsLead-all bound numbers place all lead = record {
  within = omega (arith, lead.below, lead.within);
  least = λ other within. lead.least other (omega (arith, within, all));
  first = lead.first;
}

-- the client of a session at a place
pub client_at : (sessions : List SessionView) (place : ℕ) (session : SessionView)
    → place < length sessions
    → session ≡ get_or sessions place session
    → get_or (map (λ (s : SessionView). s.client) sessions) place 0 ≡ session.client
client_at sessions place session within there =
    get_or-map (λ (s : SessionView). s.client) sessions place session 0 within ∙ ap (λ (s : SessionView). s.client) (sym there)
