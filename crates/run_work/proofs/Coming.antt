-- Sessions that come back to the ends of their nodes: what holds of all sessions, and the rosters.
use Rattle.std.proofs.Common.{◌≡◌, ℕ, ◌<◌, zero, suc, List, [], ◌∷◌, ◌++◌, All, get_or, length, map, set, refl, sym, ap, ◌∙◌, subst, ⊎_elim, arith}
use Rattle.std.proofs.lemmas.Bool.{cases_eq}
use Rattle.std.proofs.lemmas.List.Elements.{All-head, All-push}
use Rattle.tact_base.proofs.ListLemmas.{All-append_left, All-append_right}
use Rattle.replica_lock.specs.Rosters.{RosterView}
use Rattle.replica_lock.specs.Sessions.{SessionView}
use Rattle.run_work.specs.Ends.{HasCome}
use Rattle.run_work.specs.declared.seat.End.{End}

-- what holds of each session of each end
abbrev pub OfEach : (SessionView → Type 0) → List End → Type 0
OfEach P ends = All (λ (end : End). All P end.sessions.items) ends

module _ (P : SessionView → Type 0) (session : SessionView) (at : ℕ) (before after : List End) (there : at < length before) (come : HasCome session at before after) where
  -- holds of those that were there, and of the one that came
  pub OfEach-before : OfEach P after → OfEach P before
  OfEach-before each = λ place none within.
      let kept : All P (get_or after place none).sessions.items = each place none (omega (arith, within, come.count)) in
      ⊎_elim
      (λ (here : place ≡ at).
      All-append_left P (get_or before place none).sessions.items (session ∷ [])
      (subst (All P) (subst (λ (r : ℕ). (get_or after r none).sessions.items ≡ (get_or before r none).sessions.items ++ session ∷ []) (sym here) (come.sessions none)) kept))
      (λ (other : place ≡ at → ⊥). subst (λ (end : End). All P end.sessions.items) (come.others place none other) kept)
      (cases_eq place at)

  pub OfEach-come : (none : End) → OfEach P after → P session
  OfEach-come none each =
      All-head P session []
      (All-append_right P (get_or before at none).sessions.items (session ∷ [])
      (subst (All P) (come.sessions none) (each at none (omega (arith, there, come.count)))))

  -- and the other way round
  pub OfEach-after : OfEach P before → P session → OfEach P after
  OfEach-after each one = λ place none within.
      let was : All P (get_or before place none).sessions.items = each place none (omega (arith, within, come.count)) in
      ⊎_elim
      (λ (here : place ≡ at).
      subst (All P) (sym (subst (λ (r : ℕ). (get_or after r none).sessions.items ≡ (get_or before r none).sessions.items ++ session ∷ []) (sym here) (come.sessions none)))
      (All-push P (get_or before place none).sessions.items session was one))
      (λ (other : place ≡ at → ⊥). subst (λ (end : End). All P end.sessions.items) (sym (come.others place none other)) was)
      (cases_eq place at)

-- rosters stay where one end keeps its own
pub rosters_set : (ends : List End) (at : ℕ) (d new : End)
    → new.roster ≡ (get_or ends at d).roster
    → map (λ (end : End). end.roster) (set ends at new) ≡ map (λ (end : End). end.roster) ends
rosters_set [] at d new same = refl
rosters_set (first ∷ rest) zero d new same = ap (λ (roster : RosterView). roster ∷ map (λ (end : End). end.roster) rest) same
rosters_set (first ∷ rest) (suc at) d new same = ap (λ (rosters : List RosterView). first.roster ∷ rosters) (rosters_set rest at d new same)
