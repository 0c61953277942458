-- Seats and their views: facts on all seats where one view changes or one more comes, and who has a part.
use Rattle.std.proofs.Common.{◌≡◌, ◌≢◌, ◌⊎◌, ℕ, zero, suc, ◌<◌, ◌≤◌, ◌==◌, nat_lt, cond, if◌then◌else◌, Bool, true}
use Rattle.std.proofs.Common.{false, List, [], ◌∷◌, ◌++◌, Contains, map, length, set, slice_index, refl, sym, ap, ◌∙◌}
use Rattle.std.proofs.Common.{subst, inl, inr, ⊎_elim, arith, eq-eqb, ne_eqb}
use Rattle.std.proofs.lemmas.Bool.{cases_eq}
use Rattle.std.proofs.lemmas.Bool.Decides.{nat_tests}
use mathlib.Core.Option.{some, some-injective, some-ne-none}
use lib.ListN.{get_elem?}
use Rattle.atomic_table.proofs.Lists.{at_set, at_longer, set_else}
use Rattle.tact_base.specs.Setup.{Setup}
use Rattle.run_model.specs.Histories.{IsPrefix}
use Rattle.run_model.specs.declared.entry.Entry.{Entry}
use Rattle.run_model.proofs.PrefixLemmas.{IsPrefix-refl}
use Rattle.run_history.specs.declared.view.Part.{Part}
use Rattle.run_history.specs.declared.view.View.{View}
use Rattle.run_history.specs.Rule.{FitsSeat, HasPart, IsOneHistory}
use Rattle.run_history.specs.Steps.{longer}

module _ {A : Type 0} where
  -- what is put at a place that is within is read there
  pub at_put : (l : List A) (i : ℕ) (a b : A) → get_elem? l i ≡ some a
      → get_elem? (set l i b) i ≡ some b
  at_put [] i a b e = absurd (some-ne-none a (sym e))
  at_put (x ∷ xs) zero a b e = refl
  at_put (x ∷ xs) (suc i) a b e = at_put xs i a b e

  -- one more at the end stands there, or another within
  pub at_push : (l : List A) (a b : A) (j : ℕ) → get_elem? (l ++ a ∷ []) j ≡ some b
      → (get_elem? l j ≡ some b) ⊎ ((j ≡ length l) × (a ≡ b))
  at_push [] a b zero e = inr (refl, some-injective a b e)
  at_push [] a b (suc j) e = absurd (some-ne-none b (sym e))
  at_push (x ∷ xs) a b zero e = inl e
  at_push (x ∷ xs) a b (suc j) e = ⊎_elim inl (λ t. inr (ap suc t.0, t.1)) (at_push xs a b j e)

  -- a fact of each, where one changes
  pub each_set : (l : List A) (i : ℕ) (a : A) (F : ℕ → A → Type 0) → F i a
      → ((j : ℕ) (x : A) → j ≢ i → get_elem? l j ≡ some x → F j x) → (j : ℕ) (x : A)
      → get_elem? (set l i a) j ≡ some x → F j x
  each_set l i a F here others j x e =
      ⊎_elim (λ (same : (j ≡ i) × (a ≡ x)). rw (same.0, ← same.1) here)
      (λ (other : (j ≢ i) × (get_elem? l j ≡ some x)). others j x other.0 other.1)
      (at_set l i j a x e)

  -- and where one more comes
  pub each_push : (l : List A) (a : A) (F : ℕ → A → Type 0) → F (length l) a
      → ((j : ℕ) (x : A) → get_elem? l j ≡ some x → F j x) → (j : ℕ) (x : A)
      → get_elem? (l ++ a ∷ []) j ≡ some x → F j x
  each_push l a F here others j x e =
      ⊎_elim (λ (before : get_elem? l j ≡ some x). others j x before)
      (λ (last : (j ≡ length l) × (a ≡ x)). rw (last.0, ← last.1) here)
      (at_push l a x j e)

-- the replicas of a view's parts
abbrev pub replicas_in : View → List ℕ
replicas_in view = map (λ (part : Part). part.replica) view.parts

-- Who has a part, where a seat's view changes to one that has the part if it had it.
pub HasPart-set : (views : List View) (id : ℕ) (old new : View) (holder replica : ℕ)
    → get_elem? views id ≡ some old
    → (Contains (replicas_in old) replica → Contains (replicas_in new) replica)
    → HasPart views holder replica → HasPart (set views id new) holder replica
HasPart-set views id old new holder replica at kept has =
    ⊎_elim (λ (same : holder ≡ id).
    let is : has.view ≡ old = some-injective has.view old (sym has.at ∙ ap (get_elem? views) same ∙ at) in
    record {
      view = new;
      at = rw same (at_put views id old new at);
      part = kept (subst (λ view. Contains (replicas_in view) replica) is has.part);
    })
    (λ (other : holder ≡ id → ⊥). record {
      view = has.view;
      at = set_else views id holder new other ∙ has.at;
      part = has.part;
    })
    (cases_eq holder id)

-- where another seat's view changes
pub HasPart-set_other : (views : List View) (id : ℕ) (new : View) (holder replica : ℕ) → holder ≢ id
    → HasPart views holder replica → HasPart (set views id new) holder replica
HasPart-set_other views id new holder replica other has = record {
  view = has.view;
  at = set_else views id holder new other ∙ has.at;
  part = has.part;
}

-- where a seat comes
pub HasPart-push : (views : List View) (new : View) (holder replica : ℕ)
    → HasPart views holder replica → HasPart (views ++ new ∷ []) holder replica
HasPart-push views new holder replica has = record {
  view = has.view;
  at = at_longer views (new ∷ []) holder has.view has.at;
  part = has.part;
}

-- where parts move from a seat to another
abbrev pub moved : (ℕ → ℕ) → ℕ → ℕ → ℕ → ℕ
moved seat_of from to replica = cond (seat_of replica == from) to (seat_of replica)

pub moved-there : (seat_of : ℕ → ℕ) (from to replica : ℕ) → seat_of replica ≡ from
    → moved seat_of from to replica ≡ to
moved-there seat_of from to replica same = ap (λ yes. cond yes to (seat_of replica)) (eq-eqb (seat_of replica) from same)

pub moved-else : (seat_of : ℕ → ℕ) (from to replica : ℕ) → seat_of replica ≢ from
    → moved seat_of from to replica ≡ seat_of replica
moved-else seat_of from to replica other = ap (λ yes. cond yes to (seat_of replica)) (ne_eqb (seat_of replica) from other)

-- who has a part of a replica where all that one seat has is another's then
pub HasPart-moved : (views after : List View) (seat_of : ℕ → ℕ) (from to : ℕ) (old new : View) (replica : ℕ)
    → get_elem? views from ≡ some old
    → get_elem? after to ≡ some new
    → (Contains (replicas_in old) replica → Contains (replicas_in new) replica)
    → (seat_of replica ≢ from → HasPart views (seat_of replica) replica → HasPart after (seat_of replica) replica)
    → HasPart views (seat_of replica) replica
    → HasPart after (moved seat_of from to replica) replica
HasPart-moved views after seat_of from to old new replica at at_new kept elsewhere has = ⊎_elim
    (λ (same : seat_of replica ≡ from).
    let is : has.view ≡ old = some-injective has.view old (sym has.at ∙ ap (get_elem? views) same ∙ at) in
    rw (moved-there seat_of from to replica same) (record {
      view = new;
      at = at_new;
      part = kept (subst (λ view. Contains (replicas_in view) replica) is has.part);
    }))
    (λ (other : seat_of replica ≡ from → ⊥). rw (moved-else seat_of from to replica other) (elsewhere other has))
    (cases_eq (seat_of replica) from)

-- the rule stays where the seats alone change, and each fits
pub IsOneHistory-reseated : (setup : Setup) (words : List ℕ) (views after : List View) (seat_of : ℕ → ℕ) (kept : IsOneHistory setup words views)
    → ((replica : ℕ) → replica < slice_index words 1 → HasPart after (seat_of replica) replica)
    → ((id : ℕ) (view : View) → get_elem? after id ≡ some view → FitsSeat words seat_of kept.history id view)
    → IsOneHistory setup words after
IsOneHistory-reseated setup words views after seat_of kept held seats = record {
  history = kept.history;
  seat_of = seat_of;
  good = kept.good;
  run = kept.run;
  size = kept.size;
  drawn = kept.drawn;
  enrolled = kept.enrolled;
  unborn = kept.unborn;
  held = held;
  seats = seats;
}

-- Two fronts of one history.
module _ {A : Type 0} where
  pub shorter_begins : (xs ys zs : List A) → IsPrefix xs zs → IsPrefix ys zs → length xs ≤ length ys
      → IsPrefix xs ys
  shorter_begins [] ys zs p q le = (ys, refl)
  shorter_begins (x ∷ xs) [] zs p q le = absurd (omega arith)
  shorter_begins (x ∷ xs) (y ∷ ys) [] p q le = absurd (cc (p.1))
  shorter_begins (x ∷ xs) (y ∷ ys) (z ∷ zs) p q le =
      let heads : y ≡ x = cc (p.1, q.1) in
      let rest = shorter_begins xs ys zs (p.0, cc (p.1)) (q.0, cc (q.1)) (omega arith) in
      (rest.0, cc (heads, rest.1))

-- the longer of two fronts is one, and begins with both
pub record IsLonger (one other history both : List Entry) : Type 0 where
  pub front : IsPrefix both history
  pub first : IsPrefix one both
  pub second : IsPrefix other both

pub longer_begins : (one other history : List Entry) → IsPrefix one history → IsPrefix other history
    → IsLonger one other history (longer one other)
longer_begins one other history p q = go (nat_lt (length one) (length other)) refl
  where
    go : (yes : Bool) → nat_lt (length one) (length other) ≡ yes
        → IsLonger one other history (if yes then other else one)
    go true test =
        let less : length one < length other = grind (arith, nat_tests) in
        record { front = q; first = shorter_begins one other history p q (omega arith); second = IsPrefix-refl other }
    go false test =
        let least : length other ≤ length one = grind (arith, nat_tests) in
        record { front = p; first = IsPrefix-refl one; second = shorter_begins other one history q p least }
