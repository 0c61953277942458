-- The entry of a message that one sends is the last of what it sent, and the taking is put in its place.
use Rattle.std.proofs.Common.{◌≡◌, ℕ, zero, suc, ◌<◌, List, [], ◌∷◌, ◌++◌, length, get_or, set, Some, refl, sym, ap, ◌∙◌, get_or-set_same, subst, arith}
use Rattle.std.specs.List.{slice_get}
use Rattle.std.proofs.lemmas.List.{length_push, length-set}
use Rattle.run_model.specs.declared.entry.Entry.{Entry}
use Rattle.script_run.proofs.Outboxes.{last_is}

-- another in the place of the last
pub set_last : {A : Type 0} (xs : List A) (x y : A) → set (xs ++ x ∷ []) (length xs) y ≡ xs ++ y ∷ []
set_last [] x y = refl
set_last (z ∷ xs) x y = ap (λ more. z ∷ more) (set_last xs x y)

-- what was put somewhere first is gone
set_twice : {A : Type 0} (xs : List A) (i : ℕ) (x y : A) → set (set xs i x) i y ≡ set xs i y
set_twice [] i x y = refl
set_twice (z ∷ xs) zero x y = refl
set_twice (z ∷ xs) (suc i) x y = ap (λ more. z ∷ more) (set_twice xs i x y)

pub record IsLastOf (before after : List (List Entry)) (from number : ℕ) (sending : Entry) : Type 0 where
  pub sized : length after ≡ length before
  pub within : number < length (get_or after from [])
  pub found : slice_get (get_or after from []) number ≡ Some sending
  pub turned : (taking : Entry) → set after from (set (get_or after from []) number taking) ≡ set before from (get_or before from [] ++ taking ∷ [])

pub is_last_of : (before after : List (List Entry)) (from number : ℕ) (sending : Entry)
    → from < length before
    → number ≡ length (get_or before from [])
    → after ≡ set before from (get_or before from [] ++ sending ∷ [])
    → IsLastOf before after from number sending
is_last_of before after from number sending inside count is =
    subst (λ (n : ℕ). IsLastOf before after from n sending) (sym count)
    (subst (λ (sent : List (List Entry)). IsLastOf before sent from (length box) sending) (sym is) (record {
      sized = length-set before from more;
      within = omega (arith, ap length here, length_push box sending);
      found = ap (λ (b : List Entry). slice_get b (length box)) here ∙ last_is box sending;
      turned = λ taking.
          ap (λ (b : List Entry). set (set before from more) from (set b (length box) taking)) here
          ∙ ap (set (set before from more) from) (set_last box sending taking)
          ∙ set_twice before from more (box ++ taking ∷ []);
    }))
  where
    box : List Entry
    box = get_or before from []

    more : List Entry
    more = box ++ sending ∷ []

    here : get_or (set before from more) from [] ≡ more
    here = get_or-set_same before from more [] inside
