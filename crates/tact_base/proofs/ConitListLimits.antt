-- A list that isn't refused by some limits, by others.
use Rattle.std.proofs.Common.{◌≡◌, ℕ, Bool, true, false, not, cond, ltb, List, [], ◌∷◌, length, All, Option, Some, None, refl, ap, arith}
use Rattle.std.specs.List.{position, position_or_len}
use Rattle.std.specs.Option.{option_map, option_or}
use Rattle.std.proofs.lemmas.Bool.Decides.{nat_tests}
use Rattle.std.proofs.lemmas.List.Sums.{position_or_len_is}
use Rattle.tact_base.specs.ConitList.{IsConitList, first_unordered, first_out_of_limits}
use Rattle.tact_base.specs.declared.conit_list.ListFault.{ListFault}
use Rattle.tact_base.specs.declared.conit_list.ListFault.TheVariants.{TooMany, Unordered, Range}

-- where no element passes there is no first that does
none_passes : {A : Type 0} (p : A → Bool) (xs : List A)
    → All (λ x. p x ≡ false) xs
    → position p xs ≡ None
none_passes p [] fails = refl
none_passes p (x ∷ xs) fails =
    let past : position_or_len p (x ∷ xs) ≡ length (x ∷ xs) =
    position_or_len_is p (x ∷ xs) (length (x ∷ xs)) x (omega arith) (λ k below. fails k x below) (λ below. absurd (omega arith)) in
    grind (arith, nat_tests)

without_out : (many : Bool) (unordered before : Option ListFault) (out : Option ℕ)
    → out ≡ None
    → cond many (Some TooMany) (option_or unordered before) ≡ None
    → cond many (Some TooMany) (option_or unordered (option_map Range out)) ≡ None
without_out true unordered before out none e = cc
without_out false (Some fault) before out none e = cc
without_out false None before (Some place) none e = cc
without_out false None before None none e = refl

-- a list that isn't refused isn't refused by other limits, where each item is within these
pub IsConitList-other_limits : {T : Type 0} (conit : T → ℕ) (before in_limits : T → Bool) (items : List T)
    → IsConitList conit before items
    → All (λ item. in_limits item ≡ true) items
    → IsConitList conit in_limits items
IsConitList-other_limits conit before in_limits items good within =
    without_out (ltb 4 (length items)) (option_map Unordered (first_unordered conit in_limits items))
    (option_map Range (first_out_of_limits conit before items)) (first_out_of_limits conit in_limits items)
    (none_passes (λ item. not (in_limits item)) items (λ k d inside. ap not (within k d inside))) good
