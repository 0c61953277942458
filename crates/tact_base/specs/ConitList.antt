-- Lists of weights and of needs: at most four items, their conits strictly rising, each within its limits.
use Rattle.std.specs.Prelude.{◌≡◌, ℕ, Bool, nat_le, nat_lt, not, if◌then◌else◌, List, length, drop, Option, None, Some, position, suc}
use Rattle.std.specs.List.{zip}
use Rattle.std.specs.Option.{option_map, option_or}
use Rattle.tact_base.specs.declared.conit_list.ListFault.{ListFault}
use Rattle.tact_base.specs.declared.limits.TheConstants.{LIST_MAX}
use Rattle.tact_base.specs.declared.conit_list.ListFault.TheVariants.{TooMany, Unordered, Range}

module _ {T : Type 0} (conit : T → ℕ) (in_limits : T → Bool) where
  -- the place of the first item whose conit doesn't pass that of the item before
  abbrev pub first_unordered : List T → Option ℕ
  first_unordered items = option_map suc (position (λ pair. nat_le (conit pair.1) (conit pair.0)) (zip items (drop 1 items)))

  -- the place of the first item out of its limits
  abbrev pub first_out_of_limits : List T → Option ℕ
  first_out_of_limits items = position (λ item. not (in_limits item)) items

  -- the refusal of a list, if it is refused
  abbrev pub list_fault : List T → Option ListFault
  list_fault items =
      if nat_lt LIST_MAX (length items) then Some TooMany
      else option_or (option_map Unordered (first_unordered items)) (option_map Range (first_out_of_limits items))

  -- a list that isn't refused
  abbrev pub IsConitList : List T → Type 0
  IsConitList items = list_fault items ≡ None
