-- The first reply that some places of a list give, as a loop passes over the list.
use Rattle.std.proofs.Common.{◌≡◌, ◌+◌, ◌<◌, ℕ, List, length, drop, get_or, suc, true, false, Option, None, Some, refl, sym, ap, ◌∙◌, arith, drop-cons}
use Rattle.std.specs.List.{slice_get, filter_map, cons_option}
use Rattle.std.specs.Option.{is_some}
use Rattle.run_model.specs.Replies.{first_some}
use Rattle.run_model.specs.declared.call.Reply.{Reply}

-- that of what is left is that of the next place, or of what is left then
module _ {A : Type 0} (f : A → Option Reply) (items : List A) (place : ℕ) (d : A) (within : place < length items) (given : Option Reply) (is : given ≡ f (get_or items place d)) where
  opened : first_some f (drop place items) ≡ slice_get (cons_option given (filter_map f (drop (suc place) items))) 0
  opened =
      ap (first_some f) (drop-cons items place d within)
      ∙ ap (λ (next : Option Reply). slice_get (cons_option next (filter_map f (drop (suc place) items))) 0) (sym is)

  pub first_next : is_some given ≡ true → first_some f (drop place items) ≡ given
  first_next some = opened ∙ go given some
    where
      go : (next : Option Reply)
          → is_some next ≡ true
          → slice_get (cons_option next (filter_map f (drop (suc place) items))) 0 ≡ next
      go None some = cc
      go (Some reply) some = refl

  pub first_later : is_some given ≡ false → first_some f (drop place items) ≡ first_some f (drop (place + 1) items)
  first_later none =
      let next : suc place ≡ place + 1 = omega arith in
      opened ∙ go given none ∙ ap (λ (n : ℕ). first_some f (drop n items)) next
    where
      go : (next : Option Reply)
          → is_some next ≡ false
          → slice_get (cons_option next (filter_map f (drop (suc place) items))) 0 ≡ first_some f (drop (suc place) items)
      go None none = refl
      go (Some reply) none = cc
