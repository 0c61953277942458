-- How many places each entry sells, added up.
use Rattle.std.proofs.Common.{◌≡◌, ℕ, ◌+◌, ◌<◌, ◌≤◌, ◌==◌, Bool, cond, ℤ, pos, ◌+ℤ◌, List, [], ◌∷◌, ◌++◌, drop, get_or, length, map, take, Option, None, Some, refl, sym, ap, ap₂, ◌∙◌, subst, subst₂, arith, w64, FitsSigned}
use Rattle.std.specs.Option.{option_to_list}
use Rattle.std.proofs.lemmas.Int.{ints}
use Rattle.std.proofs.lemmas.Bool.{eq-eqb}
use Rattle.std.proofs.lemmas.List.{append-nil, take-append-drop, take_more}
use Rattle.std.proofs.lemmas.List.Elements.{filter-append, filter_more}
use Rattle.tact_base.proofs.ConitListLemmas.{IsConitList-once, weight_in_limits}
use Rattle.tact_base.specs.Setup.{Setup}
use Rattle.tact_base.specs.Sums.{net_sum, on_conit, signed_sum, weights_on}
use Rattle.tact_base.specs.declared.conit_list.Weight.{Weight}
use Rattle.tact_base.specs.declared.write.Write.{Write}
use Rattle.run_model.specs.Reference.{reference}
use Rattle.run_model.specs.Runs.{IsLawful, IsRun}
use Rattle.run_model.specs.declared.entry.Entry.{Entry}
use Rattle.run_model.proofs.EntriesInRange.{acted_is_asked}
use Rattle.run_model.proofs.PartLemmas.{accepted_in}
use Rattle.run_model.proofs.PrefixLemmas.{EachAfter-last, EachAfter-prefix, IsPrefix-take}
use Rattle.run_model.proofs.WeightsInRange.{IsWeights-in_range}
use Rattle.seat_app.specs.Bookings.{BookingState, entries_of}
use Rattle.seat_app.specs.Careful.{IsNeverOversold}
use Rattle.seat_app.specs.Seats.{SeatsState}
use Rattle.seat_app.proofs.ReferenceSteps.{reference-push}
use Rattle.drawn_trades.specs.DrawnTrades.{SellsAmongThree, places, three}

-- the write of a lawful entry weighs on a conit at most once
weighs_once : (setup : Setup) (before : List Entry) (entry : Entry) (conit : ℕ)
    → IsLawful setup before entry
    → length (weights_on (option_to_list (accepted_in entry)) conit) ≤ 1
weighs_once setup before entry conit lawful = go (accepted_in entry) refl
  where
    go : (write : Option Write) → accepted_in entry ≡ write → length (weights_on (option_to_list write) conit) ≤ 1
    go None is = omega arith
    go (Some write) is =
        let asked = acted_is_asked setup entry.replica entry.moment entry.act write lawful.due.in_range.act is in
        subst (λ (weights : List Weight). length (on_conit conit weights) ≤ 1) (sym (append-nil write.weights))
        (IsConitList-once (λ (weight : Weight). weight.conit) weight_in_limits write.weights (IsWeights-in_range setup write.weights asked.weights) conit)

-- the entries of replicas that sell the places, as they are lent
module _ (booking : BookingState) (entries : List Entry) (is : SellsAmongThree booking) (lent : entries ≡ entries_of booking) where
  run_of : IsRun three entries
  run_of = subst₂ IsRun is.setup (sym lent) is.run

  never_of : IsNeverOversold three places entries
  never_of =
      subst₂ (λ (setup : Setup) (es : List Entry). IsNeverOversold setup places es) is.setup (sym lent)
      (subst (λ (seats : SeatsState). IsNeverOversold booking.setup seats (entries_of booking)) is.seats is.never_oversold)

  -- one of them
  module _ (at : ℕ) (entry : Entry) (within : at < length entries) (here : entry ≡ get_or entries at entry) where
    front_more : take (at + 1) entries ≡ take at entries ++ entry ∷ []
    front_more = take_more entries at entry within ∙ ap (λ (e : Entry). take at entries ++ e ∷ []) (sym here)

    lawful : IsLawful three (take at entries) entry
    lawful =
        EachAfter-last (IsLawful three) (take at entries) entry
        (subst (IsRun three) front_more (EachAfter-prefix (IsLawful three) (take (at + 1) entries) entries (IsPrefix-take (at + 1) entries) run_of))

    pub entry_once : (conit : ℕ) → length (weights_on (option_to_list (accepted_in entry)) conit) ≤ 1
    entry_once conit = weighs_once three (take at entries) entry conit lawful

    pub sold_more : (sold change : ℤ)
        → sold ≡ reference three (take at entries) places.conit
        → change ≡ net_sum (option_to_list (accepted_in entry)) places.conit
        → sold +ℤ change ≡ reference three (take (at + 1) entries) places.conit
    sold_more sold change sold_is change_is =
        ap (λ (z : ℤ). z +ℤ change) sold_is ∙ ap (λ (z : ℤ). reference three (take at entries) places.conit +ℤ z) change_is
        ∙ sym (reference-push three (take at entries) entry places.conit lawful.due.in_range.replica)
        ∙ ap (λ (es : List Entry). reference three es places.conit) (sym front_more)

    pub sold_fits : (sold : ℤ) → sold ≡ reference three (take (at + 1) entries) places.conit → FitsSigned w64 sold
    sold_fits sold is =
        let room = never_of (take (at + 1) entries) (IsPrefix-take (at + 1) entries) in
        omega (arith, ints, is, room.least, room.most)

-- weights of which the first so many are on other conits
module _ (conit : ℕ) (weights : List Weight) (at : ℕ) (d : Weight) (within : at < length weights) (others : on_conit conit (take at weights) ≡ []) where
  abbrev weight : Weight
  weight = get_or weights at d

  abbrev is_on : Weight → Bool
  is_on one = one.conit == conit

  -- and the next one is on the conit: no other is
  pub only_on : weight.conit ≡ conit
      → length (on_conit conit weights) ≤ 1
      → weight.nweight ≡ signed_sum (map (λ (one : Weight). one.nweight) (on_conit conit weights))
  only_on here once = by (on_conit conit (drop (at + 1) weights)) whole
    where
      whole : on_conit conit weights ≡ weight ∷ on_conit conit (drop (at + 1) weights)
      whole =
          ap (on_conit conit) (sym (take-append-drop (at + 1) weights)) ∙ filter-append is_on (take (at + 1) weights) (drop (at + 1) weights)
          ∙ ap (λ (front : List Weight). front ++ on_conit conit (drop (at + 1) weights))
          (filter_more is_on weights at d within
          ∙ ap₂ (λ (before : List Weight) (yes : Bool). before ++ cond yes (weight ∷ []) []) others (eq-eqb weight.conit conit here))

      by : (rest : List Weight)
          → on_conit conit weights ≡ weight ∷ rest
          → weight.nweight ≡ signed_sum (map (λ (one : Weight). one.nweight) (on_conit conit weights))
      by [] is =
          let alone : weight.nweight ≡ weight.nweight +ℤ pos 0 = omega (arith, ints) in
          alone ∙ ap (λ (on : List Weight). signed_sum (map (λ (one : Weight). one.nweight) on)) (sym is)
      by (next ∷ rest) is = absurd (omega (arith, once, ap length is))
