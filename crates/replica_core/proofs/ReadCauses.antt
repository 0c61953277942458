-- What a waiting reply to a read names is its cause.
use Rattle.std.proofs.Common.{◌≡◌, ℕ, zero, suc, ◌+◌, ◌-◌, ◌*◌, ◌<◌, ◌≤◌, ◌==◌, not, ◌&&◌, nat_lt, Bool, true, false}
use Rattle.std.proofs.Common.{cond, List, [], ◌∷◌, length, get_or, sum, find, Contains, Option, None, Some, refl, sym}
use Rattle.std.proofs.Common.{ap, ◌∙◌, subst, ⊎_elim, arith, zero-add}
use Rattle.std.specs.List.{enumerate_from}
use Rattle.std.specs.Option.{option_map}
use Rattle.std.proofs.lemmas.Bool.{cases_eq, cases_lt, eq-eqb, ne_eqb, eqb-true, ltb-true, eqb-false, and_parts}
use Rattle.std.proofs.lemmas.List.FromFn.{length-map-range_with_len, get_or-enumerate_from, length-enumerate_from}
use Rattle.std.proofs.lemmas.List.Sums.{fails_before_first, passes_at_first}
use Rattle.std.proofs.lemmas.Option.{same_Some}
use Rattle.tact_base.proofs.CoversLemmas.{least_stamp-le, least_stamp-ge}
use Rattle.tact_base.proofs.ElementLemmas.{Contains-first, Contains-later}
use Rattle.tact_base.proofs.ListLemmas.{get_or-map_range}
use Rattle.tact_base.specs.Admission.{first_over_part, lent as too_much_lent, unordered, stale, wanted_moment}
use Rattle.tact_base.specs.Covers.{no_cover, least_stamp, slowest, first_late}
use Rattle.tact_base.specs.Setup.{Setup}
use Rattle.tact_base.specs.Sums.{order_sum}
use Rattle.tact_base.specs.declared.conit_list.Need.{Need}
use Rattle.tact_base.specs.declared.write.Cover.{Cover}
use Rattle.tact_base.specs.declared.write.Late.{Late}
use Rattle.access_gate.proofs.AdmissionLemmas.{first_over_part-within, first_over_part-passes}
use Rattle.run_model.specs.Loans.{out}
use Rattle.run_model.specs.Order.{tentative}
use Rattle.run_model.specs.Replies.{waiting_by, outs_of, need_refusal}
use Rattle.run_model.specs.Taking.{cover_of, covers_of}
use Rattle.run_model.specs.declared.call.Reply.{Reply}
use Rattle.run_model.specs.declared.call.Request.{Request}
use Rattle.run_model.specs.declared.entry.Entry.{Entry}
use Rattle.run_model.proofs.SoundViews.{cover_of-same, cover_of-other}
use Rattle.replica_core.specs.Calling.{NamesCause}

-- what is found passes, and is one of the list
found_passes : {X : Type 0} (p : X → Bool) (xs : List X) (x : X)
    → find p xs ≡ Some x
    → Contains xs x × (p x ≡ true)
found_passes p [] x is = cc
found_passes {X} p (y ∷ ys) x is = go (p y) refl is (found_passes p ys x)
  where
    go : (yes : Bool)
        → p y ≡ yes
        → cond yes (Some y) (find p ys) ≡ Some x
        → (find p ys ≡ Some x → Contains ys x × (p x ≡ true))
        → Contains (y ∷ ys) x × (p x ≡ true)
    go true passes is rest =
        let same : y ≡ x = same_Some y x is in
        (Contains-first y x ys same, subst (λ z. p z ≡ true) same passes)
    go false passes is rest = let later = rest is in (Contains-later y x ys later.0, later.1)

-- a product above something has factors above 0
factor_above : (a b n : ℕ) → n < a * b → 0 < a
factor_above zero b n above = absurd (omega (arith, above))
factor_above (suc a) b n above = omega arith

-- the slowest of some covers has the least stamp
slowest_within : (covers : List Cover)
    → 0 < length covers
    → slowest covers < length covers
slowest_within covers some = ⊎_elim
    (λ (within : slowest covers < length covers). within)
    (λ (none : length covers ≤ slowest covers).
    let least = least_stamp covers in
    let test = λ (cover : Cover). cover.stamp == least in
    absurd (omega (
      arith,
      least_stamp-ge (least + 1) covers no_cover some (λ k within.
          let apart : (get_or covers k no_cover).stamp ≡ least → ⊥ = eqb-false _ _ (fails_before_first test covers k no_cover (omega (arith, within, none))) in
          omega (arith, apart, least_stamp-le covers k no_cover within)),
    )))
    (cases_lt (slowest covers) (length covers))

slowest_stamp : (covers : List Cover)
    → 0 < length covers
    → (get_or covers (slowest covers) no_cover).stamp ≡ least_stamp covers
slowest_stamp covers some = eqb-true _ _ (passes_at_first (λ (cover : Cover). cover.stamp == least_stamp covers) covers no_cover (slowest_within covers some))

module _ (setup : Setup) (replica : ℕ) (part : List Entry) (moment : ℕ) (among : replica < setup.replicas) (many : 2 ≤ setup.replicas) (asked : Request) where
  abbrev covers : List Cover
  covers = covers_of setup replica part moment

  covers_sized : (at : ℕ) → length (covers_of setup replica part at) ≡ setup.replicas
  covers_sized at = length-map-range_with_len (cover_of replica part at) 0 setup.replicas

  cover_at : (at k : ℕ)
      → k < setup.replicas
      → get_or (covers_of setup replica part at) k no_cover ≡ cover_of replica part at k
  cover_at at k within = get_or-map_range (cover_of replica part at) setup.replicas k no_cover within

  -- stamps don't depend on the moment of its own cover
  stamp_at : (one other k : ℕ) → (cover_of replica part one k).stamp ≡ (cover_of replica part other k).stamp
  stamp_at one other k = ⊎_elim
      (λ (same : k ≡ replica). rw (same, cover_of-same replica part one, cover_of-same replica part other) refl)
      (λ (differ : k ≡ replica → ⊥). rw (cover_of-other replica part one k differ, cover_of-other replica part other k differ) refl)
      (cases_eq k replica)

  least_at : (one other : ℕ) → least_stamp (covers_of setup replica part one) ≤ least_stamp (covers_of setup replica part other)
  least_at one other =
      least_stamp-ge (least_stamp (covers_of setup replica part one)) (covers_of setup replica part other) no_cover (omega (arith, covers_sized other, among))
      (λ k inside.
      let within : k < setup.replicas = omega (arith, inside, covers_sized other) in
      omega (
        arith,
        least_stamp-le (covers_of setup replica part one) k no_cover (omega (arith, within, covers_sized one)),
        ap (λ (c : Cover). c.stamp) (cover_at one k within),
        ap (λ (c : Cover). c.stamp) (cover_at other k within),
        stamp_at one other k,
      ))

  -- too much is lent
  module _ (need : Need) where
    abbrev outs : List ℕ
    outs = outs_of setup replica part need.conit

    abbrev holds : ℕ → ℕ
    holds holder = cond (holder == replica) 0 (out setup replica part holder need.conit)

    lent_names : need.num < sum outs
        → NamesCause setup replica part moment asked (waiting_by need moment (too_much_lent (first_over_part outs need.num) (get_or outs (first_over_part outs need.num) 0) (sum outs)))
    lent_names passed =
        let named = first_over_part outs need.num in
        let size : length outs ≡ setup.replicas = length-map-range_with_len holds 0 setup.replicas in
        let own : get_or outs replica 0 ≡ 0 = get_or-map_range holds setup.replicas replica 0 among
        ∙ ap (λ yes. cond yes 0 (out setup replica part replica need.conit)) (eq-eqb replica replica refl) in
        let inside = first_over_part-within outs need.num (omega (arith, size, many)) (replica, omega (arith, size, among), own) passed in
        let within : named < setup.replicas = omega (arith, inside, size) in
        let is : get_or outs named 0 ≡ holds named = get_or-map_range holds setup.replicas named 0 within in
        let above = factor_above (get_or outs named 0) (length outs - 1) need.num (first_over_part-passes outs need.num inside) in
        let other : named ≡ replica → ⊥ = λ same. absurd (omega (arith, above, own, ap (λ k. get_or outs k 0) same)) in
        (within, other, is ∙ ap (λ yes. cond yes 0 (out setup replica part named need.conit)) (ne_eqb named replica other), above)

    -- too much is tentative
    order_names : need.order < order_sum (tentative setup replica part) need.conit
        → NamesCause setup replica part moment asked (waiting_by need moment (unordered (slowest covers) (order_sum (tentative setup replica part) need.conit)))
    order_names passed =
        let some : 0 < length covers = omega (arith, covers_sized moment, among) in
        let within : slowest covers < setup.replicas = omega (arith, covers_sized moment, slowest_within covers some) in
        (within, omega (arith, slowest_stamp covers some, ap (λ (c : Cover). c.stamp) (cover_at moment (slowest covers) within), least_at moment 0, least_at 0 moment), omega (arith, passed))

    -- a peer is late
    late_names : (late : Late)
        → first_late covers replica (wanted_moment moment need) ≡ Some late
        → NamesCause setup replica part moment asked (waiting_by need moment (stale late))
    late_names late is = go (find is_late (enumerate_from 0 covers)) refl is
      where
        is_late : ℕ × Cover → Bool
        is_late one = not (one.0 == replica) && nat_lt one.1.moment (wanted_moment moment need)

        go : (found : Option (ℕ × Cover))
            → find is_late (enumerate_from 0 covers) ≡ found
            → option_map {U = Late} (λ (late : ℕ × Cover). record { replica = late.0; moment = late.1.moment }) found ≡ Some late
            → NamesCause setup replica part moment asked (waiting_by need moment (stale late))
        go None finds is = cc
        go (Some one) finds is =
            let found = found_passes is_late (enumerate_from 0 covers) one finds in
            let parts = and_parts (not (one.0 == replica)) (nat_lt one.1.moment (wanted_moment moment need)) found.1 in
            let k : ℕ = found.0.0 in
            let within : k < setup.replicas = omega (arith, found.0.1, length-enumerate_from 0 covers, covers_sized moment) in
            let reads : one ≡ (0 + k, get_or covers k one.1) = sym found.0.2 ∙ get_or-enumerate_from 0 covers k one (omega (arith, within, covers_sized moment)) in
            let number : one.0 ≡ k = ap (λ (pair : ℕ × Cover). pair.0) reads ∙ zero-add k in
            let cover : one.1 ≡ cover_of replica part moment one.0 =
            ap (λ (pair : ℕ × Cover). pair.1) reads ∙ get_or-map_range (cover_of replica part moment) setup.replicas k one.1 within ∙ ap (cover_of replica part moment) (sym number) in
            let other : one.0 ≡ replica → ⊥ = λ same. differs (one.0 == replica) parts.0 (eq-eqb one.0 replica same) in
            subst (λ (late : Late). NamesCause setup replica part moment asked (waiting_by need moment (stale late))) (same_Some _ late is)
            (omega (arith, number, within), other, ap (λ (c : Cover). c.moment) cover, ltb-true _ _ parts.1)
          where
            differs : (yes : Bool) → not yes ≡ true → yes ≡ true → ⊥
            differs true isnt is = cc
            differs false isnt is = cc

    -- whatever a need waits for
    pub need_names : (given : Reply)
        → need_refusal setup replica part moment need ≡ Some given
        → NamesCause setup replica part moment asked given
    need_names given =
        let weight = order_sum (tentative setup replica part) need.conit in
        go (nat_lt need.num (sum outs)) refl (nat_lt need.order weight) refl (first_late covers replica (wanted_moment moment need)) refl
      where
        go : (much : Bool)
            → nat_lt need.num (sum outs) ≡ much
            → (disordered : Bool)
            → nat_lt need.order (order_sum (tentative setup replica part) need.conit) ≡ disordered
            → (late : Option Late)
            → first_late covers replica (wanted_moment moment need) ≡ late
            → option_map (waiting_by need moment) (cond much (Some (too_much_lent (first_over_part outs need.num) (get_or outs (first_over_part outs need.num) 0) (sum outs)))
            (cond disordered (Some (unordered (slowest covers) (order_sum (tentative setup replica part) need.conit))) (option_map stale late))) ≡ Some given
            → NamesCause setup replica part moment asked given
        go true is_much disordered is_other late is_late is = subst (NamesCause setup replica part moment asked) (same_Some _ given is) (lent_names (ltb-true _ _ is_much))
        go false is_much true is_other late is_late is = subst (NamesCause setup replica part moment asked) (same_Some _ given is) (order_names (ltb-true _ _ is_other))
        go false is_much false is_other None is_late is = cc
        go false is_much false is_other (Some late) is_late is = subst (NamesCause setup replica part moment asked) (same_Some _ given is) (late_names late is_late)
