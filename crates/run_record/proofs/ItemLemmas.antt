-- A weight and a need that were read are in their limits, with a conit that is none too small.
use Rattle.std.proofs.Common.{◌≡◌, ℕ, ◌-◌, ◌<◌, ◌≤◌, pos, Bool, true, false, cond, nat_lt, List, Option, None, Some, Ok, Err, refl, sym, subst, arith}
use Rattle.std.specs.Prelude.{unsigned_abs}
use Rattle.std.proofs.lemmas.Bool.{ltb-false}
use Rattle.tact_base.specs.Numbers.{whole_number, whole_signed}
use Rattle.tact_base.specs.declared.conit_list.Need.{Need}
use Rattle.tact_base.specs.declared.conit_list.Weight.{Weight}
use Rattle.tact_base.specs.declared.limits.TheConstants.{AMOUNT_MAX, MOMENT_MAX, WEIGHT_MAX}
use Rattle.tact_base.specs.ConitList.{list_fault}
use Rattle.tact_base.specs.declared.conit_list.ListFault.{ListFault}
use Rattle.tact_base.proofs.ConitListLemmas.{weight_in_limits}
use Rattle.run_model.specs.Bytes.{AreWeightsOf, AreNeedsOf}
use Rattle.run_model.proofs.WeightBytes.{limits_of, need_limits_of, need_in_limits}
use Rattle.run_model.specs.declared.status.LineKind.TheVariants.{Unordered}
use Rattle.run_record.specs.declared.lists.ListEnd.{ListEnd}
use Rattle.run_record.specs.Fields.{◌>>=◌, Tokens, token_at, in_line}
use Rattle.run_record.specs.Lists.{parts_of, three_of, four_of, both, weight_by, weight_of, need_by, need_of, weight_at, need_at, is_end, weights_at, needs_at}
use Rattle.run_record.proofs.FieldLemmas.{whole_number-most, whole_signed-most, ok_is, bind_ok, in_line-ok, both-ok}
use Rattle.run_model.proofs.Rising.{IsItem}
use Rattle.run_record.proofs.Rising.{list_is_good, never_refused}

-- what was read that isn't refused for its order
ordered : {A : Type 0} (unordered : Bool) (read x : A)
    → cond unordered (Err Unordered) (Ok read) ≡ Ok x
    → (unordered ≡ false) × (read ≡ x)
ordered true read x is = cc
ordered false read x is = (refl, ok_is read x is)

no_weight : Weight
no_weight = record { conit = 0; nweight = pos 0; oweight = 0 }

no_need : Need
no_need = record { conit = 0; num = 0; order = 0; stale = 0 }

module _ (conits : ℕ) (some : 0 < conits) where
  weight_by-limits : (parts : Option (List ℕ × List ℕ × List ℕ)) (weight : Weight)
      → weight_by conits parts ≡ Ok weight
      → (weight.conit < conits) × (weight_in_limits weight ≡ true)
  weight_by-limits None weight is = cc
  weight_by-limits (Some parts) weight is =
      let numbers = bind_ok (in_line (both (whole_number parts.0 (conits - 1)) (both (whole_signed parts.1 WEIGHT_MAX) (whole_number parts.2 WEIGHT_MAX))))
      (λ n. Ok (record { conit = n.0; nweight = n.1.0; oweight = n.1.1 })) weight is in
      let n = numbers.0 in
      let first = both-ok (whole_number parts.0 (conits - 1)) (both (whole_signed parts.1 WEIGHT_MAX) (whole_number parts.2 WEIGHT_MAX)) n (in_line-ok _ n numbers.1) in
      let second = both-ok (whole_signed parts.1 WEIGHT_MAX) (whole_number parts.2 WEIGHT_MAX) n.1 first.1 in
      let conit : n.0 ≤ conits - 1 = whole_number-most parts.0 (conits - 1) n.0 (sym first.0) in
      let nweight : unsigned_abs n.1.0 ≤ WEIGHT_MAX = whole_signed-most parts.1 WEIGHT_MAX n.1.0 (sym second.0) in
      let oweight : n.1.1 ≤ WEIGHT_MAX = whole_number-most parts.2 WEIGHT_MAX n.1.1 (sym second.1) in
      subst (λ (w : Weight). (w.conit < conits) × (weight_in_limits w ≡ true)) (ok_is (record { conit = n.0; nweight = n.1.0; oweight = n.1.1 }) weight numbers.2)
      (omega (arith, conit, some), limits_of (unsigned_abs n.1.0) n.1.1 nweight oweight)

  need_by-limits : (parts : Option (List ℕ × List ℕ × List ℕ × List ℕ)) (need : Need)
      → need_by conits parts ≡ Ok need
      → (need.conit < conits) × (need_in_limits need ≡ true)
  need_by-limits None need is = cc
  need_by-limits (Some parts) need is =
      let last = both (whole_number parts.2 AMOUNT_MAX) (whole_number parts.3 MOMENT_MAX) in
      let numbers = bind_ok (in_line (both (whole_number parts.0 (conits - 1)) (both (whole_number parts.1 AMOUNT_MAX) last)))
      (λ n. Ok (record { conit = n.0; num = n.1.0; order = n.1.1.0; stale = n.1.1.1 })) need is in
      let n = numbers.0 in
      let first = both-ok (whole_number parts.0 (conits - 1)) (both (whole_number parts.1 AMOUNT_MAX) last) n (in_line-ok _ n numbers.1) in
      let second = both-ok (whole_number parts.1 AMOUNT_MAX) last n.1 first.1 in
      let third = both-ok (whole_number parts.2 AMOUNT_MAX) (whole_number parts.3 MOMENT_MAX) n.1.1 second.1 in
      let conit : n.0 ≤ conits - 1 = whole_number-most parts.0 (conits - 1) n.0 (sym first.0) in
      let num : n.1.0 ≤ AMOUNT_MAX = whole_number-most parts.1 AMOUNT_MAX n.1.0 (sym second.0) in
      let order : n.1.1.0 ≤ AMOUNT_MAX = whole_number-most parts.2 AMOUNT_MAX n.1.1.0 (sym third.0) in
      let stale : n.1.1.1 ≤ MOMENT_MAX = whole_number-most parts.3 MOMENT_MAX n.1.1.1 (sym third.1) in
      subst (λ (w : Need). (w.conit < conits) × (need_in_limits w ≡ true)) (ok_is (record { conit = n.0; num = n.1.0; order = n.1.1.0; stale = n.1.1.1 }) need numbers.2)
      (omega (arith, conit, some), need_limits_of n.1.0 n.1.1.0 n.1.1.1 num order stale)

  pub weight_of-limits : (token : List ℕ) (weight : Weight)
      → weight_of conits token ≡ Ok weight
      → (weight.conit < conits) × (weight_in_limits weight ≡ true)
  unfolding weight_of
  weight_of-limits token weight is = weight_by-limits (three_of (parts_of token)) weight is

  pub need_of-limits : (token : List ℕ) (need : Need)
      → need_of conits token ≡ Ok need
      → (need.conit < conits) × (need_in_limits need ≡ true)
  unfolding need_of
  need_of-limits token need is = need_by-limits (four_of (parts_of token)) need is

  pub weight_at-item : (least : ℕ) (tokens : Tokens) (read : Weight × Tokens)
      → weight_at conits least tokens ≡ Ok read
      → IsItem (λ (weight : Weight). weight.conit) weight_in_limits conits least read.0
  unfolding weight_at
  weight_at-item least tokens read is =
      let token = bind_ok (token_at tokens) (λ token. weight_of conits token.0 >>= λ weight. cond (nat_lt weight.conit least) (Err Unordered) (Ok (weight, token.1))) read is in
      let weight = bind_ok (weight_of conits token.0.0) (λ weight. cond (nat_lt weight.conit least) (Err Unordered) (Ok (weight, token.0.1))) read token.2 in
      let rest = ordered (nat_lt weight.0.conit least) (weight.0, token.0.1) read weight.2 in
      let good = weight_of-limits token.0.0 weight.0 weight.1 in
      subst (λ (r : Weight × Tokens). IsItem (λ (weight : Weight). weight.conit) weight_in_limits conits least r.0) rest.1
      (record { reached = ltb-false weight.0.conit least rest.0; below = good.0; limits = good.1 })

  pub need_at-item : (least : ℕ) (tokens : Tokens) (read : Need × Tokens)
      → need_at conits least tokens ≡ Ok read
      → IsItem (λ (need : Need). need.conit) need_in_limits conits least read.0
  unfolding need_at
  need_at-item least tokens read is =
      let token = bind_ok (token_at tokens) (λ token. need_of conits token.0 >>= λ need. cond (nat_lt need.conit least) (Err Unordered) (Ok (need, token.1))) read is in
      let need = bind_ok (need_of conits token.0.0) (λ need. cond (nat_lt need.conit least) (Err Unordered) (Ok (need, token.0.1))) read token.2 in
      let rest = ordered (nat_lt need.0.conit least) (need.0, token.0.1) read need.2 in
      let good = need_of-limits token.0.0 need.0 need.1 in
      subst (λ (r : Need × Tokens). IsItem (λ (need : Need). need.conit) need_in_limits conits least r.0) rest.1
      (record { reached = ltb-false need.0.conit least rest.0; below = good.0; limits = good.1 })

  -- so weights and needs that were read are lists as their type has them
  pub weights_are_good : (end : ListEnd) (tokens : Tokens) (read : List Weight × Tokens)
      → weights_at conits end tokens ≡ Ok read
      → AreWeightsOf conits read.0
  weights_are_good end tokens read is =
      list_is_good (λ (weight : Weight). weight.conit) weight_in_limits conits (weight_at conits) (is_end end) weight_at-item no_weight tokens read is

  pub weights_not_refused : (end : ListEnd) (tokens : Tokens) (read : List Weight × Tokens) (fault : ListFault)
      → weights_at conits end tokens ≡ Ok read
      → list_fault (λ (weight : Weight). weight.conit) weight_in_limits read.0 ≡ Some fault
      → ⊥
  weights_not_refused end tokens read fault is refused =
      never_refused (λ (weight : Weight). weight.conit) weight_in_limits conits (weight_at conits) (is_end end) weight_at-item no_weight fault tokens read is refused

  pub needs_are_good : (end : ListEnd) (tokens : Tokens) (read : List Need × Tokens)
      → needs_at conits end tokens ≡ Ok read
      → AreNeedsOf conits read.0
  needs_are_good end tokens read is =
      list_is_good (λ (need : Need). need.conit) need_in_limits conits (need_at conits) (is_end end) need_at-item no_need tokens read is

  pub needs_not_refused : (end : ListEnd) (tokens : Tokens) (read : List Need × Tokens) (fault : ListFault)
      → needs_at conits end tokens ≡ Ok read
      → list_fault (λ (need : Need). need.conit) need_in_limits read.0 ≡ Some fault
      → ⊥
  needs_not_refused end tokens read fault is refused =
      never_refused (λ (need : Need). need.conit) need_in_limits conits (need_at conits) (is_end end) need_at-item no_need fault tokens read is refused
