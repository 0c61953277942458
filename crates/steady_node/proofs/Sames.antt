-- Requests that a test takes for the same.
use Rattle.std.proofs.Common.{◌≡◌, ◌≢◌, ◌&&◌, true, false, refl, sym, ◌∙◌, subst, ap₂, arith}
use Rattle.std.specs.Prelude.{Decides}
use Rattle.std.proofs.lemmas.Bool.{and_parts, eq-eqb, false≢true}
use Rattle.std.proofs.lemmas.Bool.Decides.{nat_tests, Decides-int_eq}
use Rattle.std.proofs.lemmas.Slice.Eq.{slice_eq-Decides}
use Rattle.tact_base.specs.contracts.conit_list.NeedPartialEq.TheImpl.{eq-value as need-eq}
use Rattle.tact_base.specs.contracts.conit_list.WeightPartialEq.TheImpl.{eq-value as weight-eq}
use Rattle.tact_base.specs.contracts.write.OpPartialEq.TheImpl.{eq-value as op-eq}
use Rattle.tact_base.specs.declared.conit_list.Need.{Need}
use Rattle.tact_base.specs.declared.conit_list.Weight.{Weight}
use Rattle.tact_base.specs.declared.write.Op.{Op}
use Rattle.tact_base.specs.declared.write.Op.TheVariants as op
use Rattle.run_model.specs.contracts.call.RequestPartialEq.TheImpl.{eq-value as request-eq}
use Rattle.run_model.specs.declared.call.Request.{Request}
use Rattle.run_model.specs.declared.call.Request.TheVariants as request

same_weight : (one other : Weight) → weight-eq.it one other ≡ true → one ≡ other
same_weight one other agrees =
    let conit : one.conit ≡ other.conit = grind (arith, nat_tests) in
    let nweight : one.nweight ≡ other.nweight = (Decides-int_eq one.nweight other.nweight).0 (grind (arith, nat_tests)) in
    let oweight : one.oweight ≡ other.oweight = grind (arith, nat_tests) in
    λ i. record { conit = conit i; nweight = nweight i; oweight = oweight i }

same_need : (one other : Need) → need-eq.it one other ≡ true → one ≡ other
same_need one other agrees =
    let conit : one.conit ≡ other.conit = grind (arith, nat_tests) in
    let num : one.num ≡ other.num = grind (arith, nat_tests) in
    let order : one.order ≡ other.order = grind (arith, nat_tests) in
    let stale : one.stale ≡ other.stale = grind (arith, nat_tests) in
    λ i. record { conit = conit i; num = num i; order = order i; stale = stale i }

weight_itself : (one : Weight) → weight-eq.it one one ≡ true
weight_itself one = let sum = (Decides-int_eq one.nweight one.nweight).1 refl in grind (arith, nat_tests)

need_itself : (one : Need) → need-eq.it one one ≡ true
need_itself one = grind (arith, nat_tests)

decides_weight : (one other : Weight) → Decides (weight-eq.it one other) (one ≡ other)
decides_weight one other = (same_weight one other, λ same. subst (λ (w : Weight). weight-eq.it one w ≡ true) same (weight_itself one))

decides_need : (one other : Need) → Decides (need-eq.it one other) (one ≡ other)
decides_need one other = (same_need one other, λ same. subst (λ (n : Need). need-eq.it one n ≡ true) same (need_itself one))

same_op : (one other : Op) → op-eq.it one other ≡ true → one ≡ other
same_op (op.Put key value) (op.Put key' value') agrees =
    let parts = and_parts _ _ agrees in
    let keys : key ≡ key' = grind (arith, nat_tests) in
    ap₂ op.Put keys ((Decides-int_eq value value').0 parts.1)
same_op (op.Put key value) other agrees = absurd (false≢true agrees)
same_op (op.Add key delta) (op.Add key' delta') agrees =
    let parts = and_parts _ _ agrees in
    let keys : key ≡ key' = grind (arith, nat_tests) in
    ap₂ op.Add keys ((Decides-int_eq delta delta').0 parts.1)
same_op (op.Add key delta) other agrees = absurd (false≢true agrees)
same_op (op.Shift from to amount) (op.Shift from' to' amount') agrees = grind (arith, nat_tests)
same_op (op.Shift from to amount) other agrees = absurd (false≢true agrees)

-- requests that the test takes for the same are the same
pub same_request : (one other : Request) → request-eq.it one other ≡ true → one ≡ other
same_request (request.Write weights done) (request.Write weights' done') agrees =
    let parts = and_parts _ _ agrees in
    ap₂ request.Write ((slice_eq-Decides decides_weight weights weights' _ refl).0 parts.0) (same_op done done' parts.1)
same_request (request.Write weights done) other agrees = absurd (false≢true agrees)
same_request (request.Held weight done) (request.Held weight' done') agrees =
    let parts = and_parts _ _ agrees in
    ap₂ request.Held (same_weight weight weight' parts.0) (same_op done done' parts.1)
same_request (request.Held weight done) other agrees = absurd (false≢true agrees)
same_request (request.Reserve conit amount) (request.Reserve conit' amount') agrees = grind (arith, nat_tests)
same_request (request.Reserve conit amount) other agrees = absurd (false≢true agrees)
same_request (request.Release conit amount) (request.Release conit' amount') agrees = grind (arith, nat_tests)
same_request (request.Release conit amount) other agrees = absurd (false≢true agrees)
same_request (request.Read key needs) (request.Read key' needs') agrees =
    let parts = and_parts _ _ agrees in
    let keys : key ≡ key' = grind (arith, nat_tests) in
    ap₂ request.Read keys ((slice_eq-Decides decides_need needs needs' _ refl).0 parts.1)
same_request (request.Read key needs) other agrees = absurd (false≢true agrees)

op_itself : (one : Op) → op-eq.it one one ≡ true
op_itself (op.Put key value) = ap₂ (λ x y. x && y) (eq-eqb key key refl) ((Decides-int_eq value value).1 refl)
op_itself (op.Add key delta) = ap₂ (λ x y. x && y) (eq-eqb key key refl) ((Decides-int_eq delta delta).1 refl)
op_itself (op.Shift from to amount) = grind (arith, nat_tests)

-- and a request is the same as itself
request_itself : (one : Request) → request-eq.it one one ≡ true
request_itself (request.Write weights done) =
    ap₂ (λ x y. x && y) ((slice_eq-Decides decides_weight weights weights _ refl).1 refl) (op_itself done)
request_itself (request.Held weight done) = ap₂ (λ x y. x && y) (weight_itself weight) (op_itself done)
request_itself (request.Reserve conit amount) = grind (arith, nat_tests)
request_itself (request.Release conit amount) = grind (arith, nat_tests)
request_itself (request.Read key needs) =
    ap₂ (λ x y. x && y) (eq-eqb key key refl) ((slice_eq-Decides decides_need needs needs _ refl).1 refl)

pub other_request : (one other : Request) → request-eq.it one other ≡ false → one ≢ other
other_request one other differs same =
    false≢true (sym differs ∙ subst (λ (r : Request). request-eq.it one r ≡ true) same (request_itself one))
