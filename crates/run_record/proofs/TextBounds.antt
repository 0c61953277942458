-- The loans of a bound line, read as a loop does; and what a bound line that was read is.
use Rattle.std.proofs.Common.{◌≡◌, ℕ, zero, suc, ◌-◌, ◌+◌, ◌≤◌, ◌<◌, ◌==◌, Bool, true, false, cond, List, [], ◌∷◌, ◌++◌, length, sum, Ok, Err, refl, sym, ap, subst, ◌∙◌, add-one, arith}
use Rattle.std.specs.Prelude.{nat_lt, codes}
use Rattle.std.proofs.lemmas.Bool.{ltb-false}
use Rattle.std.proofs.lemmas.List.{append-nil}
use Rattle.tact_base.specs.declared.limits.TheConstants.{ALPHA_MAX}
use Rattle.tact_base.specs.Numbers.{whole_number}
use Rattle.run_model.specs.declared.status.LineKind.{LineKind}
use Rattle.run_model.specs.declared.status.LineKind.TheVariants.{BadHeader, Extra, LoansOver}
use Rattle.run_record.specs.declared.parts.Bound.{Bound}
use Rattle.run_record.specs.CallTokens.{word_due}
use Rattle.run_record.specs.EntriesAt.{loan_bound}
use Rattle.run_record.specs.Fields.{◌>>=◌, Tokens, Field, token_at, in_line, number_at, end_at}
use Rattle.run_record.specs.RecordLines.{number_due, loan_most, loans_at, bound_fields, bound_line}
use Rattle.run_record.proofs.FieldLemmas.{whole_number-most, ok_is, bind_ok, in_line-ok}
use Rattle.run_record.proofs.ListLoop.{with_front, regroup}
use Rattle.run_record.proofs.SetupRows.{AreLoans, IsBound}

-- ---- loans, in a loop

module _ (owner : ℕ) (total : Field (List ℕ)) where
  pub loan_goes_on : (front : List ℕ) (count i holder : ℕ) (tokens : Tokens) (loan : ℕ) (next : Tokens)
      → i < count
      → number_at (loan_most owner holder) tokens ≡ Ok (loan, next)
      → with_front front (loans_at owner (count - i) holder tokens) ≡ total
      → with_front (front ++ loan ∷ []) (loans_at owner (count - (i + 1)) (holder + 1) next) ≡ total
  unfolding loans_at
  loan_goes_on front count i holder tokens loan next lt h so_far =
      let k : count - i ≡ suc (count - (i + 1)) = omega arith in
      let one : with_front front (loans_at owner (count - i) holder tokens) ≡ with_front (front ++ loan ∷ []) (loans_at owner (count - (i + 1)) (suc holder) next) =
      rw (k, h) (regroup front loan (loans_at owner (count - (i + 1)) (suc holder) next)) in
      rw (add-one holder) (sym one ∙ so_far)

  pub loan_fails : (front : List ℕ) (count i holder : ℕ) (tokens : Tokens) (kind : LineKind)
      → i < count
      → number_at (loan_most owner holder) tokens ≡ Err kind
      → with_front front (loans_at owner (count - i) holder tokens) ≡ total
      → total ≡ Err kind
  unfolding loans_at
  loan_fails front count i holder tokens kind lt h so_far =
      let k : count - i ≡ suc (count - (i + 1)) = omega arith in
      let one : with_front front (loans_at owner (count - i) holder tokens) ≡ Err kind = rw (k, h) refl in
      sym so_far ∙ one

  pub loans_are_done : (front : List ℕ) (count i holder : ℕ) (tokens : Tokens)
      → count ≤ i
      → with_front front (loans_at owner (count - i) holder tokens) ≡ total
      → total ≡ Ok (front, tokens)
  unfolding loans_at
  loans_are_done front count i holder tokens le so_far =
      let k : count - i ≡ 0 = omega arith in
      let one : with_front front (loans_at owner (count - i) holder tokens) ≡ Ok (front, tokens) = rw k (ap (λ (ls : List ℕ). Ok (ls, tokens)) (append-nil front)) in
      sym so_far ∙ one

-- ---- what was read

-- a number that was read is at most the greatest of its field
pub number_at-most : (most : ℕ) (tokens : Tokens) (read : ℕ × Tokens)
    → number_at most tokens ≡ Ok read
    → read.0 ≤ most
unfolding number_at
number_at-most most tokens read is =
    let token = bind_ok (token_at tokens) (λ token. in_line (whole_number token.0 most) >>= λ number. Ok (number, token.1)) read is in
    let number = bind_ok (in_line (whole_number token.0.0 most)) (λ number. Ok (number, token.0.1)) read token.2 in
    let same : number.0 ≡ read.0 = ap (λ (r : ℕ × Tokens). r.0) (ok_is (number.0, token.0.1) read number.2) in
    let within : number.0 ≤ most = whole_number-most token.0.0 most number.0 (sym (in_line-ok (whole_number token.0.0 most) number.0 number.1)) in
    omega (arith, within, same)

below_bound : (own : Bool) (loan : ℕ) → loan ≤ cond own 0 ALPHA_MAX → loan < cond own 1 (suc ALPHA_MAX)
below_bound true loan le = omega (arith, le)
below_bound false loan le = omega (arith, le)

abbrev AreRead : ℕ → ℕ → ℕ → List ℕ → Type 0
AreRead owner count holder loans = (length loans ≡ count) × AreLoans owner holder loans

pub loans_are_good : (owner count holder : ℕ) (tokens : Tokens) (read : List ℕ × Tokens)
    → loans_at owner count holder tokens ≡ Ok read
    → AreRead owner count holder read.0
unfolding loans_at
loans_are_good owner zero holder tokens read is =
    subst (λ (r : List ℕ × Tokens). AreRead owner 0 holder r.0) (ok_is ([], tokens) read is) (refl, tt)
loans_are_good owner (suc count) holder tokens read is =
    let loan = bind_ok (number_at (loan_most owner holder) tokens) (λ loan. loans_at owner count (suc holder) loan.1 >>= λ others. Ok (loan.0 ∷ others.0, others.1)) read is in
    let others = bind_ok (loans_at owner count (suc holder) loan.0.1) (λ others. Ok (loan.0.0 ∷ others.0, others.1)) read loan.2 in
    let rest = loans_are_good owner count (suc holder) loan.0.1 others.0 others.1 in
    let here : loan.0.0 < loan_bound owner holder = below_bound (holder == owner) loan.0.0 (number_at-most (loan_most owner holder) tokens loan.0 loan.1) in
    subst (λ (r : List ℕ × Tokens). AreRead owner (suc count) holder r.0) (ok_is (loan.0.0 ∷ others.0.0, others.0.1) read others.2)
    (ap suc rest.0, (here, rest.1))

make_bound : ℕ → List ℕ → Bound
make_bound alpha loans = record { alpha = alpha; loans = loans }

fields_are_good : (replicas owner conit : ℕ) (tokens : Tokens) (bound : Bound)
    → bound_fields replicas owner conit tokens ≡ Ok bound
    → (bound.alpha ≤ ALPHA_MAX) × AreRead owner replicas 0 bound.loans
unfolding bound_fields make_bound
fields_are_good replicas owner conit tokens bound is =
    let word = bind_ok (word_due (codes "bound") BadHeader tokens) _ bound is in
    let first = bind_ok (number_due owner word.0) _ bound word.2 in
    let second = bind_ok (number_due conit first.0) _ bound first.2 in
    let alpha = bind_ok (number_at ALPHA_MAX second.0) _ bound second.2 in
    let loans = bind_ok (loans_at owner replicas 0 alpha.0.1) _ bound alpha.2 in
    let end = bind_ok (end_at Extra loans.0.1) _ bound loans.2 in
    subst (λ (b : Bound). (b.alpha ≤ ALPHA_MAX) × AreRead owner replicas 0 b.loans) (ok_is (make_bound alpha.0.0 loans.0.0) bound end.2)
    (number_at-most ALPHA_MAX second.0 alpha.0 alpha.1, loans_are_good owner replicas 0 alpha.0.1 loans.0 loans.1)

kept : (over : Bool) (x y : Bound)
    → cond over (Err LoansOver) (Ok x) ≡ Ok y
    → (over ≡ false) × (x ≡ y)
kept true x y is = cc
kept false x y is = (refl, ok_is x y is)

-- a bound that was read is one
pub bound_is_good : (replicas owner conit : ℕ) (tokens : Tokens) (bound : Bound)
    → bound_line replicas owner conit tokens ≡ Ok bound
    → IsBound replicas owner bound
unfolding bound_line
bound_is_good replicas owner conit tokens bound is =
    let fields = bind_ok (bound_fields replicas owner conit tokens) (λ (b : Bound). cond (nat_lt b.alpha (sum b.loans)) (Err LoansOver) (Ok b)) bound is in
    let within = kept (nat_lt fields.0.alpha (sum fields.0.loans)) fields.0 bound fields.2 in
    let good = fields_are_good replicas owner conit tokens fields.0 fields.1 in
    subst (IsBound replicas owner) within.1 (record {
      alpha = good.0;
      long = good.1.0;
      loans = good.1.1;
      total = ltb-false fields.0.alpha (sum fields.0.loans) within.0;
    })
