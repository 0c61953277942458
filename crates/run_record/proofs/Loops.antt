-- Reading one after the other, as loops do.
use Rattle.std.proofs.Common.{◌≡◌, ◌≢◌, ℕ, suc, ◌-◌, ◌+◌, ◌/◌, ◌≤◌, ◌<◌, ◌==◌, true, false, List, [], ◌∷◌, ◌++◌, Result, Ok, Err, refl, sym, ap, subst, ◌∙◌, append_assoc, add-one, arith}
use Rattle.std.proofs.lemmas.Bool.{eq-eqb}
use Rattle.std.proofs.lemmas.Bool.Decides.{nat_tests}
use Rattle.std.proofs.lemmas.List.{append-nil}
use Rattle.run_model.specs.declared.fields.FieldFault.{FieldFault}
use Rattle.run_model.specs.declared.fields.FieldFault.TheVariants as field
use Rattle.run_model.specs.Bytes.{◌>>=◌, Field, number_at}
use Rattle.run_record.specs.declared.fault.RecordFault.{RecordFault}
use Rattle.run_record.specs.declared.fault.RecordFault.TheVariants as fault
use Rattle.run_record.specs.declared.fault.PartFault.{PartFault}
use Rattle.run_record.specs.declared.fault.PartFault.TheVariants as part
use Rattle.run_record.specs.declared.parts.Bound.{Bound}
use Rattle.run_record.specs.declared.short.Short.{Short}
use Rattle.run_record.specs.EntriesAt.{loan_bound, loans_at, tag_at, short_at, shorts_at}
use Rattle.run_record.specs.RecordAt.{Part, Tells, then_part, bound_at, bounds_at}
use Rattle.run_record.specs.PartFaults.{IsFaultOf, behind}

regroup : {A : Type 0} (front : List A) (w : A) (read : Field (List A))
    → behind front (read >>= λ x. Ok (w ∷ x.0, x.1)) ≡ behind (front ++ w ∷ []) read
regroup {A = A} front w (Ok x) = ap (λ (ws : List A). Ok (ws, x.1)) (simp append_assoc)
regroup front w (Err f) = refl

pub at_first : {A : Type 0} (read : Field (List A)) → behind [] read ≡ read
at_first (Ok x) = refl
at_first (Err f) = refl

-- ---- loans

module _ (owner : ℕ) (bytes : List ℕ) (total : Field (List ℕ)) where
  pub loan_goes_on : (front : List ℕ) (count i holder place loan next : ℕ)
      → i < count
      → number_at 0 (loan_bound owner holder) bytes place ≡ Ok (loan, next)
      → behind front (loans_at owner (count - i) holder bytes place) ≡ total
      → behind (front ++ loan ∷ []) (loans_at owner (count - (i + 1)) (holder + 1) bytes next) ≡ total
  unfolding loans_at
  loan_goes_on front count i holder place loan next lt h so_far =
      let k : count - i ≡ suc (count - (i + 1)) = omega arith in
      let one : behind front (loans_at owner (count - i) holder bytes place) ≡ behind (front ++ loan ∷ []) (loans_at owner (count - (i + 1)) (suc holder) bytes next) =
      rw (k, h) (regroup front loan (loans_at owner (count - (i + 1)) (suc holder) bytes next)) in
      rw (add-one holder) (sym one ∙ so_far)

  pub loan_ends : (front : List ℕ) (count i holder place : ℕ) (f : FieldFault)
      → i < count
      → number_at 0 (loan_bound owner holder) bytes place ≡ Err f
      → behind front (loans_at owner (count - i) holder bytes place) ≡ total
      → total ≡ Err f
  unfolding loans_at
  loan_ends front count i holder place f lt h so_far =
      let k : count - i ≡ suc (count - (i + 1)) = omega arith in
      let one : behind front (loans_at owner (count - i) holder bytes place) ≡ Err f = rw (k, h) refl in
      sym so_far ∙ one

  pub loans_are_done : (front : List ℕ) (count i holder place : ℕ)
      → count ≤ i
      → behind front (loans_at owner (count - i) holder bytes place) ≡ total
      → total ≡ Ok (front, place)
  unfolding loans_at
  loans_are_done front count i holder place le so_far =
      let k : count - i ≡ 0 = omega arith in
      let one : behind front (loans_at owner (count - i) holder bytes place) ≡ Ok (front, place) = rw k (ap (λ (ls : List ℕ). Ok (ls, place)) (append-nil front)) in
      sym so_far ∙ one

-- ---- entries

module _ (replicas conits : ℕ) (bytes : List ℕ) (total : Field (List Short)) where
  pub entry_goes_on : (front : List Short) (count i place tag mid : ℕ) (short : Short) (next : ℕ)
      → i < count
      → tag_at bytes place ≡ Ok (tag, mid)
      → tag ≢ 255
      → short_at replicas conits tag bytes mid ≡ Ok (short, next)
      → behind front (shorts_at replicas conits (count - i) bytes place) ≡ total
      → behind (front ++ short ∷ []) (shorts_at replicas conits (count - (i + 1)) bytes next) ≡ total
  unfolding shorts_at
  entry_goes_on front count i place tag mid short next lt t isnt h so_far =
      let k : count - i ≡ suc (count - (i + 1)) = omega arith in
      let more : (tag == 255) ≡ false = grind (arith, nat_tests) in
      let one : behind front (shorts_at replicas conits (count - i) bytes place) ≡ behind (front ++ short ∷ []) (shorts_at replicas conits (count - (i + 1)) bytes next) =
      rw (k, t, more, h) (regroup front short (shorts_at replicas conits (count - (i + 1)) bytes next)) in
      sym one ∙ so_far

  pub entries_end : (front : List Short) (count i place tag mid : ℕ)
      → i < count
      → tag_at bytes place ≡ Ok (tag, mid)
      → tag ≡ 255
      → behind front (shorts_at replicas conits (count - i) bytes place) ≡ total
      → total ≡ Ok (front, mid)
  unfolding shorts_at
  entries_end front count i place tag mid lt t is so_far =
      let k : count - i ≡ suc (count - (i + 1)) = omega arith in
      let last : (tag == 255) ≡ true = eq-eqb tag 255 is in
      let one : behind front (shorts_at replicas conits (count - i) bytes place) ≡ Ok (front, mid) = rw (k, t, last) (ap (λ (xs : List Short). Ok (xs, mid)) (append-nil front)) in
      sym so_far ∙ one

  pub tag_fault : (front : List Short) (count i place : ℕ) (f : FieldFault)
      → i < count
      → tag_at bytes place ≡ Err f
      → behind front (shorts_at replicas conits (count - i) bytes place) ≡ total
      → total ≡ Err f
  unfolding shorts_at
  tag_fault front count i place f lt t so_far =
      let k : count - i ≡ suc (count - (i + 1)) = omega arith in
      let one : behind front (shorts_at replicas conits (count - i) bytes place) ≡ Err f = rw (k, t) refl in
      sym so_far ∙ one

  pub entry_fault : (fault : PartFault) (front : List Short) (count i place tag mid : ℕ)
      → i < count
      → tag_at bytes place ≡ Ok (tag, mid)
      → tag ≢ 255
      → IsFaultOf (short_at replicas conits tag bytes mid) fault
      → behind front (shorts_at replicas conits (count - i) bytes place) ≡ total
      → IsFaultOf total fault
  unfolding shorts_at
  entry_fault (part.Field f) front count i place tag mid lt t isnt h so_far =
      let k : count - i ≡ suc (count - (i + 1)) = omega arith in
      let more : (tag == 255) ≡ false = grind (arith, nat_tests) in
      let one : behind front (shorts_at replicas conits (count - i) bytes place) ≡ Err f = rw (k, t, more, h) refl in
      sym so_far ∙ one
  entry_fault part.NoMemory front count i place tag mid lt t isnt h so_far = tt

  pub entries_run_out : (front : List Short) (count i place : ℕ)
      → count ≤ i
      → behind front (shorts_at replicas conits (count - i) bytes place) ≡ total
      → total ≡ Err field.Short
  unfolding shorts_at
  entries_run_out front count i place le so_far =
      let k : count - i ≡ 0 = omega arith in
      let one : behind front (shorts_at replicas conits (count - i) bytes place) ≡ Err field.Short = rw k refl in
      sym so_far ∙ one

-- ---- bounds

-- what is read, behind what there was
abbrev pub behind_part : {A : Type 0} → List A → Part (List A) → Part (List A)
behind_part front read = then_part read (λ found. Ok (front ++ found.0, found.1))

regroup_part : {A : Type 0} (front : List A) (w : A) (read : Part (List A))
    → behind_part front (then_part read (λ x. Ok (w ∷ x.0, x.1))) ≡ behind_part (front ++ w ∷ []) read
regroup_part {A = A} front w (Ok x) = ap (λ (ws : List A). Ok (ws, x.1)) (simp append_assoc)
regroup_part front w (Err f) = refl

pub part_at_first : {A : Type 0} (read : Part (List A)) → behind_part [] read ≡ read
part_at_first (Ok x) = refl
part_at_first (Err f) = refl

module _ (replicas conits : ℕ) (bytes : List ℕ) (total : Part (List Bound)) where
  pub bound_goes_on : (front : List Bound) (count i place : ℕ) (bound : Bound) (next : ℕ)
      → i < count
      → bound_at replicas (i / conits) bytes place ≡ Ok (bound, next)
      → behind_part front (bounds_at replicas conits (count - i) i bytes place) ≡ total
      → behind_part (front ++ bound ∷ []) (bounds_at replicas conits (count - (i + 1)) (i + 1) bytes next) ≡ total
  unfolding bounds_at
  bound_goes_on front count i place bound next lt h so_far =
      let k : count - i ≡ suc (count - (i + 1)) = omega arith in
      let one : behind_part front (bounds_at replicas conits (count - i) i bytes place) ≡ behind_part (front ++ bound ∷ []) (bounds_at replicas conits (count - (i + 1)) (suc i) bytes next) =
      rw (k, h) (regroup_part front bound (bounds_at replicas conits (count - (i + 1)) (suc i) bytes next)) in
      let last : i + 1 ≡ suc i = omega arith in
      subst (λ r. behind_part (front ++ bound ∷ []) (bounds_at replicas conits (count - (i + 1)) r bytes next) ≡ total) (sym last) (sym one ∙ so_far)

  pub bound_fault : (front : List Bound) (count i place : ℕ) (f : RecordFault)
      → i < count
      → bound_at replicas (i / conits) bytes place ≡ Err f
      → behind_part front (bounds_at replicas conits (count - i) i bytes place) ≡ total
      → total ≡ Err f
  unfolding bounds_at
  bound_fault front count i place f lt h so_far =
      let k : count - i ≡ suc (count - (i + 1)) = omega arith in
      let one : behind_part front (bounds_at replicas conits (count - i) i bytes place) ≡ Err f = rw (k, h) refl in
      sym so_far ∙ one

  pub bounds_are_done : (front : List Bound) (count i place : ℕ)
      → count ≤ i
      → behind_part front (bounds_at replicas conits (count - i) i bytes place) ≡ total
      → total ≡ Ok (front, place)
  unfolding bounds_at
  bounds_are_done front count i place le so_far =
      let k : count - i ≡ 0 = omega arith in
      let one : behind_part front (bounds_at replicas conits (count - i) i bytes place) ≡ Ok (front, place) = rw k (ap (λ (bs : List Bound). Ok (bs, place)) (append-nil front)) in
      sym so_far ∙ one

-- a fault that is told is told as it is
pub tells_fault : {A : Type 0} (read : Result A RecordFault) (f : RecordFault) → read ≡ Err f → Tells read (Err f)
tells_fault read (fault.Bytes place kind) e = e
tells_fault read (fault.Text place kind) e = e
tells_fault read fault.NoMemory e = tt
