-- Reading one after the other, as loops do.
use Rattle.std.proofs.Common.{◌≡◌, ℕ, suc, ◌-◌, ◌+◌, ◌≤◌, ◌<◌, List, [], ◌∷◌, ◌++◌, drop, map, Ok, Err, refl, sym, ap, ◌∙◌, append_assoc, add-one, arith}
use Rattle.std.specs.List.{flat_map, range_with_len}
use Rattle.std.proofs.lemmas.List.{append-nil}
use Rattle.std.proofs.lemmas.List.FromFn.{map-range_with_len_more}
use Rattle.std.proofs.lemmas.Grind.{flat_map-append}
use Rattle.run_model.specs.declared.fields.FieldFault.{FieldFault}
use Rattle.run_model.specs.declared.fields.FieldFault.TheVariants as field
use Rattle.run_model.specs.Bytes.{◌>>=◌, Field}
use Rattle.run_model.proofs.ByteLemmas.{ok_is}
use Rattle.tact_base.specs.declared.write.Write.{Write}
use Rattle.tact_msg.specs.declared.fault.MsgFault.{MsgFault}
use Rattle.tact_msg.specs.declared.fault.MsgFault.TheVariants as fault
use Rattle.tact_msg.specs.declared.parts.Told.{Told}
use Rattle.tact_msg.specs.Faults.{of_field, IsFaultOf, behind}
use Rattle.run_model.specs.declared.entry.Message.{Message}
use Rattle.tact_msg.specs.MessageBytes.{told_bytes, told_of, told_at, tolds_at, writes_of_at, writes_at}

-- ---- faults

-- the fault of a field is that of a reader
pub field_fault : {A : Type 0} (read : Field A) (f : FieldFault)
    → read ≡ Err f
    → IsFaultOf read (of_field f)
field_fault read field.Short e = e
field_fault read (field.BadField place) e = e

-- a fault behind what there was is a fault
pub fault_behind : {A : Type 0} (front : List A) (read : Field (List A)) (f : FieldFault)
    → behind front read ≡ Err f
    → read ≡ Err f
fault_behind front (Ok x) f e = absurd cc
fault_behind front (Err g) f e = cc

-- ---- told origins

regroup : {A : Type 0} (front : List A) (w : A) (read : Field (List A))
    → behind front (read >>= λ x. Ok (w ∷ x.0, x.1)) ≡ behind (front ++ w ∷ []) read
regroup {A = A} front w (Ok x) = ap (λ (ws : List A). Ok (ws, x.1)) (simp append_assoc)
regroup front w (Err f) = refl

pub told_goes_on : (to : ℕ) (front : List Told) (count i origin room : ℕ) (bytes : List ℕ) (place : ℕ) (told : Told) (next : ℕ) (total : Field (List Told))
    → i < count
    → told_at to origin room bytes place ≡ Ok (told, next)
    → behind front (tolds_at to (count - i) origin room bytes place) ≡ total
    → behind (front ++ told ∷ []) (tolds_at to (count - (i + 1)) (origin + 1) (room - told.count) bytes next) ≡ total
unfolding tolds_at
told_goes_on to front count i origin room bytes place told next total lt h so_far =
    let k : count - i ≡ suc (count - (i + 1)) = omega arith in
    let one : behind front (tolds_at to (count - i) origin room bytes place) ≡ behind (front ++ told ∷ []) (tolds_at to (count - (i + 1)) (suc origin) (room - told.count) bytes next) =
    rw (k, h) (regroup front told (tolds_at to (count - (i + 1)) (suc origin) (room - told.count) bytes next)) in
    rw (add-one origin) (sym one ∙ so_far)

pub told_ends : (to : ℕ) (front : List Told) (count i origin room : ℕ) (bytes : List ℕ) (place : ℕ) (f : FieldFault) (total : Field (List Told))
    → i < count
    → told_at to origin room bytes place ≡ Err f
    → behind front (tolds_at to (count - i) origin room bytes place) ≡ total
    → total ≡ Err f
unfolding tolds_at
told_ends to front count i origin room bytes place f total lt h so_far =
    let k : count - i ≡ suc (count - (i + 1)) = omega arith in
    let one : behind front (tolds_at to (count - i) origin room bytes place) ≡ Err f = rw (k, h) refl in
    sym so_far ∙ one

pub told_is_done : (to : ℕ) (front : List Told) (count i origin room : ℕ) (bytes : List ℕ) (place : ℕ) (total : Field (List Told))
    → count ≤ i
    → behind front (tolds_at to (count - i) origin room bytes place) ≡ total
    → total ≡ Ok (front, place)
unfolding tolds_at
told_is_done to front count i origin room bytes place total le so_far =
    let k : count - i ≡ 0 = omega arith in
    let one : behind front (tolds_at to (count - i) origin room bytes place) ≡ Ok (front, place) = rw k (ap (λ (ts : List Told). Ok (ts, place)) (append-nil front)) in
    sym so_far ∙ one

-- ---- the writes of one origin after those of another

abbrev joined : Field (List Write) → (ℕ → Field (List Write)) → Field (List Write)
joined first rest = first >>= λ ours. rest ours.1 >>= λ others. Ok (ours.0 ++ others.0, others.1)

after_first : (front new ours : List Write) (others : Field (List Write))
    → front ++ ours ≡ new
    → behind front (others >>= λ x. Ok (ours ++ x.0, x.1)) ≡ behind new others
after_first front new ours (Ok x) e = ap (λ (ws : List Write). Ok (ws, x.1)) (sym (append_assoc front ours x.0) ∙ ap (λ (ws : List Write). ws ++ x.0) e)
after_first front new ours (Err f) e = refl

joined_on : (front new : List Write) (first : Field (List Write)) (rest : ℕ → Field (List Write)) (next : ℕ)
    → behind front first ≡ Ok (new, next)
    → behind front (joined first rest) ≡ behind new (rest next)
joined_on front new (Ok (ours, n)) rest next e =
    let made : List Write × ℕ = (front ++ ours, n) in
    let is = ok_is made (new, next) e in
    let at : n ≡ next = ap (λ (p : List Write × ℕ). p.1) is in
    let are : front ++ ours ≡ new = ap (λ (p : List Write × ℕ). p.0) is in
    rw at (after_first front new ours (rest next) are)
joined_on front new (Err f) rest next e = absurd cc

-- one origin on
pub writes_go_on : (conits : ℕ) (front new : List Write) (tolds : List Told) (i : ℕ) (told : Told) (bytes : List ℕ) (place next : ℕ) (total : Field (List Write))
    → drop i tolds ≡ told ∷ drop (i + 1) tolds
    → behind front (writes_of_at conits told bytes place) ≡ Ok (new, next)
    → behind front (writes_at conits (drop i tolds) bytes place) ≡ total
    → behind new (writes_at conits (drop (i + 1) tolds) bytes next) ≡ total
unfolding writes_at
writes_go_on conits front new tolds i told bytes place next total at first so_far =
    let one : behind front (writes_at conits (drop i tolds) bytes place) ≡ behind new (writes_at conits (drop (i + 1) tolds) bytes next) =
    rw at (joined_on front new (writes_of_at conits told bytes place) (λ n. writes_at conits (drop (i + 1) tolds) bytes n) next first) in
    sym one ∙ so_far

joined_fault : (front : List Write) (first : Field (List Write)) (rest : ℕ → Field (List Write)) (f : FieldFault)
    → first ≡ Err f
    → behind front (joined first rest) ≡ Err f
joined_fault front (Ok x) rest f e = absurd cc
joined_fault front (Err g) rest f e = cc

-- the fault of an origin is that of all
pub writes_fault : (fault : MsgFault) (conits : ℕ) (front : List Write) (tolds : List Told) (i : ℕ) (told : Told) (bytes : List ℕ) (place : ℕ) (total : Field (List Write))
    → drop i tolds ≡ told ∷ drop (i + 1) tolds
    → IsFaultOf (writes_of_at conits told bytes place) fault
    → behind front (writes_at conits (drop i tolds) bytes place) ≡ total
    → IsFaultOf total fault
unfolding writes_at
writes_fault fault.Short conits front tolds i told bytes place total at first so_far =
    sym so_far ∙ rw at (joined_fault front (writes_of_at conits told bytes place) (λ n. writes_at conits (drop (i + 1) tolds) bytes n) field.Short first)
writes_fault (fault.BadField bad) conits front tolds i told bytes place total at first so_far =
    sym so_far ∙ rw at (joined_fault front (writes_of_at conits told bytes place) (λ n. writes_at conits (drop (i + 1) tolds) bytes n) (field.BadField bad) first)
writes_fault fault.NoMemory conits front tolds i told bytes place total at first so_far = tt

pub writes_are_done : (conits : ℕ) (front : List Write) (tolds : List Told) (bytes : List ℕ) (place : ℕ) (total : Field (List Write))
    → tolds ≡ []
    → behind front (writes_at conits tolds bytes place) ≡ total
    → total ≡ Ok (front, place)
unfolding writes_at
writes_are_done conits front tolds bytes place total none so_far =
    let one : behind front (writes_at conits tolds bytes place) ≡ Ok (front, place) = rw none (ap (λ (ws : List Write). Ok (ws, place)) (append-nil front)) in
    sym so_far ∙ one

pub at_first : {A : Type 0} (read : Field (List A)) → behind [] read ≡ read
at_first (Ok x) = refl
at_first (Err f) = refl

-- ---- what is told of each origin, appended

pub told_more : (message : Message) (origin : ℕ) (old mid new : List ℕ) (told : Told)
    → mid ≡ old ++ flat_map told_bytes (map (told_of message) (range_with_len 0 origin))
    → told ≡ told_of message origin
    → new ≡ mid ++ told_bytes told
    → new ≡ old ++ flat_map told_bytes (map (told_of message) (range_with_len 0 (origin + 1)))
told_more message origin old mid new told so_far is more =
    let front = map (told_of message) (range_with_len 0 origin) in
    let longer : map (told_of message) (range_with_len 0 (origin + 1)) ≡ front ++ told_of message origin ∷ [] =
    map-range_with_len_more (told_of message) 0 origin origin (omega arith) in
    let last : flat_map told_bytes (told_of message origin ∷ []) ≡ told_bytes (told_of message origin) = append-nil (told_bytes (told_of message origin)) in
    let both : flat_map told_bytes (front ++ told_of message origin ∷ []) ≡ flat_map told_bytes front ++ told_bytes (told_of message origin) =
    flat_map-append told_bytes front (told_of message origin ∷ []) ∙ ap (λ text. flat_map told_bytes front ++ text) last in
    rw (more, so_far, is, longer, both) (append_assoc old (flat_map told_bytes front) (told_bytes (told_of message origin)))
