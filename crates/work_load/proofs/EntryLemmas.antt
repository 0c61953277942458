-- Lists whose entries are judged one after the other.
use Rattle.std.proofs.Common.{◌≡◌, ℕ, ◌+◌, ◌<◌, List, [], ◌∷◌, ◌++◌, length, take, drop, map, get_or, Ok, Err, refl, ap, sym, subst, All, ◌∙◌}
use Rattle.std.specs.List.{fold}
use Rattle.std.proofs.lemmas.List.{append-nil, append_assoc, drop_more, map_more, map-append, take-append-drop}
use Rattle.std.proofs.lemmas.List.Elements.{All-nil, All-cons}
use Rattle.std.proofs.lemmas.List.Sums.{fold_push}
use Rattle.serde_json.specs.View.{view}
use Rattle.serde_json.specs.declared.value.Value.{Value}
use Rattle.run_model.specs.declared.status.LoadKind.{LoadKind}
use Rattle.serde_json.specs.Data.{Data}
use Rattle.work_load.specs.Values.{Reading}
use Rattle.work_load.specs.Entries.{Placed, EachAfter, with_entry, entries, Fails, FailsAt, placed_fault}
use Rattle.work_load.specs.declared.fault.EntryFault.{EntryFault}
use Rattle.work_load.specs.declared.fault.EntryFault.TheVariants as entry

-- one more entry
pub entries-push : {A : Type 0} (first : ℕ) (read : List A → Data → Reading A) (values : List Data) (value : Data) (before : List A)
    → entries first read values ≡ Ok before
    → entries first read (values ++ value ∷ []) ≡ with_entry first read (Ok before) value
entries-push first read values value before is =
    fold_push (with_entry first read) (Ok []) values value ∙ ap (λ found. with_entry first read found value) is

pub entries-ok : {A : Type 0} (first : ℕ) (read : List A → Data → Reading A) (values : List Data) (value : Data) (before : List A) (entry : A)
    → entries first read values ≡ Ok before
    → read before value ≡ Ok entry
    → entries first read (values ++ value ∷ []) ≡ Ok (before ++ entry ∷ [])
entries-ok first read values value before entry is reads =
    entries-push first read values value before is ∙ rw reads refl

-- what is at fault stays so
stays : {A : Type 0} (first : ℕ) (read : List A → Data → Reading A) (fault : ℕ × LoadKind) (values : List Data)
    → fold (with_entry first read) (Err fault) values ≡ Err fault
stays first read fault [] = refl
stays first read fault (value ∷ values) = stays first read fault values

fold-append : {A : Type 0} (first : ℕ) (read : List A → Data → Reading A) (found : Placed (List A)) (front rest : List Data)
    → fold (with_entry first read) found (front ++ rest) ≡ fold (with_entry first read) (fold (with_entry first read) found front) rest
fold-append first read found [] rest = refl
fold-append first read found (value ∷ front) rest = fold-append first read (with_entry first read found value) front rest

pub entries-err : {A : Type 0} (first : ℕ) (read : List A → Data → Reading A) (front : List Data) (value : Data) (rest : List Data) (before : List A) (kind : LoadKind)
    → entries first read front ≡ Ok before
    → read before value ≡ Err kind
    → entries first read (front ++ value ∷ rest) ≡ Err (first + length before, kind)
entries-err first read front value rest before kind is fails =
    fold-append first read (Ok []) front (value ∷ rest)
    ∙ ap (λ found. fold (with_entry first read) (with_entry first read found value) rest) is
    ∙ rw fails (stays first read (first + length before, kind) rest)

pub entries-fails : {A : Type 0} (first : ℕ) (read : List A → Data → Reading A) (front : List Data) (value : Data) (rest : List Data) (before : List A) (fault : EntryFault)
    → entries first read front ≡ Ok before
    → Fails (read before value) fault
    → FailsAt (entries first read (front ++ value ∷ rest)) (placed_fault (first + length before) fault)
entries-fails first read front value rest before (entry.Kind kind) is fails = entries-err first read front value rest before kind is fails
entries-fails first read front value rest before entry.NoMemory is fails = tt

-- the values of a list, parted at one of them
pub parted : (values : List Value) (place : ℕ) (value : Value)
    → place < length values
    → value ≡ get_or values place value
    → map view values ≡ map view (take place values) ++ view value ∷ map view (drop (place + 1) values)
parted values place value within is =
    let rest : drop place values ≡ value ∷ drop (place + 1) values =
    drop_more values place value within ∙ ap (λ (x : Value). x ∷ drop (place + 1) values) (sym is) in
    ap (map view) (sym (take-append-drop place values) ∙ ap (λ (xs : List Value). take place values ++ xs) rest)
    ∙ map-append view (take place values) (value ∷ drop (place + 1) values)

-- one more entry that fits
each_from : {A : Type 0} (fits : List A → A → Type 0) (before list : List A) (entry : A)
    → EachAfter fits before list
    → fits (before ++ list) entry
    → EachAfter fits before (list ++ entry ∷ [])
each_from {A} fits before [] entry each fit = (subst (λ (xs : List A). fits xs entry) (append-nil before) fit, tt)
each_from {A} fits before (first ∷ list) entry each fit =
    (each.0, each_from fits (before ++ first ∷ []) list entry each.1 (subst (λ (xs : List A). fits xs entry) (sym (append_assoc before (first ∷ []) list)) fit))

pub each_more : {A : Type 0} (fits : List A → A → Type 0) (list : List A) (entry : A)
    → EachAfter fits [] list
    → fits list entry
    → EachAfter fits [] (list ++ entry ∷ [])
each_more fits list entry each fit = each_from fits [] list entry each fit

-- what each fits whatever stands before it
pub All-from_each : {A : Type 0} (fits : List A → A → Type 0) (P : A → Type 0) (before list : List A)
    → ((front : List A) (entry : A) → fits front entry → P entry)
    → EachAfter fits before list
    → All P list
All-from_each fits P before [] weaker each = All-nil P
All-from_each fits P before (first ∷ list) weaker each =
    All-cons P first list (weaker before first each.0) (All-from_each fits P (before ++ first ∷ []) list weaker each.1)

pub one_on : (values : List Value) (place : ℕ) (value : Value)
    → place < length values
    → value ≡ get_or values place value
    → map view (take (place + 1) values) ≡ map view (take place values) ++ view value ∷ []
one_on values place value within is =
    map_more view values place value within ∙ ap (λ (x : Value). map view (take place values) ++ view x ∷ []) (sym is)
