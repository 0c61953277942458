-- The next writes of an origin, in a replica's log of it.
use Rattle.std.proofs.Common.{⊎_elim, ◌≡◌, ℕ, zero, suc, ◌+◌, ◌-◌, ◌<◌, ◌≤◌, List, [], ◌∷◌, ◌++◌, All, length, get_or, set, drop, flat_map, refl, sym, ap, ap₂, ◌∙◌, subst, arith, get_or-set_same}
use Rattle.std.specs.List.{range_with_len}
use Rattle.std.proofs.lemmas.List.{append_assoc, append-nil, get_or-map, length-drop, drop_all, set-set}
use Rattle.std.proofs.lemmas.List.FromFn.{get_or-range_with_len}
use Rattle.std.proofs.lemmas.List.Elements.{All-nil, All-drop}
use Rattle.std.proofs.lemmas.Bool.{cases_lt}
use Rattle.std.specs.List.{drop-map}
use Rattle.tact_base.proofs.ListLemmas.{All-one}
use Rattle.tact_base.proofs.RangeLists.{flat_map_range_more}
use Rattle.tact_base.specs.declared.conit_list.Weight.{Weight}
use Rattle.tact_base.specs.declared.limits.TheConstants.{HISTORY_MAX}
use Rattle.tact_base.specs.declared.write.Write.{Write}
use Rattle.replica_core.specs.States.{Core, AreNext, log_at}
use Rattle.replica_core.specs.Taking.{with_next}

-- one of them, after those before it
pub AreNext-one : (conits origin count k : ℕ) (writes : List Write) (write : Write)
    → AreNext conits origin count writes
    → k < length writes
    → write ≡ get_or writes k write
    → AreNext conits origin (count + k) (write ∷ [])
AreNext-one conits origin count k writes write next within is =
    let P = λ (w : Write). All (λ (weight : Weight). weight.conit < conits) w.weights in
    let index : write.index ≡ count + k =
    ap (λ (w : Write). w.index) is ∙ sym (get_or-map (λ (w : Write). w.index) writes k write 0 within)
    ∙ ap (λ (ns : List ℕ). get_or ns k 0) next.indices ∙ get_or-range_with_len count (length writes) k 0 within in
    record {
      origins = All-one (λ (w : Write). w.origin ≡ origin) write (ap (λ (w : Write). w.origin) is ∙ next.origins k write within);
      indices = ap (λ (n : ℕ). n ∷ []) index;
      on_conits = All-one P write (subst P (sym is) (next.on_conits k write within));
      few = omega (arith, next.few, within);
    }

-- a range without its first numbers
drop-range : (k start len : ℕ) → k ≤ len → drop k (range_with_len start len) ≡ range_with_len (start + k) (len - k)
drop-range zero start len few = ap₂ range_with_len (omega arith) (omega arith)
drop-range (suc k) start zero few = absurd (omega (arith, few))
drop-range (suc k) start (suc len) few =
    drop-range k (start + 1) len (omega (arith, few)) ∙ ap₂ range_with_len (omega arith) (omega arith)

-- those that a log lacks
pub AreNext-lacking : (conits origin first have : ℕ) (told : List Write)
    → AreNext conits origin first told
    → first ≤ have
    → have ≤ HISTORY_MAX
    → AreNext conits origin have (drop (have - first) told)
AreNext-lacking conits origin first have told next reaches short =
    let known = have - first in
    let P = λ (w : Write). All (λ (weight : Weight). weight.conit < conits) w.weights in
    ⊎_elim
    (λ (none : length told < known).
    subst (AreNext conits origin have) (sym (drop_all known told (omega (arith, none))))
    (record { origins = All-nil (λ (w : Write). w.origin ≡ origin); indices = refl; on_conits = All-nil P; few = omega (arith, short) }))
    (λ (few : known ≤ length told).
    record {
      origins = All-drop (λ (w : Write). w.origin ≡ origin) known told next.origins;
      indices =
          sym (drop-map (λ (w : Write). w.index) known told) ∙ ap (drop known) next.indices
          ∙ drop-range known first (length told) few
          ∙ ap₂ range_with_len (omega (arith, reaches)) (omega (arith, length-drop known told));
      on_conits = All-drop P known told next.on_conits;
      few = omega (arith, next.few, reaches, few, length-drop known told);
    })
    (cases_lt (length told) known)

module _ (core : Core) (origin : ℕ) (within : origin < length core.writes.logs) where
  pub log_at-with_next : (writes seen : List Write) → log_at (with_next core origin writes seen) origin ≡ log_at core origin ++ writes
  log_at-with_next writes seen = get_or-set_same core.writes.logs origin (log_at core origin ++ writes) [] within

  pub with_next-more : (writes seen more all : List Write)
      → with_next (with_next core origin writes seen) origin more all ≡ with_next core origin (writes ++ more) all
  with_next-more writes seen more all =
      let log = log_at core origin in
      ap (λ (logs : List (List Write)). let after : Core = record core { writes = record core.writes { logs = logs; seen = all } } in after)
      (ap (λ (front : List Write). set (set core.writes.logs origin (log ++ writes)) origin (front ++ more)) (log_at-with_next writes seen)
      ∙ set-set core.writes.logs origin (log ++ writes) ((log ++ writes) ++ more) ∙ ap (set core.writes.logs origin) (append_assoc log writes more))

-- of lists joined by a range, one after those before it
pub record StandsIn {X : Type 0} (f : ℕ → List X) (at : ℕ) (all : List X) : Type 0 where
  pub rest : List X
  pub is : all ≡ flat_map f (range_with_len 0 at) ++ (f at ++ rest)

stands_in : {X : Type 0} (f : ℕ → List X) (at k : ℕ) → StandsIn f at (flat_map f (range_with_len 0 (at + 1 + k)))
stands_in f at zero = record {
  rest = [];
  is = ap (λ (n : ℕ). flat_map f (range_with_len 0 n)) (omega arith) ∙ flat_map_range_more f at
      ∙ ap (λ xs. flat_map f (range_with_len 0 at) ++ xs) (sym (append-nil (f at)));
}
stands_in f at (suc k) =
    let before = stands_in f at k in
    let front = flat_map f (range_with_len 0 at) in
    record {
      rest = before.rest ++ f (at + 1 + k);
      is =
          ap (λ (n : ℕ). flat_map f (range_with_len 0 n)) (omega arith) ∙ flat_map_range_more f (at + 1 + k)
          ∙ ap (λ xs. xs ++ f (at + 1 + k)) before.is
          ∙ append_assoc front (f at ++ before.rest) (f (at + 1 + k)) ∙ ap (λ xs. front ++ xs) (append_assoc (f at) before.rest (f (at + 1 + k)));
    }

pub stands_there : {X : Type 0} (f : ℕ → List X) (at n : ℕ) → at < n → StandsIn f at (flat_map f (range_with_len 0 n))
stands_there f at n before =
    let there = stands_in f at (n - at - 1) in
    record { rest = there.rest; is = ap (λ (m : ℕ). flat_map f (range_with_len 0 m)) (omega (arith, before)) ∙ there.is }
