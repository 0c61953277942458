-- Lists that are read item by item with rising conits are lists by conit.
use Rattle.std.proofs.Common.{◌≡◌, ℕ, zero, suc, ◌<◌, ◌≤◌, Bool, true, false, cond, List, [], ◌∷◌, length, Some, Ok, sym, ap, subst, arith}
use Rattle.std.specs.Prelude.{All}
use Rattle.tact_base.specs.declared.limits.TheConstants.{LIST_MAX}
use Rattle.tact_base.specs.declared.conit_list.ListFault.{ListFault}
use Rattle.tact_base.specs.ConitList.{IsConitList, list_fault}
use Rattle.run_model.proofs.Rising.{AreRising, IsItem, rising_is_list, rising_not_refused}
use Rattle.run_record.specs.Fields.{◌>>=◌, Tokens, Field}
use Rattle.run_record.specs.Lists.{list_at}
use Rattle.run_record.proofs.FieldLemmas.{bind_ok, ok_is}

-- items that are read one by one
module _ {T : Type 0} (conit : T → ℕ) (in_limits : T → Bool) (conits : ℕ) (item : ℕ → Tokens → Field T) (ends : Tokens → Bool)
    (each : (least : ℕ) (tokens : Tokens) (x : T × Tokens) → item least tokens ≡ Ok x → IsItem conit in_limits conits least x.0) where
  abbrev after : T → ℕ
  after x = suc (conit x)

  abbrev others_at : ℕ → T × Tokens → Field (List T)
  others_at room first = list_at item after ends room (after first.0) first.1 >>= λ others. Ok (first.0 ∷ others.0, others.1)

  -- what is true of a list that was read with room for so many, and of one with room for one more
  abbrev Rises : ℕ → Type 0
  Rises room = (least : ℕ) (tokens : Tokens) (read : List T × Tokens)
      → list_at item after ends room least tokens ≡ Ok read
      → AreRising conit in_limits conits least read.0 × (length read.0 ≤ room)

  abbrev nothing_at : Tokens → Field (List T)
  nothing_at tokens = Ok ([], tokens)

  none_rises : (room least : ℕ) (tokens : Tokens) (read : List T × Tokens)
      → nothing_at tokens ≡ Ok read
      → AreRising conit in_limits conits least read.0 × (length read.0 ≤ room)
  none_rises room least tokens read is =
      let none : read.0 ≡ [] = sym (ap (λ (r : List T × Tokens). r.0) (ok_is (let nothing : List T × Tokens = ([], tokens) in nothing) read is)) in
      subst (λ (xs : List T). AreRising conit in_limits conits least xs × (length xs ≤ room)) (sym none) (tt, omega arith)

  one_more_rises : (room least : ℕ) (tokens : Tokens) (read : List T × Tokens)
      → Rises room
      → (item least tokens >>= others_at room) ≡ Ok read
      → AreRising conit in_limits conits least read.0 × (length read.0 ≤ suc room)
  one_more_rises room least tokens read rises is =
      let first = bind_ok (item least tokens) (others_at room) read is in
      let others = bind_ok (list_at item after ends room (after first.0.0) first.0.1) (λ others. Ok (first.0.0 ∷ others.0, others.1)) read first.2 in
      let rise = rises (after first.0.0) first.0.1 others.0 others.1 in
      let whole : read.0 ≡ first.0.0 ∷ others.0.0 =
      sym (ap (λ (r : List T × Tokens). r.0) (ok_is (first.0.0 ∷ others.0.0, others.0.1) read others.2)) in
      subst (λ (xs : List T). AreRising conit in_limits conits least xs × (length xs ≤ suc room)) (sym whole)
      ((each least tokens first.0 first.1, rise.0), omega (arith, rise.1))

  more_rises : (room least : ℕ) (tokens : Tokens) (read : List T × Tokens) (done : Bool)
      → Rises room
      → cond done (Ok ([], tokens)) (item least tokens >>= others_at room) ≡ Ok read
      → AreRising conit in_limits conits least read.0 × (length read.0 ≤ suc room)
  more_rises room least tokens read true rises is = none_rises (suc room) least tokens read is
  more_rises room least tokens read false rises is = one_more_rises room least tokens read rises is

  pub list_rises : (room : ℕ) → Rises room
  unfolding list_at
  list_rises zero least tokens read is = none_rises zero least tokens read is
  list_rises (suc room) least tokens read is = more_rises room least tokens read (ends tokens) (list_rises room) is

  -- a list that was read is one as its type has it
  pub list_is_good : (nothing : T) (tokens : Tokens) (read : List T × Tokens)
      → list_at item after ends LIST_MAX 0 tokens ≡ Ok read
      → IsConitList conit in_limits read.0 × All (λ x. conit x < conits) read.0
  list_is_good nothing tokens read is =
      let rise = list_rises LIST_MAX 0 tokens read is in
      rising_is_list conit in_limits conits nothing read.0 0 rise.0 rise.1

  -- so it isn't refused
  pub never_refused : (nothing : T) (fault : ListFault) (tokens : Tokens) (read : List T × Tokens)
      → list_at item after ends LIST_MAX 0 tokens ≡ Ok read
      → list_fault conit in_limits read.0 ≡ Some fault
      → ⊥
  never_refused nothing fault tokens read is refused =
      let rise = list_rises LIST_MAX 0 tokens read is in
      rising_not_refused conit in_limits conits nothing fault read.0 0 rise.0 rise.1 refused
