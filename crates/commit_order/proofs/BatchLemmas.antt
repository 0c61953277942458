-- Writes that are put in on both sides of one of them.
use Rattle.std.proofs.Common.{◌≡◌, Bool, true, false, not, if◌then◌else◌, List, [], ◌∷◌, ◌++◌, get_or, All, inl, inr, refl, sym, ap, ◌∙◌, arith}
use Rattle.std.specs.List.Sorted.{IsStrictlySortedBy, IsPartitionedBy}
use Rattle.std.proofs.lemmas.Bool.{cases_eq}
use Rattle.std.proofs.lemmas.List.{append-nil}
use Rattle.std.proofs.lemmas.List.Elements.{All-cons, All-head, All-tail}
use Rattle.std.proofs.lemmas.List.Sums.{fold-append}
use Rattle.std.proofs.lemmas.List.Sorted.{All-permutation}
use Rattle.std.proofs.lemmas.Map.Keys.{Less-from_sorted}
use Rattle.tact_base.proofs.CompareLemmas.{before_one_way, not_before_trans}
use Rattle.tact_base.proofs.OrderLemmas.{IsPermutation-with_write, with_write_first}
use Rattle.tact_base.specs.WriteOrder.{write_cmp, comes_before, with_write}
use Rattle.tact_base.specs.declared.write.Write.{Write}
use Rattle.commit_order.specs.Batches.{with_writes}
use Rattle.commit_order.proofs.BatchOrder.{with_write-past}
use Rattle.commit_order.proofs.WriteOrderLemmas.{before-from_Less}

pub not_true : (b : Bool) → not b ≡ true → b ≡ false
not_true true h = cc
not_true false h = refl

-- of writes in order those that a write doesn't come before come first
pub upto_first : (write : Write) (writes : List Write)
    → IsStrictlySortedBy write_cmp writes
    → IsPartitionedBy (λ other. not (comes_before write other)) writes
upto_first write writes sorted i j d order within passes =
    elim (cases_eq i j) [
      | inl same ↦ rw same passes
      | inr apart ↦
          let less = Less-from_sorted write_cmp writes i j d sorted (omega arith) within in
          let behind = before_one_way (get_or writes i d) (get_or writes j d) (before-from_Less (get_or writes i d) (get_or writes j d) less) in
          ap not (not_before_trans (get_or writes i d) (get_or writes j d) write behind (not_true (comes_before write (get_or writes j d)) passes))
    ]

-- what holds of the writes and of those held
pub All-with_writes : (P : Write → Type 0) (writes held : List Write)
    → All P writes
    → All P held
    → All P (with_writes writes held)
All-with_writes P [] held each others = others
All-with_writes P (write ∷ writes) held each others =
    All-with_writes P writes (with_write write held) (All-tail P write writes each)
    (All-permutation P (write ∷ held) (with_write write held) (IsPermutation-with_write write held) (All-cons P write held (All-head P write writes each) others))

-- a write that comes before all of a rest is put in before it
with_write-ahead : (write : Write) (held rest : List Write)
    → All (λ later. comes_before write later ≡ true) rest
    → with_write write (held ++ rest) ≡ with_write write held ++ rest
with_write-ahead write [] rest before = with_write_first write rest before
with_write-ahead write (first ∷ held) rest before =
    elim (comes_before write first) as (λ is. (if is then write ∷ first ∷ (held ++ rest) else first ∷ with_write write (held ++ rest))
    ≡ (if is then write ∷ first ∷ held else first ∷ with_write write held) ++ rest) [
      | true ↦ refl
      | false ↦ ap (λ (l : List Write). first ∷ l) (with_write-ahead write held rest before)
    ]

-- and so are several
pub with_writes-ahead : (writes held rest : List Write)
    → All (λ write. All (λ later. comes_before write later ≡ true) rest) writes
    → with_writes writes (held ++ rest) ≡ with_writes writes held ++ rest
with_writes-ahead [] held rest before = refl
with_writes-ahead (write ∷ writes) held rest before =
    ap (with_writes writes) (with_write-ahead write held rest (All-head (λ write. All (λ later. comes_before write later ≡ true) rest) write writes before))
    ∙ with_writes-ahead writes (with_write write held) rest (All-tail (λ write. All (λ later. comes_before write later ≡ true) rest) write writes before)

-- a write that comes before none of the others goes behind them
pub with_writes-and_last : (writes held : List Write) (write : Write)
    → All (λ other. comes_before write other ≡ false) writes
    → All (λ other. comes_before write other ≡ false) held
    → with_writes (writes ++ write ∷ []) held ≡ with_writes writes held ++ write ∷ []
with_writes-and_last writes held write each others =
    let front = with_writes writes held in
    fold-append (λ ordered w. with_write w ordered) held writes (write ∷ [])
    ∙ (ap (with_write write) (sym (append-nil front))
    ∙ with_write-past write front [] (All-with_writes (λ other. comes_before write other ≡ false) writes held each others))
