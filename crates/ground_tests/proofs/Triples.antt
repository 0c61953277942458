-- Writes that are put into others, all with an index that those don't have.
use Rattle.std.proofs.Common.{◌≡◌, ◌≢◌, ℕ, ◌+◌, ◌<◌, List, [], ◌∷◌, ◌++◌, get_or, All, refl, sym, ◌∙◌, arith}
use Rattle.std.specs.declared.cmp.Ordering.TheVariants.{Less, Equal}
use Rattle.std.specs.List.Sorted.{IsStrictlySortedBy}
use Rattle.std.proofs.lemmas.Bool.{lt-ltb}
use Rattle.std.proofs.lemmas.Cmp.{nat_cmp_total, tied_itself}
use Rattle.std.proofs.lemmas.List.Elements.{All-append, All-weaker}
use Rattle.tact_base.proofs.CompareLemmas.{write_tied}
use Rattle.tact_base.proofs.OrderLemmas.{All-in_order}
use Rattle.tact_base.specs.WriteOrder.{write_cmp, in_order}
use Rattle.tact_base.specs.declared.write.Write.{Write}

by_stamp : (a b : Write) → a.stamp < b.stamp → write_cmp a b ≡ Less
by_stamp a b lt = rw (lt-ltb a.stamp b.stamp lt) refl

by_origin : (a b : Write)
    → a.stamp ≡ b.stamp
    → a.origin ≡ 0
    → b.origin ≡ 1
    → write_cmp a b ≡ Less
by_origin a b same one other = rw (same, tied_itself nat_cmp_total b.stamp, one, other) refl

pub three_sorted : (a b c : Write) (first last : ℕ)
    → a.stamp ≡ first
    → a.origin ≡ 0
    → b.stamp ≡ first
    → b.origin ≡ 1
    → c.stamp ≡ last
    → first < last
    → IsStrictlySortedBy write_cmp (a ∷ b ∷ c ∷ [])
unfolding IsStrictlySortedBy
three_sorted a b c first last a_stamp a_origin b_stamp b_origin c_stamp low =
    ((by_origin a b (a_stamp ∙ sym b_stamp) a_origin b_origin, (by_stamp a c (omega arith), tt)), ((by_stamp b c (omega arith), tt), (tt, tt)))

-- they are new where all that are held have lower indices
pub new-from_index : (writes held : List Write) (index : ℕ)
    → All (λ write. write.index ≡ index) writes
    → All (λ write. write.index < index) held
    → All (λ write. All (λ other. write_cmp other write ≢ Equal) held) writes
new-from_index writes held index alike below k d within i e inside same =
    let tied = write_tied (get_or held i e) (get_or writes k d) same in
    absurd (omega (arith, tied.index, alike k d within, below i e inside))

-- and then all have lower indices than the next
pub below_next : (writes held : List Write) (index : ℕ)
    → All (λ write. write.index ≡ index) writes
    → All (λ write. write.index < index) held
    → All (λ write. write.index < index + 1) (in_order (held ++ writes))
below_next writes held index alike below =
    let P : Write → Type 0 = λ write. write.index < index + 1 in
    All-in_order P (held ++ writes)
    (All-append P held writes
    (All-weaker (λ write. write.index < index) P (λ write h. omega arith) held below)
    (All-weaker (λ write. write.index ≡ index) P (λ write h. omega arith) writes alike))
