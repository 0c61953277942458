-- Pieces of the message that a replica sends: its writes, origin by origin, and a message by its parts.
use Rattle.std.proofs.Common.{◌≡◌, ℕ, ◌+◌, ◌-◌, List, ◌++◌, length, take, flat_map, sym, ap, ap₂, ◌∙◌}
use Rattle.std.specs.List.{range_with_len}
use Rattle.tact_base.proofs.ListLemmas.{take-append-taken}
use Rattle.tact_base.specs.declared.write.Cover.{Cover}
use Rattle.tact_base.specs.declared.write.Write.{Write}
use Rattle.run_model.specs.declared.entry.Message.{Message}
use Rattle.tact_base.proofs.RangeLists.{flat_map_range_more}

-- the first few of the writes of one more origin
pub writes_more : (of_origin : ℕ → List Write) (n room : ℕ) (before after : List Write)
    → before ≡ take 64 (flat_map of_origin (range_with_len 0 n))
    → room ≡ 64 - length before
    → after ≡ before ++ take room (of_origin n)
    → after ≡ take 64 (flat_map of_origin (range_with_len 0 (n + 1)))
writes_more of_origin n room before after was left grew =
    grew
    ∙ ap (λ (k : ℕ). before ++ take k (of_origin n)) left
    ∙ ap (λ (ws : List Write). ws ++ take (64 - length ws) (of_origin n)) was
    ∙ sym (take-append-taken 64 (flat_map of_origin (range_with_len 0 n)) (of_origin n))
    ∙ ap (take 64) (sym (flat_map_range_more of_origin n))

-- messages of the same parts
abbrev pub told_by : ℕ
    → ℕ
    → ℕ
    → List ℕ
    → List Cover
    → List ℕ
    → List Write
    → List ℕ
    → List ℕ
    → Message
told_by from to number haves covers firsts writes lent returned =
    record { from = from; to = to; number = number; haves = haves; covers = covers; firsts = firsts; writes = writes; lent = lent; returned = returned }

pub same_message : (from from' to number number' : ℕ) (haves haves' : List ℕ) (covers covers' : List Cover) (firsts firsts' : List ℕ) (writes writes' : List Write)
    (lent lent' returned returned' : List ℕ)
    → from ≡ from'
    → number ≡ number'
    → haves ≡ haves'
    → covers ≡ covers'
    → firsts ≡ firsts'
    → writes ≡ writes'
    → lent ≡ lent'
    → returned ≡ returned'
    → told_by from to number haves covers firsts writes lent returned ≡ told_by from' to number' haves' covers' firsts' writes' lent' returned'
same_message from from' to number number' haves haves' covers covers' firsts firsts' writes writes' lent lent' returned returned' a b c d e f g h =
    ap₂ (λ x y. told_by x to y haves covers firsts writes lent returned) a b
    ∙ ap₂ (λ x y. told_by from' to number' x y firsts writes lent returned) c d
    ∙ ap₂ (λ x y. told_by from' to number' haves' covers' x y lent returned) e f
    ∙ ap₂ (λ x y. told_by from' to number' haves' covers' firsts' writes' x y) g h
