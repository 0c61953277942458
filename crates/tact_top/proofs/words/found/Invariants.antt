use Rattle.std.proofs.Common.{◌≡◌, drop, nat_eq}
use Rattle.std.specs.List.{find}
use Rattle.std.specs.Cmp.Lexicographic.{pointwise}
use Rattle.tact_top.proofs.words.found.Given as goal

abbrev pub invariant-loop-name : goal.invariant-loop-name
invariant-loop-name l =
    find (λ entry. pointwise nat_eq l.word entry.0.now) (drop l.name-index l.name-items) ≡ find (λ entry. pointwise nat_eq l.word entry.0.now) l.name-items
