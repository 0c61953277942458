use Rattle.std.proofs.Common.{◌≡◌, drop, nat_eq}
use Rattle.std.specs.List.{find}
use Rattle.std.specs.Cmp.Lexicographic.{pointwise}
use Rattle.run_record.proofs.entry_words.act_word.Given as goal

abbrev pub invariant-loop-spelling : goal.invariant-loop-spelling
invariant-loop-spelling l =
    find (λ entry. pointwise nat_eq l.token entry.0.now) (drop l.spelling-index l.spelling-items) ≡ find (λ entry. pointwise nat_eq l.token entry.0.now) l.spelling-items
