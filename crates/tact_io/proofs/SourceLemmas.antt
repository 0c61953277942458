-- One reading after another.
use Rattle.std.proofs.Common.{◌≡◌, ◌∙◌, sym, ap, ℕ, ◌+◌, ◌-◌, List, ◌++◌, length, take, drop, Option, None, Some, append_assoc}
use Rattle.std.proofs.lemmas.List.{take_at, take_rest, drop-drop, take-append-drop}
use Rattle.std.specs.Option.{option_map}
use Rattle.tact_io.specs.Source.{Gives}

-- what two readings gave, one after the other
pub gives_more : (before between after : Option (List ℕ)) (bytes piece : List ℕ)
    → Gives before between bytes
    → Gives between after piece
    → Gives before after (bytes ++ piece)
gives_more before between None bytes piece first next = first ∙ ap (option_map (λ rest. bytes ++ rest)) next
gives_more before between (Some rest) bytes piece first next =
    rw append_assoc (first ∙ ap (option_map (λ rest. bytes ++ rest)) next)

-- what was copied from what is left to the front of a buffer, and what is left then
pub front_and_left : (bytes front behind : List ℕ) (read count : ℕ)
    → front ≡ take count (take (length bytes - read) (drop read bytes))
    → length front ≡ count
    → drop read bytes ≡ take count (front ++ behind) ++ drop (read + count) bytes
front_and_left bytes front behind read count copied fits =
    let front_is = rw take_rest at copied in
    rw (take_at front behind count fits, front_is, ← drop-drop count read bytes) (sym (take-append-drop count (drop read bytes)))
