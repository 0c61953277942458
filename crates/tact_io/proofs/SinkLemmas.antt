-- One writing after another.
use Rattle.std.proofs.Common.{◌∙◌, ap, ℕ, ◌+◌, ◌-◌, List, ◌++◌, length, take, drop, Option, None, Some, append_assoc}
use Rattle.std.proofs.Math.Seq.{take-add}
use Rattle.std.proofs.lemmas.List.{take_rest}
use Rattle.std.specs.Option.{option_map}
use Rattle.tact_io.specs.Sink.{Gains}

-- what was gained by two writings, one after the other
pub gains_more : (before between after : Option (List ℕ)) (bytes piece : List ℕ)
    → Gains before between bytes
    → Gains between after piece
    → Gains before after (bytes ++ piece)
gains_more None between after bytes piece first next = next ∙ ap (option_map (λ written. written ++ piece)) first
gains_more (Some written) between after bytes piece first next =
    rw (← append_assoc) (next ∙ ap (option_map (λ written. written ++ piece)) first)

-- the next writing of a text whose first `done` bytes were written, of `count` bytes of what is left of it
pub gains_next : (before between after : Option (List ℕ)) (text : List ℕ) (done count : ℕ)
    → Gains before between (take done text)
    → Gains between after (take count (take (length text - done) (drop done text)))
    → Gains before after (take (done + count) text)
gains_next before between after text done count first next =
    rw take-add (gains_more before between after _ _ first (rw take_rest at next))
