-- The counts of a replica's writes, gathered origin by origin.
use Rattle.std.proofs.Common.{◌≡◌, ℕ, ◌+◌, ◌<◌, List, ◌∷◌, [], ◌++◌, length, map, set, take, sym, ap₂, ◌∙◌, arith}
use Rattle.std.specs.List.{range_with_len}
use Rattle.std.proofs.lemmas.List.{length-set, take_more_set}
use Rattle.std.proofs.lemmas.List.FromFn.{map-range_with_len_more}
use Rattle.replica_core.specs.States.{Core, log_at}

abbrev count_at : Core → ℕ → ℕ
count_at core origin = length (log_at core origin)

-- of eight places the first so many have them
pub record AreCounted (core : Core) (haves : List ℕ) (count : ℕ) : Type 0 where
  pub sized : length haves ≡ 8
  pub counted : take count haves ≡ map (count_at core) (range_with_len 0 count)

pub one_more_counted : (core : Core) (haves : List ℕ) (count have : ℕ)
    → AreCounted core haves count
    → count < 8
    → have ≡ length (log_at core count)
    → AreCounted core (set haves count have) (count + 1)
one_more_counted core haves count have are few is = record {
  sized = length-set haves count have ∙ are.sized;
  counted =
      take_more_set haves count have (omega (arith, few, are.sized))
      ∙ ap₂ (λ (front : List ℕ) (last : ℕ). front ++ last ∷ []) are.counted is
      ∙ sym (map-range_with_len_more (count_at core) 0 count count (omega arith));
}
