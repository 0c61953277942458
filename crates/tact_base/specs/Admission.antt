-- Whether a read is admitted, need by need (after the three errors of Yu and Vahdat's conits).
use Rattle.std.specs.Prelude.{ℕ, ◌-◌, ◌*◌, nat_lt, List, length, sum, slice_index, Option, Some, if◌then◌else◌}
use Rattle.std.specs.List.{position_or_len}
use Rattle.std.specs.Option.{option_map}
use Rattle.tact_base.specs.declared.conit_list.Need.{Need}
use Rattle.tact_base.specs.declared.write.Late.{Late}

-- what keeps a need from being met: what is lent out, the tentative order weight, or a late replica
pub data Hindrance : Type 0 where
  lent : ℕ → ℕ → ℕ → Hindrance
  unordered : ℕ → ℕ → Hindrance
  stale : Late → Hindrance

-- the least holder that has more than its part of `num` out, where the replicas' outs pass it in all
abbrev pub first_over_part : List ℕ → ℕ → ℕ
first_over_part outs num = position_or_len (λ out. nat_lt num (out * (length outs - 1))) outs

-- The first hindrance of a need: `outs` is what each replica holds out of the asking one's bound, `tentative` the order
-- weight of tentative writes on the conit, `slowest` the least replica with the least stamp, `late` the first late
-- peer.
abbrev pub hindrance : Need → List ℕ → ℕ → ℕ → Option Late → Option Hindrance
hindrance need outs tentative slowest late =
    if nat_lt need.num (sum outs) then Some (lent (first_over_part outs need.num) (slice_index outs (first_over_part outs need.num)) (sum outs))
    else if nat_lt need.order tentative then Some (unordered slowest tentative)
    else option_map stale late

-- the earliest moment that a need wants to have been seen, at 0 where `stale` is greater
abbrev pub wanted_moment : ℕ → Need → ℕ
wanted_moment moment need = moment - need.stale
