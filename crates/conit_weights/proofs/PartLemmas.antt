-- The three sums that are kept together on each conit.
use Rattle.std.proofs.Common.{◌≡◌, ℕ, zero, suc, ◌+◌, ◌-◌, ◌<◌, ◌≤◌, List, length, get_or, set, take, map, replicate, refl, sym, ap, ◌∙◌, arith}
use Rattle.std.proofs.lemmas.List.{get_or-map, length-map, map-set}
use Rattle.conit_sums.proofs.SumLemmas.{no_weight, added-one, removed-one, write_sum-next}
use Rattle.conit_sums.specs.declared.Summed.{Summed}
use Rattle.conit_sums.specs.declared.Summed.TheVariants.{Plus, Minus, Order}
use Rattle.conit_sums.specs.ConitSums.{AreSumsOf, number_of, write_sum}
use Rattle.tact_base.specs.Sums.{above_zero, below_zero}
use Rattle.tact_base.specs.declared.conit_list.Weight.{Weight}
use Rattle.conit_weights.specs.declared.running.OnConit.{OnConit}
use Rattle.conit_weights.specs.Running.{RunningState, HoldsAll, part_of, seen_of}

-- what is seen of the three
abbrev pub state_of : List OnConit → ℕ → RunningState
state_of sums held = record { plus = seen_of Plus sums held; minus = seen_of Minus sums held; order = seen_of Order sums held }

pub each_of : (summed : Summed) (sums : List OnConit) (held : ℕ) (writes : List (List Weight))
    → HoldsAll (state_of sums held) writes
    → AreSumsOf (seen_of summed sums held) writes
each_of Plus sums held writes of = of.plus
each_of Minus sums held writes of = of.minus
each_of Order sums held writes of = of.order

-- nothing is summed yet
pub none_of : (summed : Summed) (n conit : ℕ) → get_or (map (part_of summed) (replicate n (record { plus = 0; minus = 0; order = 0 }))) conit 0 ≡ 0
none_of summed zero conit = refl
none_of Plus (suc n) zero = refl
none_of Minus (suc n) zero = refl
none_of Order (suc n) zero = refl
none_of summed (suc n) (suc conit) = none_of summed n conit

-- what was read of a conit
pub read_part : (summed : Summed) (sums : List OnConit) (conit : ℕ) (read : OnConit)
    → conit < length sums
    → read ≡ get_or sums conit read
    → part_of summed read ≡ get_or (map (part_of summed) sums) conit 0
read_part summed sums conit read within is = ap (part_of summed) is ∙ sym (get_or-map (part_of summed) sums conit read 0 within)

part_with : (summed : Summed) (before after : OnConit) (weight : Weight)
    → after.plus ≡ before.plus + above_zero weight.nweight
    → after.minus ≡ before.minus + below_zero weight.nweight
    → after.order ≡ before.order + weight.oweight
    → part_of summed after ≡ part_of summed before + number_of summed weight
part_with Plus before after weight plus minus order = plus
part_with Minus before after weight plus minus order = minus
part_with Order before after weight plus minus order = order

part_without : (summed : Summed) (before after : OnConit) (weight : Weight)
    → after.plus ≡ before.plus - above_zero weight.nweight
    → after.minus ≡ before.minus - below_zero weight.nweight
    → after.order ≡ before.order - weight.oweight
    → part_of summed after ≡ part_of summed before - number_of summed weight
part_without Plus before after weight plus minus order = plus
part_without Minus before after weight plus minus order = minus
part_without Order before after weight plus minus order = order

-- what is stored on a conit
stored : (summed : Summed) (sums : List OnConit) (conit : ℕ) (after : OnConit) (n : ℕ)
    → part_of summed after ≡ n
    → map (part_of summed) (set sums conit after) ≡ set (map (part_of summed) sums) conit n
stored summed sums conit after n is = map-set (part_of summed) sums conit after ∙ ap (set (map (part_of summed) sums) conit) is

-- One more of the weights, and what was read of its conit.
module _ (weights : List Weight) (i : ℕ) (within : i < length weights) (sums old : List OnConit) (read : OnConit) (held : (get_or weights i no_weight).conit < length sums) (is : read ≡ get_or sums (get_or weights i no_weight).conit read) (summed : Summed) where
  abbrev weight : Weight
  weight = get_or weights i no_weight

  abbrev parts : List OnConit → List ℕ
  parts = map (part_of summed)

  was : part_of summed read ≡ get_or (parts sums) weight.conit 0
  was = read_part summed sums weight.conit read held is

  held_part : weight.conit < length (parts sums)
  held_part = omega (arith, held, length-map sums (part_of summed))

  pub room_for : (most : ℕ)
      → ((c : ℕ) → get_or (parts sums) c 0 ≡ get_or (parts old) c 0 + write_sum summed (take i weights) c)
      → ((c : ℕ) → get_or (parts old) c 0 + write_sum summed weights c < most)
      → part_of summed read + number_of summed weight < most
  room_for most so_far room = omega (arith, was, so_far weight.conit, room weight.conit, write_sum-next summed weights i no_weight within)

  pub enough_of : ((c : ℕ) → get_or (parts sums) c 0 + write_sum summed (take i weights) c ≡ get_or (parts old) c 0)
      → ((c : ℕ) → write_sum summed weights c ≤ get_or (parts old) c 0)
      → number_of summed weight ≤ part_of summed read
  enough_of so_far all = omega (arith, was, so_far weight.conit, all weight.conit, write_sum-next summed weights i no_weight within)

  pub one_added : (after : OnConit) (conit : ℕ)
      → after.plus ≡ read.plus + above_zero weight.nweight
      → after.minus ≡ read.minus + below_zero weight.nweight
      → after.order ≡ read.order + weight.oweight
      → ((c : ℕ) → get_or (parts sums) c 0 ≡ get_or (parts old) c 0 + write_sum summed (take i weights) c)
      → get_or (parts (set sums weight.conit after)) conit 0 ≡ get_or (parts old) conit 0 + write_sum summed (take (i + 1) weights) conit
  one_added after conit plus minus order so_far =
      let now = part_with summed read after weight plus minus order ∙ ap (λ n. n + number_of summed weight) was in
      ap (λ (l : List ℕ). get_or l conit 0) (stored summed sums weight.conit after (get_or (parts sums) weight.conit 0 + number_of summed weight) now)
      ∙ added-one summed weights i no_weight within (parts sums) (parts old) conit held_part so_far

  pub one_removed : (after : OnConit) (conit : ℕ)
      → after.plus ≡ read.plus - above_zero weight.nweight
      → after.minus ≡ read.minus - below_zero weight.nweight
      → after.order ≡ read.order - weight.oweight
      → ((c : ℕ) → get_or (parts sums) c 0 + write_sum summed (take i weights) c ≡ get_or (parts old) c 0)
      → ((c : ℕ) → write_sum summed weights c ≤ get_or (parts old) c 0)
      → get_or (parts (set sums weight.conit after)) conit 0 + write_sum summed (take (i + 1) weights) conit ≡ get_or (parts old) conit 0
  one_removed after conit plus minus order so_far all =
      let now = part_without summed read after weight plus minus order ∙ ap (λ n. n - number_of summed weight) was in
      let enough : number_of summed weight ≤ get_or (parts sums) weight.conit 0 = omega (arith, was, enough_of so_far all) in
      ap (λ (l : List ℕ). get_or l conit 0 + write_sum summed (take (i + 1) weights) conit) (stored summed sums weight.conit after (get_or (parts sums) weight.conit 0 - number_of summed weight) now)
      ∙ removed-one summed weights i no_weight within (parts sums) (parts old) conit held_part enough so_far
