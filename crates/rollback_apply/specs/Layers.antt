-- Tentative operations as they are kept, each with what undoes it.
use Rattle.std.specs.Prelude.{◌≡◌, ℕ, ◌+◌, ◌*◌, ◌≤◌, List, length, map, take, drop, All, Some, vec_len}
use Rattle.std.specs.List.{sum_by}
use Rattle.std.specs.Vec.{vec_capacity}
use Rattle.tact_base.specs.Images.{Image, image_from, image_of}
use Rattle.tact_base.specs.declared.write.Op.{Op}
use Rattle.rollback_apply.specs.Current.{CurrentState, place_of, holds, lacking}
use Rattle.rollback_apply.specs.Keys.{first_key, second_key, with_key_values, undos_of}
use Rattle.rollback_apply.specs.declared.keys.KeyValues.{KeyValues}
use Rattle.rollback_apply.specs.declared.lagging.TheConstants.{LAG}
use Rattle.rollback_apply.specs.declared.layers.Layer.{Layer}
use Rattle.rollback_apply.specs.declared.layers.Layers.{Layers}
use Rattle.rollback_apply.specs.declared.layers.Places.{Places}

-- the operations of layers
abbrev pub ops_in : List Layer → List Op
ops_in layers = map (λ layer. layer.op) layers

-- these are the places of the keys of an operation
pub record HasPlaces (current : CurrentState) (places : Places) (op : Op) : Type 0 where
  pub first : place_of current (first_key op) ≡ Some places.first
  pub second : place_of current (second_key op) ≡ Some places.second

-- each layer has the places of its keys
abbrev pub ArePlaced : CurrentState → List Layer → Type 0
ArePlaced current layers = All (λ layer. HasPlaces current layer.places layer.op) layers

-- at most how many places the keys of an operation want
abbrev pub wanted : CurrentState → Op → ℕ
wanted current op = lacking current (first_key op) + lacking current (second_key op)

-- and those of operations
abbrev pub all_wanted : CurrentState → List Op → ℕ
all_wanted current ops = sum_by (wanted current) ops

-- the keys of an operation hold other values, and all others what they held
abbrev pub SetsKeys : CurrentState → CurrentState → Op → KeyValues → Type 0
SetsKeys old new op values = (key : ℕ) → holds new key ≡ with_key_values (holds old) op values key

-- Operations are applied to an image: what keys hold is their fold, and each layer has what the keys of its operation
-- held before.
pub record IsApplied (base : Image) (current : CurrentState) (layers : List Layer) : Type 0 where
  pub undone : map (λ layer. layer.held) layers ≡ undos_of base (ops_in layers)
  pub fold : (key : ℕ) → holds current key ≡ image_from base (ops_in layers) key

-- The first operations are applied to the image of the committed ones, and have the places of their keys.
pub record Applies (layers : Layers) (count : ℕ) : Type 0 where
  pub applied : IsApplied (image_of (ops_in layers.settled.items)) layers.current (take count layers.tentative.items)
  pub placed : ArePlaced layers.current (take count layers.tentative.items)

-- There is memory for the places that the keys of operations want which aren't applied, as those behind the first
-- `applied` aren't, and for `more` operations, each with new keys.
pub record HasMemory (layers : Layers) (applied more : ℕ) : Type 0 where
  pub listed : vec_len layers.tentative + more ≤ vec_capacity layers.tentative
  pub keys : all_wanted layers.current (ops_in (drop applied layers.tentative.items)) + 2 * more ≤ layers.current.spare

-- Between calls so many tentative operations are applied, and at most `LAG` behind them aren't, so many are committed, and
-- there is memory for as many more as the room says.
pub record IsKept (layers : Layers) (applied committed room : ℕ) : Type 0 where
  pub applies : Applies layers applied
  pub within : applied ≤ length layers.tentative.items
  pub few : length layers.tentative.items ≤ applied + LAG
  pub counted : length layers.settled.items ≡ committed
  pub memory : HasMemory layers applied room
