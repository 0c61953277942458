-- What a replica has seen, in order, and what it keeps of that: the image of its operations, and the sums of its
-- weights by conit.
use Rattle.std.specs.Prelude.{◌≡◌, ℕ, ◌-◌, ◌<◌, ◌≤◌, List, All, length, map, slice_get, take, Option}
use Rattle.std.specs.List.Sorted.{IsSorted}
use Rattle.std.specs.Option.{option_map}
use Rattle.tact_base.specs.Images.{image_of, ops_of}
use Rattle.tact_base.specs.WriteOrder.{write_cmp, committed_to, tentative_past}
use Rattle.tact_base.specs.declared.conit_list.Weight.{Weight}
use Rattle.tact_base.specs.declared.limits.TheConstants.{SUMMED_WRITES}
use Rattle.tact_base.specs.declared.write.Write.{Write}
use Rattle.conit_sums.specs.ConitSums.{SumsState, AreSumsOf}
use Rattle.conit_weights.specs.Running.{RunningState, HoldsAll}
use Rattle.rollback_apply.specs.Image.{ImageState, base_of}
use Rattle.replica_core.specs.declared.last_one.LastOne.{LastOne}

-- on how many conits its writes may weigh, all writes in order, how many of them were given up, the last point, and how
-- many more writes can surely be put in without taking memory
pub record SeenState : Type 0 where
  pub conits : ℕ
  pub writes : List Write
  pub dropped : ℕ
  pub point : ℕ
  pub room : ℕ

-- the weights of each of some writes
abbrev pub weights_of : List Write → List (List Weight)
weights_of writes = map (λ write. write.weights) writes

-- writes that weigh on so many conits alone
abbrev pub AreOnConits : ℕ → List Write → Type 0
AreOnConits conits writes = All (λ write. All (λ weight. weight.conit < conits) write.weights) writes

-- which write is the last of some, where there is one
abbrev pub last_one : List Write → Option LastOne
last_one writes = option_map (λ write. record { origin = write.origin; index = write.index }) (slice_get writes (length writes - 1))

-- An image is that of writes in order: those up to a point are committed in it, and the others tentative.
pub record HasImage (seen : List Write) (point : ℕ) (image : ImageState) : Type 0 where
  pub committed : image.committed ≡ length (committed_to point seen)
  pub base : (key : ℕ) → base_of image key ≡ image_of (ops_of (committed_to point seen)) key
  pub ops : image.ops ≡ ops_of (tentative_past point seen)

-- Sums are those of all writes, and those of the order weights of the ones that are committed.
pub record HasSums (seen : List Write) (point : ℕ) (sums : RunningState) (totals : SumsState) : Type 0 where
  pub all : HoldsAll sums (weights_of seen)
  pub settled : AreSumsOf totals (weights_of (committed_to point seen))

-- What is kept of all that is seen: the writes are in order and not too many to be summed, on these conits, with their
-- image and sums; the last of those that were given up, which are committed, is known; and there is the room in the
-- order and in the image.
pub record KeepsSeen (seen : SeenState) (last : Option LastOne) (order_room : ℕ) (kept : ImageState) (sums : RunningState) (totals : SumsState) : Type 0 where
  pub sorted : IsSorted write_cmp seen.writes
  pub few : length seen.writes ≤ SUMMED_WRITES
  pub on_conits : AreOnConits seen.conits seen.writes
  pub has_image : HasImage seen.writes seen.point kept
  pub has_sums : HasSums seen.writes seen.point sums totals
  pub conits : length totals.sums ≡ seen.conits
  pub order : seen.room ≤ order_room
  pub image : seen.room ≤ kept.room
  pub gone : seen.dropped ≤ length (committed_to seen.point seen.writes)
  pub gone_last : last ≡ last_one (take seen.dropped (committed_to seen.point seen.writes))
