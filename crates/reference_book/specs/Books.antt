-- All accepted writes, by origin: of which history they are, and how far a replica is from what is true of them.
use Rattle.std.specs.Prelude.{◌≡◌, ◌≢◌, ℕ, ◌<◌, ◌≤◌, List, [], ◌∷◌, ◌++◌, All, AllPairs, Contains, length, drop, map, Option, None, Some, slice_index_or, slice_set}
use Rattle.std.specs.List.{flat_map, range_with_len}
use Rattle.tact_base.specs.Images.{Image, image_of, ops_of}
use Rattle.tact_base.specs.Setup.{Setup, replicas_of}
use Rattle.tact_base.specs.WriteOrder.{in_order}
use Rattle.tact_base.specs.declared.limits.TheConstants.{HISTORY_MAX, REPLICAS_MAX}
use Rattle.tact_base.specs.declared.write.Write.{Write}
use Rattle.run_model.specs.Histories.{part_of}
use Rattle.run_model.specs.OwnWrites.{own}
use Rattle.run_model.specs.Reference.{all_writes, num_error, order_error, age}
use Rattle.run_model.specs.declared.entry.Entry.{Entry}
use Rattle.conit_weights.specs.Running.{RunningState, HoldsAll}
use Rattle.replica_core.specs.Seen.{weights_of}
use Rattle.replica_core.specs.States.{Core, log_at}
use Rattle.reference_book.specs.declared.errors.Errors.{Errors}

-- on how many conits the writes may weigh, and the writes that each origin accepted
pub record BookState : Type 0 where
  pub conits : ℕ
  pub logs : List (List Write)

-- the writes of an origin, and those of all
abbrev pub log_in : BookState → ℕ → List Write
log_in book origin = slice_index_or book.logs origin []

abbrev pub writes_in : BookState → List Write
writes_in book = flat_map (λ log. log) book.logs

-- The book of a history has just the writes that each replica accepted in it.
pub record IsBookOf (setup : Setup) (history : List Entry) (book : BookState) : Type 0 where
  pub conits : book.conits ≡ setup.conits
  pub logs : book.logs ≡ map (λ replica. own (part_of history replica)) (replicas_of setup)

-- a write that is the next one of its origin, which has not accepted all that it can, and weighs on these conits alone
pub record IsNextIn (book : BookState) (write : Write) : Type 0 where
  pub origin : write.origin < length book.logs
  pub index : write.index ≡ length (log_in book write.origin)
  pub few : write.index < HISTORY_MAX
  pub on_conits : All (λ weight. weight.conit < book.conits) write.weights

-- with one more write of its origin
abbrev pub with_accepted : BookState → Write → BookState
with_accepted book write = record book { logs = slice_set book.logs write.origin (log_in book write.origin ++ write ∷ []) }

-- what keys hold after all accepted writes, in order
abbrev pub reference_image : Setup → List Entry → Image
reference_image setup history = image_of (ops_of (in_order (all_writes setup history)))

-- the errors of a replica on a conit, at a moment
abbrev pub errors_of : Setup → List Entry → ℕ → ℕ → ℕ → Errors
errors_of setup history replica moment conit = record {
  num = num_error setup history replica conit;
  order = order_error setup history replica conit;
  age = age setup history replica moment;
}

-- the moments of writes, and whether they rise
abbrev pub moments_of : List Write → List ℕ
moments_of writes = map (λ write. write.moment) writes

abbrev pub HaveRisingMoments : List Write → Type 0
HaveRisingMoments writes = AllPairs (λ (one other : Write). one.moment ≤ other.moment) writes

-- the writes of all origins that a replica hasn't seen
abbrev pub unseen_in : BookState → Core → List Write
unseen_in book core = flat_map (λ origin. drop (length (log_at core origin)) (log_in book origin)) (range_with_len 0 (length book.logs))

-- the least of numbers, if there is one
abbrev pub IsLeast : List ℕ → Option ℕ → Type 0
IsLeast numbers None = numbers ≡ []
IsLeast numbers (Some least) = Contains numbers least × All (λ number. least ≤ number) numbers

-- What every book keeps: there are no more origins and no more writes of one than can be; no two writes are alike in
-- origin and index, and each index is below the count of its origin; and the sums are those of all writes.
pub record KeepsBook (book : BookState) (kept : RunningState) : Type 0 where
  pub replicas : length book.logs ≤ REPLICAS_MAX
  pub few : All (λ log. length log ≤ HISTORY_MAX) book.logs
  pub placed : All (λ (write : Write). write.index < length (log_in book write.origin)) (writes_in book)
  pub apart : AllPairs (λ (one other : Write). one.origin ≡ other.origin → one.index ≢ other.index) (writes_in book)
  pub sums : HoldsAll kept (weights_of (writes_in book))
