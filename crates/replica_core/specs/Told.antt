-- What a message tells of logs from given firsts on, in pieces of them: of each origin the writes from its first up to
-- an end.
use Rattle.std.specs.Prelude.{◌≡◌, ℕ, ◌+◌, ◌-◌, ◌<◌, ◌≤◌, min, List, [], All, take, drop, length, replicate, slice_index, slice_index_or}
use Rattle.std.specs.List.{flat_map, range_with_len}
use Rattle.tact_base.specs.declared.limits.TheConstants.{MESSAGE_WRITES, REPLICAS_MAX}
use Rattle.tact_base.specs.declared.write.Write.{Write}
use Rattle.replica_core.specs.declared.told_logs.Told.{Told}

-- the log of an origin
abbrev pub of_origin : List (List Write) → ℕ → List Write
of_origin logs origin = slice_index_or logs origin []

-- its writes from its first on
abbrev pub writes_past : List (List Write) → List ℕ → ℕ → List Write
writes_past logs firsts origin = drop (slice_index firsts origin) (of_origin logs origin)

-- what is told of the first so many origins, and of all
abbrev pub told_before : List (List Write) → List ℕ → ℕ → List Write
told_before logs firsts origin = take MESSAGE_WRITES (flat_map (writes_past logs firsts) (range_with_len 0 origin))

abbrev pub told_from : List (List Write) → List ℕ → List Write
told_from logs firsts = told_before logs firsts (length logs)

-- where what is told of an origin ends: its log does, or there is no more room
abbrev pub end_told : List (List Write) → List ℕ → ℕ → ℕ
end_told logs firsts origin =
    min (slice_index firsts origin + (MESSAGE_WRITES - length (told_before logs firsts origin))) (length (of_origin logs origin))

-- the ends are these
abbrev pub AreEndsTold : List (List Write) → List ℕ → List ℕ → Type 0
AreEndsTold logs firsts ends = (origin : ℕ) → origin < length logs → slice_index ends origin ≡ end_told logs firsts origin

-- the writes of an origin from its first up to its end, and those of all origins
abbrev pub piece_of : List (List Write) → List ℕ → List ℕ → ℕ → List Write
piece_of logs firsts ends origin = drop (slice_index firsts origin) (take (slice_index ends origin) (of_origin logs origin))

abbrev pub pieces_of : List (List Write) → List ℕ → List ℕ → List Write
pieces_of logs firsts ends = flat_map (piece_of logs firsts ends) (range_with_len 0 (length logs))

-- no list
abbrev pub nothing_told : Told
nothing_told = record { firsts = []; ends = replicate REPLICAS_MAX 0; writes = [] }

-- A kept list has the pieces from its firsts up to its ends, none of which is past its log.
pub record ArePieces (logs : List (List Write)) (told : Told) : Type 0 where
  pub within : (origin : ℕ) → origin < length logs → slice_index told.ends origin ≤ length (of_origin logs origin)
  pub writes : told.writes ≡ pieces_of logs told.firsts told.ends

-- There is a log for each of so many replicas, and a kept list of it.
pub record KeepsTold (replicas : ℕ) (logs : List (List Write)) (told : List Told) : Type 0 where
  pub sized : length logs ≡ replicas
  pub few : replicas ≤ REPLICAS_MAX
  pub places : length told ≡ replicas
  pub pieces : All (ArePieces logs) told
