-- What a client carries from replica to replica, so that it keeps its session guarantees (after Terry and others, 1994; the
-- counts by origin are this project's own).
use Rattle.std.specs.Prelude.{◌≡◌, ℕ, ◌+◌, max, nat_lt, List, find, length, map, replicate, slice_index, slice_set, Option}
use Rattle.std.specs.List.{range_with_len}
use Rattle.std.specs.Option.{option_map}
use Rattle.tact_base.specs.Setup.{Setup, replicas_of}
use Rattle.run_model.specs.Taking.{have}
use Rattle.run_model.specs.declared.call.Reply.{Reply}
use Rattle.run_model.specs.declared.call.Reply.TheVariants as reply
use Rattle.run_model.specs.declared.entry.Entry.{Entry}
use Rattle.session_guard.specs.declared.steps.Visit.{Visit}
use Rattle.session_guard.specs.declared.steps.Visit.TheVariants as visit

-- by origin how many writes were there where it read, and how many with the last one that it made there
pub record PassState : Type 0 where
  pub reads : List ℕ
  pub writes : List ℕ

-- that of a client that did nothing, and one among so many replicas
abbrev pub fresh_pass : ℕ → PassState
fresh_pass n = record { reads = replicate n 0; writes = replicate n 0 }

pub record IsPass (n : ℕ) (pass : PassState) : Type 0 where
  pub reads : length pass.reads ≡ n
  pub writes : length pass.writes ≡ n

-- how many writes of an origin a replica needs to have for it
abbrev pub wanted : PassState → ℕ → ℕ
wanted pass origin = max (slice_index pass.reads origin) (slice_index pass.writes origin)

-- how many writes of each origin a replica has
abbrev pub haves_of : Setup → ℕ → List Entry → List ℕ
haves_of setup replica part = map (have replica part) (replicas_of setup)

-- what keeps the client away where so many writes are had: the least origin of which these are too few
abbrev pub lack_of : List ℕ → PassState → Option Visit
lack_of haves pass =
    option_map (λ origin. visit.Behind origin (slice_index haves origin) (wanted pass origin))
    (find (λ origin. nat_lt (slice_index haves origin) (wanted pass origin)) (range_with_len 0 (length haves)))

-- a pass after the reply of a replica that had so many writes: with those up to its own new one, or with all that were
-- read of
abbrev pub pass_after : List ℕ → ℕ → PassState → Reply → PassState
pass_after haves replica pass (reply.Done index stamp) = record pass { writes = slice_set pass.writes replica (index + 1) }
pass_after haves replica pass (reply.Value value sums) =
    record pass { reads = map (λ origin. max (slice_index pass.reads origin) (slice_index haves origin)) (range_with_len 0 (length haves)) }
pass_after haves replica pass other = pass
