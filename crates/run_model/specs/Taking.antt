-- What a replica keeps of each origin: its log and its cover (anti-entropy after Golding, with this project's `Cover`).
use Rattle.std.specs.Prelude.{ℕ, ◌==◌, max, List, [], filter, map, fold, length, slice_index, slice_index_or, if◌then◌else◌}
use Rattle.std.specs.List.{flat_map}
use Rattle.tact_base.specs.Logs.{log_after}
use Rattle.tact_base.specs.Covers.{no_cover, cover_after}
use Rattle.tact_base.specs.declared.write.Cover.{Cover}
use Rattle.tact_base.specs.declared.write.Write.{Write}
use Rattle.tact_base.specs.Setup.{Setup, replicas_of}
use Rattle.run_model.specs.Histories.{taken_in, taken_from, greatest}
use Rattle.run_model.specs.OwnWrites.{own}
use Rattle.run_model.specs.declared.entry.Entry.{Entry}
use Rattle.run_model.specs.declared.entry.Message.{Message}

-- what a message tells of an origin: how many of its writes the sender has, its cover, the index of the first told
-- write, the told writes
abbrev pub told_have : Message → ℕ → ℕ
told_have message origin = slice_index message.haves origin

abbrev pub told_cover : Message → ℕ → Cover
told_cover message origin = slice_index_or message.covers origin no_cover

abbrev pub told_first : Message → ℕ → ℕ
told_first message origin = slice_index message.firsts origin

abbrev pub told_writes : Message → ℕ → List Write
told_writes message origin = filter (λ write. write.origin == origin) message.writes

-- what a replica keeps of another origin: its log and its cover
pub record OriginState : Type 0 where
  pub log : List Write
  pub cover : Cover

-- the same after the take of a message: the log takes the told writes, and the cover is replaced where it is within the
-- log
abbrev pub after_taking : ℕ → OriginState → Message → OriginState
after_taking origin kept message =
    let log = log_after kept.log (told_first message origin) (told_writes message origin) in
    record { log = log; cover = cover_after (length log) kept.cover (told_cover message origin) }

abbrev pub origin_state : List Entry → ℕ → OriginState
origin_state part origin = fold (after_taking origin) (record { log = []; cover = no_cover }) (taken_in part)

-- the log that a replica has of an origin: its own writes, or what it keeps
abbrev pub log_of : ℕ → List Entry → ℕ → List Write
log_of replica part origin = if origin == replica then own part else (origin_state part origin).log

-- how many writes of an origin it has
abbrev pub have : ℕ → List Entry → ℕ → ℕ
have replica part origin = length (log_of replica part origin)

-- the clock: the greatest stamp of an own write or of a cover in a taken message
abbrev pub clock : List Entry → ℕ
clock part = max (greatest (map (λ write. write.stamp) (own part))) (greatest (map (λ cover. cover.stamp) (flat_map (λ message. message.covers) (taken_in part))))

-- the cover that a replica has of an origin: of itself the count of own writes, the clock, and the moment t
abbrev pub cover_of : ℕ → List Entry → ℕ → ℕ → Cover
cover_of replica part t origin =
    if origin == replica then record { count = length (own part); stamp = clock part; moment = t } else (origin_state part origin).cover

abbrev pub covers_of : Setup → ℕ → List Entry → ℕ → List Cover
covers_of setup replica part t = map (cover_of replica part t) (replicas_of setup)

-- how many writes of an origin a peer is known to have: the most that it told
abbrev pub known : List Entry → ℕ → ℕ → ℕ
known part peer origin = greatest (map (λ message. told_have message origin) (taken_from part peer))
