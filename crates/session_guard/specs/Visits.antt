-- What a visit asks and answers, and what it leaves.
use Rattle.std.specs.Prelude.{ℕ, ◌+◌, ◌<◌, ◌^◌, List, length, map, Option, None, Some}
use Rattle.replica_core.specs.States.{Core, log_at, origins_of}
use Rattle.run_model.specs.declared.call.Reply.{Reply}
use Rattle.run_model.specs.declared.call.Reply.TheVariants as reply
use Rattle.run_model.specs.declared.call.Request.{Request}
use Rattle.run_model.specs.declared.call.Request.TheVariants as request
use Rattle.session_guard.specs.declared.steps.Visit.{Visit}
use Rattle.session_guard.specs.declared.steps.Visit.TheVariants as visit

-- a request that is a write or a read
abbrev pub IsWriteOrRead : Request → Type 0
IsWriteOrRead (request.Write weights op) = Unit {0}
IsWriteOrRead (request.Read key needs) = Unit {0}
IsWriteOrRead other = ⊥

-- what kept the client away, where something did
abbrev pub lack_in : Visit → Option Visit
lack_in (visit.Behind origin have wanted) = Some (visit.Behind origin have wanted)
lack_in (visit.Answered reply) = None

-- a fact where something did, and one of the reply where nothing did
abbrev pub OnBehind : Type 0 → Visit → Type 0
OnBehind P (visit.Behind origin have wanted) = P
OnBehind P (visit.Answered reply) = Unit {0}

abbrev pub IfAnswered : (Reply → Type 0) → Visit → Type 0
IfAnswered P (visit.Behind origin have wanted) = Unit {0}
IfAnswered P (visit.Answered reply) = P reply

-- how many writes of each origin a replica has, from what it keeps
abbrev pub haves_at : Core → List ℕ
haves_at core = map (λ origin. length (log_at core origin)) (origins_of core)

-- an accepted write has an index with one after it
abbrev pub HasNextIndex : Reply → Type 0
HasNextIndex (reply.Done index stamp) = index + 1 < 2 ^ 64
HasNextIndex other = Unit {0}
