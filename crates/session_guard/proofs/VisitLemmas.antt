-- What a replica that stands for a part says of the reply to a visit.
use Rattle.std.proofs.Common.{◌≡◌, ℕ, List, length, ◌∙◌}
use Rattle.std.proofs.lemmas.List.{length-map}
use Rattle.std.proofs.lemmas.List.FromFn.{length-range_with_len}
use Rattle.run_model.specs.Histories.{calls_in, moment_at}
use Rattle.run_model.specs.Runs.{MayFollow}
use Rattle.run_model.specs.declared.call.Reply.{Reply}
use Rattle.run_model.specs.declared.call.Request.{Request}
use Rattle.run_model.specs.declared.entry.Act.TheVariants as act
use Rattle.run_model.specs.declared.entry.Entry.{Entry}
use Rattle.run_model.proofs.PrefixLemmas.{EachAfter-last}
use Rattle.replica_core.specs.States.{Core, log_at, origins_of}
use Rattle.replica_core.specs.Stands.{Stands, with_act}
use Rattle.session_guard.specs.Visits.{HasNextIndex, IsWriteOrRead, haves_at}
use Rattle.session_guard.proofs.DoneReplies.{has_next_index}

-- there is a count for each origin
pub length-haves_at : (core : Core) → length (haves_at core) ≡ core.setup.replicas
length-haves_at core = length-map (origins_of core) (λ (origin : ℕ). length (log_at core origin)) ∙ length-range_with_len 0 core.setup.replicas

-- an accepted write has an index with one after it
pub stands_next : (old new : Core) (part : List Entry) (moment client : ℕ) (asked : Request) (given : Reply)
    → IsWriteOrRead asked
    → Stands (with_act old.replica part moment (act.Call client (calls_in part client) asked given)) new
    → HasNextIndex given
stands_next old new part moment client asked given kind stands =
    let entry : Entry = record { replica = old.replica; moment = moment_at part moment; act = act.Call client (calls_in part client) asked given } in
    let follows = EachAfter-last (MayFollow new.setup new.replica) part entry stands.is_part in
    has_next_index new.setup part old.replica (moment_at part moment) client (calls_in part client) asked given follows.1 kind
