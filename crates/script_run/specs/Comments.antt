-- The comments of `play`, from what a replica keeps and from errors.
use Rattle.std.specs.Prelude.{ℕ, ℤ, List, [], ◌∷◌, ◌++◌, length, map, codes, decimal, Option, None, Some}
use Rattle.std.specs.List.{join_with_byte}
use Rattle.std.specs.Fmt.{signed_decimal}
use Rattle.tact_base.specs.Setup.{replicas_of}
use Rattle.tact_base.specs.WriteOrder.{committed_to, tentative_past}
use Rattle.tact_base.specs.declared.conit_list.Need.{Need}
use Rattle.tact_base.specs.declared.write.Write.{Write}
use Rattle.run_model.specs.ScriptRuns.{comment, bounded_token}
use Rattle.run_model.specs.Histories.{part_of}
use Rattle.run_model.specs.Runs.{IsRun}
use Rattle.run_model.specs.declared.entry.Entry.{Entry}
use Rattle.replica_core.specs.Seen.{last_one}
use Rattle.replica_core.specs.Stands.{Stands}
use Rattle.replica_core.specs.States.{Core, log_at}
use Rattle.replica_core.specs.declared.last_one.LastOne.{LastOne}
use Rattle.reference_book.specs.Books.{BookState, IsBookOf}
use Rattle.reference_book.specs.declared.errors.Errors.{Errors}

-- a history is a run, of which the book has all accepted writes, and the replica stands for its part of it
pub record TellsTruth (kept : BookState) (core : Core) (history : List Entry) : Type 0 where
  pub run : IsRun core.setup history
  pub book : IsBookOf core.setup history kept
  pub stands : Stands (part_of history core.replica) core

-- how many writes of each origin a replica has
abbrev pub have_tokens : Core → List (List ℕ)
have_tokens core = map (λ origin. decimal (length (log_at core origin))) (replicas_of core.setup)

-- which write is the last of some
abbrev pub last_token : Option LastOne → List ℕ
last_token (Some last) = join_with_byte 46 (decimal last.origin ∷ decimal last.index ∷ [])
last_token None = codes "none"

-- what of writes in order is committed up to a point, and what is tentative
abbrev pub writes_tokens : ℕ → List Write → List (List ℕ)
writes_tokens point seen =
    codes "committed" ∷ decimal (length (committed_to point seen)) ∷ codes "last" ∷ last_token (last_one (committed_to point seen))
    ∷ codes "tentative" ∷ decimal (length (tentative_past point seen)) ∷ []

-- its clock, its point, and its writes
abbrev pub state_tokens : Core → List (List ℕ)
state_tokens core =
    codes "clock" ∷ decimal core.writes.clock ∷ codes "point" ∷ decimal core.writes.point ∷ writes_tokens core.writes.point core.writes.seen

-- the comment that shows a replica
abbrev pub shown_core : Core → List ℕ
shown_core core = comment ((codes "show" ∷ decimal core.replica ∷ codes "have" ∷ have_tokens core) ++ state_tokens core)

-- the comment on a need, where these are the errors on its conit
abbrev pub need_comment : Errors → Need → List ℕ
need_comment errors need =
    comment (codes "need" ∷ decimal need.conit ∷ codes "num" ∷ bounded_token errors.num need.num
    ∷ codes "order" ∷ bounded_token errors.order need.order ∷ codes "stale" ∷ bounded_token errors.age need.stale ∷ [])

-- the comment on a conit's true value
abbrev pub reference_comment : ℕ → ℤ → List ℕ
reference_comment conit value = comment (codes "ref" ∷ decimal conit ∷ signed_decimal value ∷ [])

-- the comment on what is refused: its word, its numbers, and its limit by a word and a number
abbrev pub refusal_comment : List ℕ → List ℕ → List ℕ → ℕ → List ℕ
refusal_comment word numbers limit most = comment (word ∷ map decimal numbers ++ limit ∷ decimal most ∷ [])
