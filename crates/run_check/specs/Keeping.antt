-- Messages that are kept without their writes, each of which stands once in a table by origin.
use Rattle.std.specs.Prelude.{◌≡◌, ℕ, ◌<◌, ◌≤◌, ◌-◌, List, [], ◌++◌, take, length, slice_index_or, All}
use Rattle.std.specs.List.{between, flat_map}
use Rattle.tact_base.specs.declared.write.Write.{Write}
use Rattle.run_model.specs.declared.entry.Message.{Message}
use Rattle.run_check.specs.declared.kept.Span.{Span}
use Rattle.run_check.specs.declared.kept.Kept.{Kept}

-- the writes of an origin in the table
abbrev pub of_origin : List (List Write) → ℕ → List Write
of_origin written origin = slice_index_or written origin []

-- the writes of a span of the table
abbrev pub writes_of : List (List Write) → Span → List Write
writes_of written span = between span.first span.past (of_origin written span.origin)

-- a kept message made whole: its writes are those of its spans, and then those that it holds itself
abbrev pub whole_of : List (List Write) → Kept → Message
whole_of written kept = record kept.message { writes = flat_map (writes_of written) kept.spans ++ kept.message.writes }

-- a span all of whose writes stand in the table
pub record IsSpanIn (written : List (List Write)) (span : Span) : Type 0 where
  pub origin : span.origin < length written
  pub order : span.first ≤ span.past
  pub past : span.past ≤ length (of_origin written span.origin)

-- a span of the first of these writes, which are at least one
pub record IsSpanOf (written : List (List Write)) (writes : List Write) (span : Span) : Type 0 where
  pub within : IsSpanIn written span
  pub some : span.first < span.past
  pub few : span.past - span.first ≤ length writes
  pub told : writes_of written span ≡ take (span.past - span.first) writes

-- all spans of a kept message are in the table
abbrev pub IsPlaced : List (List Write) → Kept → Type 0
IsPlaced written kept = All (IsSpanIn written) kept.spans

-- a table that only grew: each origin's writes begin with what they were
pub record HasGrown (before after : List (List Write)) : Type 0 where
  pub sized : length after ≡ length before
  pub begins : (origin : ℕ) → take (length (of_origin before origin)) (of_origin after origin) ≡ of_origin before origin
