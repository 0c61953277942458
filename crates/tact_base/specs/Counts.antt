-- Counts: one more of one, and where the writes of an origin begin in a message (the rule of sending, after Golding).
use Rattle.std.specs.Prelude.{ℕ, ◌+◌, ◌-◌, ◌^◌, ◌==◌, min, max, if◌then◌else◌}

-- one more, at most the greatest u64
abbrev pub one_more : ℕ → ℕ
one_more count = min (count + 1) (2 ^ 64 - 1)

-- Where the writes of an origin begin in a message to a receiver, where so many are had, so many known to be had by the
-- receiver, and so many given: past what it has, as it is known or given. Of the receiver's own writes none is told.
abbrev pub first_index : ℕ → ℕ → ℕ → ℕ → ℕ → ℕ
first_index receiver origin have known given = if origin == receiver then have else min have (max given known)
