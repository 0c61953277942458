-- What a replica keeps of each origin's state (`Cover`, this project's own, in place of version, stamp and time
-- vectors).
use Rattle.std.specs.Prelude.{ℕ, ◌==◌, Bool, not, ◌&&◌, nat_le, nat_lt, min, List, [], ◌∷◌, map, fold, find, Option, if◌then◌else◌}
use Rattle.std.specs.List.{position_or_len, enumerate_from}
use Rattle.std.specs.Option.{option_map}
use Rattle.tact_base.specs.declared.write.Cover.{Cover}
use Rattle.tact_base.specs.declared.write.Late.{Late}

-- the cover of an origin of which nothing is known
abbrev pub no_cover : Cover
no_cover = record { count = 0; stamp = 0; moment = 0 }

-- none of the three told numbers is less than the kept one
abbrev pub is_later : Cover → Cover → Bool
is_later kept told = nat_le kept.count told.count && (nat_le kept.stamp told.stamp && nat_le kept.moment told.moment)

-- a kept cover after a told one
abbrev pub later_cover : Cover → Cover → Cover
later_cover kept told = if is_later kept told then told else kept

-- a kept cover after a told one, where the log of the origin has `have` writes: it vouches for no write past these
abbrev pub cover_after : ℕ → Cover → Cover → Cover
cover_after have kept told = if nat_le told.count have then later_cover kept told else kept

-- the least of numbers, of which there is at least one
abbrev pub least_of : List ℕ → ℕ
least_of [] = 0
least_of (x ∷ xs) = fold min x xs

-- the least stamp over covers, of which there is at least one
abbrev pub least_stamp : List Cover → ℕ
least_stamp covers = least_of (map (λ cover. cover.stamp) covers)

-- the least replica whose cover has the least stamp
abbrev pub slowest : List Cover → ℕ
slowest covers = position_or_len (λ cover. cover.stamp == least_stamp covers) covers

-- the least other replica whose cover has a moment below `wanted`, and that moment
abbrev pub first_late : List Cover → ℕ → ℕ → Option Late
first_late covers replica wanted =
    option_map (λ late. record { replica = late.0; moment = late.1.moment })
    (find (λ peer. not (peer.0 == replica) && nat_lt peer.1.moment wanted) (enumerate_from 0 covers))
