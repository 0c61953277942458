use Rattle.std.proofs.Common.{◌≡◌, length, [], take, map, Ok}
use Rattle.serde_json.specs.View.{view}
use Rattle.work_load.specs.Entries.{EachAfter, entries}
use Rattle.work_load.proofs.entries.entries.Given as goal

abbrev pub invariant-loop-place : goal.invariant-loop-place
invariant-loop-place g l =
    (entries l.first (g.T.Entry.read_after l.counts) (map view (take l.place l.values)) ≡ Ok l.list)
    × (length l.list ≡ l.place)
    × EachAfter (g.T.Entry.fits l.counts) [] l.list
