-- What a list with room ends as, where its items are lent to be changed.
use Rattle.std.specs.Prelude.{List, length}
use Rattle.std.specs.List.{refill}
use Rattle.std.specs.Borrow.{Lends, Fml, RattleType, MutBor, Array}
use Rattle.tact_base.specs.Roomy.{Roomy}
use Rattle.tact_base.specs.contracts.roomy_list.RoomyList.{the_row}

-- the list with other items in their place, as many as before
abbrev pub with_items : {T : Type 0} → Roomy T → List T → Roomy T
with_items list items = record list { items = refill (length list.items) list.items items }

-- once the borrow of the items ends, they are what it shows last
abbrev pub lends_items : (T : RattleType) → MutBor (Roomy T.Denot) → MutBor (List T.Denot) → Fml
lends_items T list items = Lends (the_row T) (Array T 0) list items (with_items list.now)
