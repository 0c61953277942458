-- A list that doesn't change any more.
use Rattle.std.specs.Prelude.{List, []}
use Rattle.std.specs.Arc.{arc_value}
use Rattle.tact_base.specs.declared.shared_list.Held.{Held}
use Rattle.tact_base.specs.declared.shared_list.Held.TheVariants.{Nowhere, Alone, Shared}

-- the items that it has
abbrev pub items_held : {T : Type 0} → Held T → List T
items_held Nowhere = []
items_held (Alone list) = list
items_held (Shared list) = arc_value list
