-- What contracts see of a cell, of a tally and of a value that is out.
use Rattle.std.specs.Prelude.{ℕ, List}
use Rattle.atomic_table.specs.Seated.{TableId}

-- which table a cell has, its label, and how many of its places are shared and owned
pub record CellView (L : Type 0) : Type 0 where
  pub id : TableId
  pub label : L
  pub shared : ℕ
  pub owned : ℕ

-- which cell's a tally is, its amount at each place, and 1 at each place that it owns
pub record TallyView : Type 0 where
  pub id : TableId
  pub amounts : List ℕ
  pub owns : List ℕ

-- the cell whose value is out, and what its totals have to be when it comes back
pub record HeldView (L : Type 0) : Type 0 where
  pub cell : CellView L
  pub book : List ℕ
