use Rattle.std.proofs.Common.{[], length}
use Rattle.weight_ledger.specs.Amounts.{alone}
use Rattle.weight_ledger.proofs.cell.Cell.split.Given as goal

-- the amount at its place
abbrev pub ghosts-cut_amount : goal.ghosts-cut_amount
ghosts-cut_amount g a = record { amounts = alone (length a.tally.now.amounts) a.place a.amount; owns = [] }
