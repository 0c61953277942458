use Rattle.weight_ledger.specs.Amounts.{picked}
use Rattle.weight_ledger.proofs.cell.Cell.split_own.Given as goal

-- all that the tally has at the places
abbrev pub ghosts-cut_places : goal.ghosts-cut_places
ghosts-cut_places g a = record { amounts = picked a.places.now a.tally.now.amounts; owns = picked a.places.now a.tally.now.owns }
