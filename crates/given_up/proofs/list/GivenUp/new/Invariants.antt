use Rattle.std.proofs.Common.{[]}
use Rattle.given_up.proofs.list.GivenUp.new.Given as goal

abbrev pub ghost-of_items : goal.ghost-of_items
ghost-of_items g a = []
