use Rattle.std.proofs.Common.{[], ◌∷◌}
use Rattle.std.proofs.lemmas.List.Elements.{All-nil, All-cons}
use Rattle.access_gate.specs.Verdicts.{AreOuts}
use Rattle.access_gate.specs.declared.gate.Facts.{Facts}
use Rattle.access_gate.proofs.gate.tests.names_the_first_need.Goals as goal

abbrev HasOuts : Facts → Type 0
HasOuts facts = AreOuts 3 facts.outs

pub admit-requires-clause-outs : goal.admit-requires-clause-outs
admit-requires-clause-outs g c =
    All-cons HasOuts c.facts.result (c.facts-2.result ∷ []) c.facts.ensures
    (All-cons HasOuts c.facts-2.result [] c.facts-2.ensures (All-nil HasOuts))
