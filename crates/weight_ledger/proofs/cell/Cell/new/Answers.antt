use Rattle.std.proofs.Common.{◌∷◌, ◌++◌, ◌∙◌, [], ap, Some}
use Rattle.weight_ledger.proofs.Ending.{opens}
use Rattle.weight_ledger.proofs.cell.Cell.new.Goals as goal

pub new-requires : goal.new-requires
new-requires g c =
    opens g.T.Counted.label g.T.Counted.totals c.of.result.value c.args.value c.args.shared c.args.owned _ _
    c.of.ensures c.requires (c.as_slice.ensures.value ∙ c.in-Ok.ensures)
    (c.in_default-push.ensures.items ∙ ap (λ l. l ++ Some c.args.value ∷ []) c.new-slots.ensures.items)
