use Rattle.std.specs.Int.{w64}
use Rattle.std.proofs.lemmas.Int.{to_z-of_z}
use Rattle.std.proofs.Common.{rules, FitsSigned, List, flat_map, ap, ◌∙◌}
use Rattle.tact_base.specs.Sums.{net_sum}
use Rattle.tact_base.specs.declared.write.Write.{Write}
use Rattle.replica_core.specs.Seen.{weights_of}
use Rattle.replica_core.proofs.SeenLemmas.{value-is}
use Rattle.reference_book.specs.Books.{BookState, writes_in}
use Rattle.reference_book.proofs.Histories.{writes_in-is}
use Rattle.reference_book.proofs.book.Book.value.Goals as goal

pub returns-clause-value : goal.returns-clause-value
returns-clause-value c =
    let fits : FitsSigned w64 c.net.result = search rules in
    let writes = flat_map (λ (log : List Write). log) c.self.inside.logs.items in
    to_z-of_z w64 c.net.result fits ∙ c.net.ensures (weights_of writes) c.self.invariant.sums ∙ value-is writes c.args.conit
    ∙ ap (λ (b : BookState). net_sum (writes_in b) c.args.conit) c.self.view_is

pub returns-clause-of_history : goal.returns-clause-of_history
returns-clause-of_history c = λ setup history is.
    returns-clause-value c ∙ ap (λ ws. net_sum ws c.args.conit) (writes_in-is setup history c.args.self.now is)
