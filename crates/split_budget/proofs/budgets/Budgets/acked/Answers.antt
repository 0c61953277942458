use Rattle.std.proofs.Common.{max, get_or, set, refl}
use Rattle.std.proofs.lemmas.List.{length-set}
use Rattle.split_budget.proofs.AmountsKept.{KeepsBudgets-acked}
use Rattle.split_budget.proofs.KeptLemmas.{other_of_peer, had-same}
use Rattle.split_budget.proofs.budgets.Budgets.acked.Goals as goal

pub acked-requires : goal.acked-requires
acked-requires c =
    other_of_peer _ c.self.inside.own c.self.invariant refl c.args.peer (rw (← c.self.view_is) at c.requires)

pub invariant_of-self : goal.invariant_of-self
invariant_of-self c =
    let own = c.self.inside.own in
    let known = set own.known c.args.peer (max (get_or own.known c.args.peer 0) c.args.count) in
    let same = had-same _ own c.self.invariant refl known (length-set own.known c.args.peer (max (get_or own.known c.args.peer 0) c.args.count)) refl refl in
    rw (c.acked.ensures.acked, same) (record {
      keeps = KeepsBudgets-acked _ c.self.invariant.keeps c.args.peer c.args.count c.acked.new.self.room;
      replica = c.self.invariant.replica;
      conits = c.self.invariant.conits;
    })

pub returns-clause-kept : goal.returns-clause-kept
returns-clause-kept c =
    let own = c.self.inside.own in
    let known = set own.known c.args.peer (max (get_or own.known c.args.peer 0) c.args.count) in
    let same = had-same _ own c.self.invariant refl known (length-set own.known c.args.peer (max (get_or own.known c.args.peer 0) c.args.count)) refl refl in
    rw (c.acked.ensures.acked, same) (KeepsBudgets-acked _ c.self.invariant.keeps c.args.peer c.args.count c.acked.new.self.room)
