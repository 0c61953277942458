use Rattle.tact_base.specs.Setup.{setup}
use Rattle.tact_base.proofs.SetupLemmas.{HasCounts-from_IsSetup, place_in, row_in, length-loans_of, HasRow-from_IsSetup}
use Rattle.run_model.proofs.config.Config.loans.Goals as goal

pub row-requires : goal.row-requires
row-requires c =
    let s = setup c.self.inside.replicas c.self.inside.conits c.self.inside.alphas c.self.inside.loans in
    let o = rw (← c.self.view_is) at c.requires.owner_in in
    let k = rw (← c.self.view_is) at c.requires.conit_in in
    let h = HasCounts-from_IsSetup s c.self.invariant in
    rw c.items.ensures (row_in s h _ (place_in s c.args.owner c.args.conit o k))

pub returns-clause-len : goal.returns-clause-len
returns-clause-len c =
    let s = setup c.self.inside.replicas c.self.inside.conits c.self.inside.alphas c.self.inside.loans in
    let o = rw (← c.self.view_is) at c.requires.owner_in in
    let k = rw (← c.self.view_is) at c.requires.conit_in in
    let h = HasCounts-from_IsSetup s c.self.invariant in
    rw (c.row.ensures, c.items.ensures, ← c.self.view_is) (length-loans_of s h c.args.owner c.args.conit o k)

pub returns-clause-own : goal.returns-clause-own
returns-clause-own c =
    let s = setup c.self.inside.replicas c.self.inside.conits c.self.inside.alphas c.self.inside.loans in
    let o = rw (← c.self.view_is) at c.requires.owner_in in
    let k = rw (← c.self.view_is) at c.requires.conit_in in
    rw (c.row.ensures, c.items.ensures) (HasRow-from_IsSetup s c.self.invariant c.args.owner c.args.conit o k).own

pub returns-clause-total : goal.returns-clause-total
returns-clause-total c =
    let s = setup c.self.inside.replicas c.self.inside.conits c.self.inside.alphas c.self.inside.loans in
    let o = rw (← c.self.view_is) at c.requires.owner_in in
    let k = rw (← c.self.view_is) at c.requires.conit_in in
    rw (c.row.ensures, c.items.ensures, ← c.self.view_is) (HasRow-from_IsSetup s c.self.invariant c.args.owner c.args.conit o k).total
