-- What a client holds after a call that moves some of it.
use Rattle.std.proofs.Common.{◌≡◌, ◌≢◌, ℕ, ◌+◌, ◌-◌, ◌<◌, ◌≤◌, List, get_or, set, sym, ap, ap₂, ◌∙◌, subst, arith}
use Rattle.std.specs.Prelude.{unsigned_abs}
use Rattle.tact_base.specs.Setup.{Setup}
use Rattle.tact_base.specs.declared.conit_list.Weight.{Weight}
use Rattle.tact_base.specs.declared.write.Op.{Op}
use Rattle.run_model.specs.Missing.{reserved}
use Rattle.run_model.specs.declared.call.Reply.{Reply}
use Rattle.run_model.specs.declared.call.Reply.TheVariants as reply
use Rattle.run_model.specs.declared.call.Request.{Request}
use Rattle.run_model.specs.declared.call.Request.TheVariants as request
use Rattle.run_model.specs.declared.entry.Entry.{Entry}
use Rattle.locked_replica.specs.Locks.{IsWriteOrRead}
use Rattle.replica_lock.specs.Allowances.{AllowanceView, allowance_of}
use Rattle.replica_lock.specs.Sessions.{NodeView, SessionView, own_calls}
use Rattle.steady_node.specs.Settled.{HasCallMore}
use Rattle.run_work.specs.Holding.{Holds}
use Rattle.run_work.proofs.HoldingLemmas.{Holds-moved, Holds-same, Moves-granted, Moves-granted_elsewhere, Moves-held, Moves-held_elsewhere, Moves-plain, Moves-refused, Moves-released, Moves-released_elsewhere}

-- the allowance on a conit is what is reserved there
pub allowance-at : (node : NodeView) (calls : List Entry) (allowances : List AllowanceView) (conit : ℕ) (one : AllowanceView)
    → Holds node calls allowances
    → conit < node.desk.setup.conits
    → one ≡ get_or allowances conit one
    → one ≡ allowance_of node conit (reserved calls conit)
allowance-at node calls allowances conit one holds within is = is ∙ holds.amounts conit one (omega (arith, holds.conits, within))

module _ (setup : Setup) (node : NodeView) (before after : SessionView) (allowances : List AllowanceView) (holds : Holds node (own_calls before) allowances)
    (conit : ℕ) (within : conit < node.desk.setup.conits) where
  abbrev held : ℕ
  held = reserved (own_calls before) conit

  -- a release takes all of it
  pub Holds-released : HasCallMore setup before after (request.Release conit held) reply.Released
      → Holds node (own_calls after) (set allowances conit (allowance_of node conit 0))
  Holds-released more =
      let nothing : 0 ≡ held + 0 - held = omega arith in
      subst (λ (calls : List Entry). Holds node calls (set allowances conit (allowance_of node conit 0))) (sym more.calls)
      (Holds-moved node (own_calls before) more.entry allowances conit 0 held (allowance_of node conit 0)
      (Moves-released more.entry before.client more.number conit held more.act_is)
      (λ other apart. Moves-released_elsewhere more.entry before.client more.number conit held other apart more.act_is)
      (omega (arith, holds.conits, within)) (omega arith) (ap (allowance_of node conit) nothing) holds)

-- a held write its weight's size
pub Holds-held : (setup : Setup) (node : NodeView) (before after : SessionView) (allowances : List AllowanceView) (weight : Weight) (op : Op) (index stamp : ℕ)
    → Holds node (own_calls before) allowances
    → weight.conit < node.desk.setup.conits
    → unsigned_abs weight.nweight ≤ reserved (own_calls before) weight.conit
    → HasCallMore setup before after (request.Held weight op) (reply.Done index stamp)
    → Holds node (own_calls after) (set allowances weight.conit (allowance_of node weight.conit (reserved (own_calls before) weight.conit - unsigned_abs weight.nweight)))
Holds-held setup node before after allowances weight op index stamp holds within enough more =
    let left = allowance_of node weight.conit (reserved (own_calls before) weight.conit - unsigned_abs weight.nweight) in
    let less : reserved (own_calls before) weight.conit - unsigned_abs weight.nweight
    ≡ reserved (own_calls before) weight.conit + 0 - unsigned_abs weight.nweight = omega arith in
    subst (λ (calls : List Entry). Holds node calls (set allowances weight.conit left)) (sym more.calls)
    (Holds-moved node (own_calls before) more.entry allowances weight.conit 0 (unsigned_abs weight.nweight) left
    (Moves-held more.entry before.client more.number weight op index stamp more.act_is)
    (λ other apart. Moves-held_elsewhere more.entry before.client more.number weight op index stamp more.act_is other apart)
    (omega (arith, holds.conits, within)) (omega (arith, enough)) (ap (allowance_of node weight.conit) less) holds)

-- a write or a read nothing
pub Holds-plain : (setup : Setup) (node : NodeView) (before after : SessionView) (allowances : List AllowanceView) (asked : Request) (given : Reply)
    → IsWriteOrRead asked
    → Holds node (own_calls before) allowances
    → HasCallMore setup before after asked given
    → Holds node (own_calls after) allowances
Holds-plain setup node before after allowances asked given plain holds more =
    subst (λ (calls : List Entry). Holds node calls allowances) (sym more.calls)
    (Holds-same node (own_calls before) more.entry allowances (λ conit. Moves-plain more.entry before.client more.number asked given conit plain more.act_is) holds)

-- a reserve that isn't granted nothing either
pub Holds-refused : (setup : Setup) (node : NodeView) (before after : SessionView) (allowances : List AllowanceView) (conit amount : ℕ) (given : Reply)
    → given ≢ reply.Granted
    → Holds node (own_calls before) allowances
    → HasCallMore setup before after (request.Reserve conit amount) given
    → Holds node (own_calls after) allowances
Holds-refused setup node before after allowances conit amount given refused holds more =
    subst (λ (calls : List Entry). Holds node calls allowances) (sym more.calls)
    (Holds-same node (own_calls before) more.entry allowances (λ at. Moves-refused more.entry before.client more.number conit amount given at refused more.act_is) holds)

-- a reserve that is granted adds its amount to what is held
pub Holds-granted : (setup : Setup) (node : NodeView) (before after : SessionView) (allowances : List AllowanceView) (conit amount : ℕ) (one other moved : AllowanceView)
    → Holds node (own_calls before) allowances
    → conit < node.desk.setup.conits
    → one ≡ get_or allowances conit one
    → other ≡ allowance_of node conit amount
    → moved ≡ record one { amount = one.amount + other.amount }
    → HasCallMore setup before after (request.Reserve conit amount) reply.Granted
    → Holds node (own_calls after) (set allowances conit moved)
Holds-granted setup node before after allowances conit amount one other moved holds within there other_is moved_is call =
    let was = reserved (own_calls before) conit in
    let more : was + amount ≡ was + amount - 0 = omega arith in
    let is : moved ≡ allowance_of node conit (was + amount - 0) =
    moved_is
    ∙ ap₂ (λ (o g : AllowanceView). let sum : AllowanceView = record o { amount = o.amount + g.amount } in sum)
    (allowance-at node (own_calls before) allowances conit one holds within there) other_is
    ∙ ap (allowance_of node conit) more in
    subst (λ (calls : List Entry). Holds node calls (set allowances conit moved)) (sym call.calls)
    (Holds-moved node (own_calls before) call.entry allowances conit amount 0 moved
    (Moves-granted call.entry before.client call.number conit amount call.act_is)
    (λ elsewhere apart. Moves-granted_elsewhere call.entry before.client call.number conit amount elsewhere apart call.act_is)
    (omega (arith, holds.conits, within)) (omega arith) is holds)
