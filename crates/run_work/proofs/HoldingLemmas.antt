-- What a client holds after one more call.
use Rattle.std.proofs.Common.{◌≡◌, ◌≢◌, ℕ, ◌+◌, ◌-◌, ◌<◌, ◌≤◌, ◌==◌, List, [], ◌∷◌, ◌++◌, length, set, refl, sym, ap, ◌∙◌, cond, ⊎_elim, arith, get_or-set_other, get_or-set_same}
use Rattle.std.specs.Prelude.{unsigned_abs}
use Rattle.std.proofs.Math.ListN.{length-set}
use Rattle.std.proofs.lemmas.Bool.{cases_eq, eq-eqb, ne_eqb}
use Rattle.std.proofs.lemmas.List.Sums.{sum_by_push}
use Rattle.tact_base.specs.declared.conit_list.Weight.{Weight}
use Rattle.tact_base.specs.declared.write.Op.{Op}
use Rattle.run_model.specs.Missing.{granted_by, granted_on, reserved, used_by}
use Rattle.run_model.specs.declared.call.Reply.{Reply}
use Rattle.run_model.specs.declared.call.Reply.TheVariants as reply
use Rattle.run_model.specs.declared.call.Request.{Request}
use Rattle.run_model.specs.declared.call.Request.TheVariants as request
use Rattle.run_model.specs.declared.entry.Act.TheVariants as act
use Rattle.run_model.specs.declared.entry.Entry.{Entry}
use Rattle.locked_replica.specs.Locks.{IsWriteOrRead}
use Rattle.replica_lock.specs.Allowances.{AllowanceView, allowance_of}
use Rattle.replica_lock.specs.Sessions.{NodeView}
use Rattle.run_work.specs.Holding.{Holds, granted, used}

-- what a call is granted on a conit and takes there
pub record Moves (conit more less : ℕ) (call : Entry) : Type 0 where
  pub more_is : granted_by conit call.act ≡ more
  pub less_is : used_by conit call.act ≡ less

-- so much of a client's calls then is granted and used
module _ (calls : List Entry) (call : Entry) (conit more less : ℕ) (moves : Moves conit more less call) where
  pub granted-push : granted (calls ++ call ∷ []) conit ≡ granted calls conit + more
  granted-push = sum_by_push (λ (entry : Entry). granted_by conit entry.act) calls call ∙ ap (λ n. granted calls conit + n) moves.more_is

  pub used-push : used (calls ++ call ∷ []) conit ≡ used calls conit + less
  used-push = sum_by_push (λ (entry : Entry). used_by conit entry.act) calls call ∙ ap (λ n. used calls conit + n) moves.less_is

  -- what is reserved where no more was used than granted
  pub reserved-push : used calls conit ≤ granted calls conit
      → less ≤ reserved calls conit + more
      → reserved (calls ++ call ∷ []) conit ≡ reserved calls conit + more - less
  reserved-push covered enough = omega (arith, granted-push, used-push, covered, enough)

  pub covered-push : used calls conit ≤ granted calls conit
      → less ≤ reserved calls conit + more
      → used (calls ++ call ∷ []) conit ≤ granted (calls ++ call ∷ []) conit
  covered-push covered enough = omega (arith, granted-push, used-push, covered, enough)

-- a call that moves nothing leaves what is reserved
pub reserved-same : (calls : List Entry) (call : Entry) (conit : ℕ)
    → Moves conit 0 0 call
    → reserved (calls ++ call ∷ []) conit ≡ reserved calls conit
reserved-same calls call conit moves = omega (arith, granted-push calls call conit 0 0 moves, used-push calls call conit 0 0 moves)

-- a call that moves some on one conit leaves the client with what it then holds there
pub Holds-moved : (node : NodeView) (calls : List Entry) (call : Entry) (allowances : List AllowanceView) (at more less : ℕ) (moved : AllowanceView)
    → Moves at more less call
    → ((conit : ℕ) → conit ≢ at → Moves conit 0 0 call)
    → at < length allowances
    → less ≤ reserved calls at + more
    → moved ≡ allowance_of node at (reserved calls at + more - less)
    → Holds node calls allowances
    → Holds node (calls ++ call ∷ []) (set allowances at moved)
Holds-moved node calls call allowances at more less moved moves others within enough is holds = record {
  conits = length-set allowances at moved ∙ holds.conits;
  amounts = λ conit none below. ⊎_elim
      (λ (same : conit ≡ at).
      rw same (get_or-set_same allowances at moved none within ∙ is
      ∙ ap (allowance_of node at) (sym (reserved-push calls call at more less moves (holds.covered at) enough))))
      (λ (other : conit ≡ at → ⊥).
      let was : conit < length allowances = omega (arith, below, length-set allowances at moved) in
      get_or-set_other allowances at conit moved none other ∙ holds.amounts conit none was
      ∙ ap (allowance_of node conit) (sym (reserved-same calls call conit (others conit other))))
      (cases_eq conit at);
  covered = λ conit. ⊎_elim
      (λ (same : conit ≡ at). rw same (covered-push calls call at more less moves (holds.covered at) enough))
      (λ (other : conit ≡ at → ⊥). covered-push calls call conit 0 0 (others conit other) (holds.covered conit) (omega arith))
      (cases_eq conit at);
}

-- and one that moves nothing on any conit leaves it with what it held
pub Holds-same : (node : NodeView) (calls : List Entry) (call : Entry) (allowances : List AllowanceView)
    → ((conit : ℕ) → Moves conit 0 0 call)
    → Holds node calls allowances
    → Holds node (calls ++ call ∷ []) allowances
Holds-same node calls call allowances moves holds = record {
  conits = holds.conits;
  amounts = λ conit none below. holds.amounts conit none below ∙ ap (allowance_of node conit) (sym (reserved-same calls call conit (moves conit)));
  covered = λ conit. covered-push calls call conit 0 0 (moves conit) (holds.covered conit) (omega arith);
}

-- an amount or none, by conit
at_conit : (at amount : ℕ) → cond (at == at) amount 0 ≡ amount
at_conit at amount = ap (λ yes. cond yes amount 0) (eq-eqb at at refl)

elsewhere : (conit at amount : ℕ) → conit ≢ at → cond (at == conit) amount 0 ≡ 0
elsewhere conit at amount other = ap (λ yes. cond yes amount 0) (ne_eqb at conit (λ same. other (sym same)))

-- A release, a reserve that is granted and a held write move what they say, on their conit alone.
module _ (call : Entry) (client number : ℕ) where
  module _ (at amount : ℕ) where
    pub Moves-released : call.act ≡ act.Call client number (request.Release at amount) reply.Released → Moves at 0 amount call
    Moves-released is = record { more_is = ap (granted_by at) is; less_is = ap (used_by at) is ∙ at_conit at amount }

    pub Moves-released_elsewhere : (conit : ℕ)
        → conit ≢ at
        → call.act ≡ act.Call client number (request.Release at amount) reply.Released
        → Moves conit 0 0 call
    Moves-released_elsewhere conit other is = record { more_is = ap (granted_by conit) is; less_is = ap (used_by conit) is ∙ elsewhere conit at amount other }

    pub Moves-granted : call.act ≡ act.Call client number (request.Reserve at amount) reply.Granted → Moves at amount 0 call
    Moves-granted is = record { more_is = ap (granted_by at) is ∙ at_conit at amount; less_is = ap (used_by at) is }

    pub Moves-granted_elsewhere : (conit : ℕ)
        → conit ≢ at
        → call.act ≡ act.Call client number (request.Reserve at amount) reply.Granted
        → Moves conit 0 0 call
    Moves-granted_elsewhere conit other is = record { more_is = ap (granted_by conit) is ∙ elsewhere conit at amount other; less_is = ap (used_by conit) is }

  module _ (weight : Weight) (op : Op) (index stamp : ℕ) (is : call.act ≡ act.Call client number (request.Held weight op) (reply.Done index stamp)) where
    pub Moves-held : Moves weight.conit 0 (unsigned_abs weight.nweight) call
    Moves-held = record { more_is = ap (granted_by weight.conit) is; less_is = ap (used_by weight.conit) is ∙ at_conit weight.conit (unsigned_abs weight.nweight) }

    pub Moves-held_elsewhere : (conit : ℕ) → conit ≢ weight.conit → Moves conit 0 0 call
    Moves-held_elsewhere conit other = record { more_is = ap (granted_by conit) is; less_is = ap (used_by conit) is ∙ elsewhere conit weight.conit (unsigned_abs weight.nweight) other }

-- A reserve that isn't granted moves nothing.
refused_none : (conit at amount : ℕ) (given : Reply) → given ≢ reply.Granted → granted_on conit (request.Reserve at amount) given ≡ 0
refused_none conit at amount reply.Granted refused = absurd (refused refl)
refused_none conit at amount given refused = refl

pub Moves-refused : (call : Entry) (client number at amount : ℕ) (given : Reply) (conit : ℕ)
    → given ≢ reply.Granted
    → call.act ≡ act.Call client number (request.Reserve at amount) given
    → Moves conit 0 0 call
Moves-refused call client number at amount given conit refused is = record {
  more_is = ap (granted_by conit) is ∙ refused_none conit at amount given refused;
  less_is = ap (used_by conit) is;
}

-- A write or a read moves nothing.
pub Moves-plain : (call : Entry) (client number : ℕ) (asked : Request) (given : Reply) (conit : ℕ)
    → IsWriteOrRead asked
    → call.act ≡ act.Call client number asked given
    → Moves conit 0 0 call
Moves-plain call client number (request.Write weights op) given conit plain is = record { more_is = ap (granted_by conit) is; less_is = ap (used_by conit) is }
Moves-plain call client number (request.Read key needs) given conit plain is = record { more_is = ap (granted_by conit) is; less_is = ap (used_by conit) is }
Moves-plain call client number (request.Held weight op) given conit plain is = absurd plain
Moves-plain call client number (request.Reserve at amount) given conit plain is = absurd plain
Moves-plain call client number (request.Release at amount) given conit plain is = absurd plain
