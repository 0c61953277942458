-- What may be asked with an allowance is within what is reserved.
use Rattle.std.proofs.Common.{◌≡◌, ℕ, ◌<◌, ◌≤◌, List, get_or, sym, subst, arith}
use Rattle.tact_base.specs.Setup.{Setup}
use Rattle.run_model.specs.Missing.{reserved}
use Rattle.run_model.specs.declared.call.Request.{Request}
use Rattle.run_model.specs.declared.call.Request.TheVariants as request
use Rattle.weight_ledger.specs.Seen.{TallyView}
use Rattle.locked_replica.specs.Asking.{MayAskWith, given_up}
use Rattle.locked_replica.specs.Locks.{IsLocked, LockedView, part_in}
use Rattle.replica_lock.specs.Allowances.{AllowanceView, IsAllowanceOf, KeepsAllowance}
use Rattle.replica_lock.specs.Ledgers.{IsBooked, amount_in}
use Rattle.replica_lock.specs.Nodes.{CountsView, KeepsTurn}
use Rattle.replica_lock.specs.Sessions.{TurnView}
use Rattle.replica_lock.specs.declared.owe.Owe.{Owe}
use Rattle.replica_lock.proofs.LedgerLemmas.{book_le-conit}
use Rattle.replica_lock.proofs.Turning.{turn-setup}

-- with more there may be asked the same
pub may-more : (setup : Setup) (conit amount more : ℕ) (asked : Request) → amount ≤ more → MayAskWith setup conit amount asked → MayAskWith setup conit more asked
may-more setup conit amount more (request.Held weight op) less may = (may.0, may.1, may.2, omega (arith, may.3, less))
may-more setup conit amount more (request.Reserve at wanted) less may = may
may-more setup conit amount more (request.Release at back) less may = (may.0, omega (arith, may.1, less))
may-more setup conit amount more (request.Write weights op) less may = may
may-more setup conit amount more (request.Read key needs) less may = may

-- what a request takes out of an allowance is in it
pub lost-within : (setup : Setup) (conit amount : ℕ) (asked : Request) → MayAskWith setup conit amount asked → amount_in (given_up asked) ≤ amount
lost-within setup conit amount (request.Held weight op) may = may.3
lost-within setup conit amount (request.Reserve at wanted) may = omega arith
lost-within setup conit amount (request.Release at back) may = may.1
lost-within setup conit amount (request.Write weights op) may = omega arith
lost-within setup conit amount (request.Read key needs) may = omega arith

-- what is out on a conit is reserved there
pub held-within : (locked : LockedView) (book : List ℕ) (owes : List Owe) (conit amount : ℕ)
    → IsBooked locked.core.setup.conits locked.totals book owes
    → IsLocked locked
    → conit < locked.core.setup.conits
    → amount ≤ get_or book conit 0
    → amount ≤ reserved (part_in locked) conit
held-within locked book owes conit amount booked kept here mine = omega (arith, mine, book_le-conit conit booked here, kept.allowances conit here)

-- What a turn knows of what is asked with an allowance of its node, where its tally agreed with the turn.
pub record Asked (locked : LockedView) (counts : CountsView) (allowance : AllowanceView) (asked : Request) : Type 0 where
  pub may : MayAskWith locked.core.setup allowance.conit allowance.amount asked
  pub here : allowance.conit < locked.core.setup.conits
  pub mine : allowance.amount ≤ get_or counts.book allowance.conit 0
  pub held : allowance.amount ≤ reserved (part_in locked) allowance.conit

pub asked_with : {turn turn_as : TurnView} {counts agreed : CountsView} {allowance allowance_as : AllowanceView} (tally : TallyView) (asked : Request)
    → turn ≡ turn_as
    → allowance ≡ allowance_as
    → KeepsTurn turn.node counts turn.state
    → IsLocked turn.state
    → IsBooked turn.state.core.setup.conits turn.state.totals counts.book counts.owes
    → IsAllowanceOf turn_as.node allowance_as
    → MayAskWith turn_as.node.desk.setup allowance_as.conit allowance_as.amount asked
    → KeepsAllowance allowance tally
    → ((p : ℕ) → get_or tally.amounts p 0 ≤ get_or agreed.book p 0)
    → agreed ≡ counts
    → Asked turn.state counts allowance asked
asked_with {turn} {turn_as} {counts} {agreed} {allowance} {allowance_as} tally asked same same_too keeps kept booked of may has least is =
    let setup = turn-setup turn.node counts turn.state keeps in
    let conit = allowance.conit in
    let amount = allowance.amount in
    let within : conit < turn.state.core.setup.conits =
    subst (λ (s : Setup). conit < s.conits) setup
    (subst (λ (t : TurnView). conit < t.node.desk.setup.conits) (sym same) (subst (λ (a : AllowanceView). a.conit < turn_as.node.desk.setup.conits) (sym same_too) of.conit)) in
    let out : amount ≤ get_or counts.book conit 0 =
    let most = subst (λ (k : CountsView). get_or tally.amounts conit 0 ≤ get_or k.book conit 0) is (least conit) in omega (arith, most, has) in
    record {
      may =
          subst (λ (s : Setup). MayAskWith s conit amount asked) setup
          (subst (λ (t : TurnView). MayAskWith t.node.desk.setup conit amount asked) (sym same)
          (subst (λ (a : AllowanceView). MayAskWith turn_as.node.desk.setup a.conit a.amount asked) (sym same_too) may));
      here = within;
      mine = out;
      held = held-within turn.state counts.book counts.owes conit amount booked kept within out;
    }
