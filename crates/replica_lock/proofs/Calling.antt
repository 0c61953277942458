-- The totals after a call that writes or reads: no conit's changes.
use Rattle.std.proofs.Common.{◌≡◌, ℕ, ◌+◌, ◌-◌, ◌*◌, ◌<◌, length, get_or, set, OnOk, IfOk, Result, Ok, Err, refl, sym, ap, ◌∙◌, subst, arith}
use Rattle.std.proofs.lemmas.List.{set-get_or}
use Rattle.tact_base.specs.Setup.{Setup, IsSetup}
use Rattle.tact_base.specs.declared.limits.TheConstants.{CLIENTS}
use Rattle.tact_base.proofs.SetupLemmas.{HasCounts-from_IsSetup}
use Rattle.run_model.specs.Missing.{granted_on, used_on, reserved}
use Rattle.run_model.specs.declared.call.Reply.{Reply}
use Rattle.run_model.specs.declared.call.Request.{Request}
use Rattle.run_model.specs.declared.call.Request.TheVariants as request
use Rattle.replica_lock.specs.Allowances.{AllowanceView, IsAllowanceOf, allowance_of}
use Rattle.replica_lock.specs.Answering.{HasAnswered}
use Rattle.locked_replica.specs.Locks.{IsLocked, IsWriteOrRead, made_place, one_more_at, part_in, turns_place}
use Rattle.replica_lock.specs.Sessions.{NodeView, SessionView, TurnView}
use Rattle.locked_replica.specs.declared.fault.NodeFault.{NodeFault}
use Rattle.locked_replica.proofs.Allowing.{entered-client, reserved-entered}
use Rattle.locked_replica.proofs.Totals.{counted, counted-else}
use Rattle.replica_lock.proofs.LedgerLemmas.{counted-conit}

-- the first conit of a node
pub first-conit : (setup : Setup) → IsSetup setup → 0 < setup.conits
first-conit setup sound = let counts = HasCounts-from_IsSetup setup sound in omega (arith, counts.conits_low)

-- an empty allowance is of its node
pub IsAllowanceOf-empty : (node node_as : NodeView) (conit : ℕ) (allowance : AllowanceView)
    → allowance ≡ allowance_of node conit 0
    → node ≡ node_as
    → conit < node.desk.setup.conits
    → IsAllowanceOf node_as allowance
IsAllowanceOf-empty node node_as conit allowance is same here =
    subst (λ n. IsAllowanceOf n allowance) same (subst (IsAllowanceOf node) (sym is) (record { cell = refl; replica = refl; conit = here }))

-- it reserves nothing and uses nothing
plain-moves : (conit : ℕ) (asked : Request) (given : Reply) → IsWriteOrRead asked → (granted_on conit asked given ≡ 0) × (used_on conit asked given ≡ 0)
plain-moves conit (request.Write weights op) given plain = (refl, refl)
plain-moves conit (request.Read key needs) given plain = (refl, refl)
plain-moves conit (request.Held weight op) given plain = elim plain [ ]
plain-moves conit (request.Reserve at amount) given plain = elim plain [ ]
plain-moves conit (request.Release at amount) given plain = elim plain [ ]

module _ (before after : TurnView) (old new : SessionView) (moment : ℕ) (asked : Request) (plain : IsWriteOrRead asked)
    (were : IsLocked before.state) (are : IsLocked after.state) (width : old.conits ≡ before.state.core.setup.conits) (some : 0 < old.conits) where
  totals-given : (given : Reply)
      → HasAnswered before after old new moment 0 asked given
      → after.state.totals ≡ one_more_at (made_place old.conits old.client) (one_more_at (turns_place old.conits old.client) before.state.totals)
  totals-given given answered =
      let conits = old.conits in
      let client = old.client in
      let among : client < CLIENTS = entered-client before.state after.state _ moment client _ asked given answered.entered in
      let places : length before.state.totals ≡ conits + 2 * CLIENTS = were.places ∙ ap (λ n. n + 2 * CLIENTS) (sym width) in
      let list = counted conits client before.state.totals places among in
      let still = counted-else conits client before.state.totals places among 0 (λ same. absurd (omega (arith, same, some))) (λ same. absurd (omega (arith, same, some))) in
      let moved = reserved-entered before.state after.state _ _ answered.entered are 0 in
      let none = plain-moves 0 asked given plain in
      let here : reserved (part_in after.state) 0 ≡ get_or list 0 0 =
      omega (arith, moved, none.0, none.1, still, were.allowances 0 (omega (arith, some, width))) in
      answered.totals ∙ ap (set list 0) here ∙ set-get_or list 0 0

  pub totals-plain : (result : Result Reply NodeFault)
      → IfOk result (HasAnswered before after old new moment 0 asked)
      → OnOk result (after.state.totals ≡ one_more_at (made_place old.conits old.client) (one_more_at (turns_place old.conits old.client) before.state.totals))
  totals-plain (Ok given) answered = totals-given given answered
  totals-plain (Err fault) answered = tt

  -- nor does the book's
  book-given : (given : Reply)
      → HasAnswered before after old new moment 0 asked given
      → (after.book ≡ one_more_at (made_place old.conits old.client) (one_more_at (turns_place old.conits old.client) before.book)) × (after.owes ≡ before.owes)
  book-given given answered =
      let list = one_more_at (made_place old.conits old.client) (one_more_at (turns_place old.conits old.client) before.book) in
      let still = counted-conit old.conits old.client 0 before.book some in
      let moved = reserved-entered before.state after.state _ _ answered.entered are 0 in
      let none = plain-moves 0 asked given plain in
      let here : get_or before.book 0 0 + reserved (part_in after.state) 0 - reserved (part_in before.state) 0 ≡ get_or list 0 0 = omega (arith, moved, none.0, none.1, still) in
      (answered.book ∙ ap (set list 0) here ∙ set-get_or list 0 0, answered.owes)

  pub book-plain : (result : Result Reply NodeFault)
      → IfOk result (HasAnswered before after old new moment 0 asked)
      → OnOk result ((after.book ≡ one_more_at (made_place old.conits old.client) (one_more_at (turns_place old.conits old.client) before.book)) × (after.owes ≡ before.owes))
  book-plain (Ok given) answered = book-given given answered
  book-plain (Err fault) answered = tt
