-- What allowances rest on: in a run what is reserved is within a share,
-- and it moves by what a call is granted and uses.
use Rattle.std.proofs.Common.{◌≡◌, ℕ, ◌+◌, ◌<◌, ◌≤◌, List, [], ◌∷◌, ◌++◌, All, sum_by, unsigned_abs, sym, ap, ◌∙◌, subst, ⊎_elim, arith}
use Rattle.std.proofs.lemmas.Bool.{cases_eq}
use Rattle.std.proofs.lemmas.List.Elements.{All-from_get_or}
use Rattle.std.proofs.lemmas.List.Sums.{get_or-le-sum_by, sum-map, sum_by_push}
use Rattle.tact_base.specs.Setup.{Setup, IsSetup, peers_of}
use Rattle.tact_base.specs.declared.limits.TheConstants.{AMOUNT_MAX, CLIENTS}
use Rattle.tact_base.proofs.Peers.{All-from_peers}
use Rattle.tact_base.proofs.SetupLemmas.{HasCounts-from_IsSetup, HasRow-from_IsSetup}
use Rattle.run_model.specs.Histories.{part_of, moment_at}
use Rattle.run_model.specs.Missing.{granted_by, used_by, used_on, reserved}
use Rattle.run_model.specs.Promises.{held_by}
use Rattle.run_model.specs.Ranges.{IsRequestInRange}
use Rattle.run_model.specs.Replies.{reply_of}
use Rattle.run_model.specs.Runs.{IsRun, IsLawful, IsPart, MayFollow}
use Rattle.run_model.specs.declared.call.Reply.{Reply}
use Rattle.run_model.specs.declared.call.Request.{Request}
use Rattle.run_model.specs.declared.call.Request.TheVariants as request
use Rattle.run_model.specs.declared.entry.Act.TheVariants as act
use Rattle.run_model.specs.declared.entry.Entry.{Entry}
use Rattle.run_model.proofs.PrefixLemmas.{IsPrefix-append, EachAfter-prefix, EachAfter-last}
use Rattle.run_promises.proofs.KeepsShares.{KeepsShares-part}
use Rattle.run_promises.proofs.Kept.{IsExact-run, KeepsShares-run}
use Rattle.run_history.specs.Ticks.{entries_of}
use Rattle.locked_replica.specs.Asking.{MayAskWith}
use Rattle.locked_replica.specs.Locks.{HasEntered, IsLocked, LockedView, entry_in, part_in}
use Rattle.locked_replica.proofs.Entering.{amount_on-most, entries-push, moves_most}

-- each of some numbers is at most their sum
each-le-sum : {X : Type 0} (f : X → ℕ) (xs : List X) (x : X) → All (λ x. f x ≤ sum_by f xs) xs
each-le-sum f xs x = All-from_get_or (λ x. f x ≤ sum_by f xs) xs x (λ i within. get_or-le-sum_by f xs i x within)

-- In a run no more is reserved on a conit than may be.
module _ (setup : Setup) (sound : IsSetup setup) (history : List Entry) (run : IsRun setup history) (replica conit : ℕ)
    (among : replica < setup.replicas) (here : conit < setup.conits) where
  reserved-within : (peer : ℕ) → peer < setup.replicas → (peer ≡ replica → ⊥) → reserved (part_of history replica) conit ≤ AMOUNT_MAX
  reserved-within peer peer_in other =
      let shares = (KeepsShares-run setup history run replica).each peer conit peer_in other in
      let held = held_by setup history peer conit in
      let peers = peers_of setup peer in
      let one = All-from_peers setup peer (λ holder. held holder ≤ sum_by held peers) (each-le-sum held peers replica) replica among (λ same. other (sym same)) in
      omega (arith, shares.plus, one, sum-map held peers, (IsExact-run setup history sound run peer conit peer_in here).total, (HasRow-from_IsSetup setup sound peer conit peer_in here).alpha)

  pub reserved-most : reserved (part_of history replica) conit ≤ AMOUNT_MAX
  reserved-most =
      let many = (HasCounts-from_IsSetup setup sound).replicas_low in
      ⊎_elim
      (λ (first : replica ≡ 0). reserved-within 1 (omega (arith, many)) (λ same. absurd (omega (arith, same, first))))
      (λ (other : replica ≡ 0 → ⊥). reserved-within 0 (omega (arith, many)) (λ same. other (sym same)))
      (cases_eq replica 0)

-- So what may be asked with what is reserved is in range.
pub in_range-asked : (locked : LockedView) (conit : ℕ) (asked : Request)
    → IsLocked locked
    → IsSetup locked.core.setup
    → IsRun locked.core.setup locked.clerk.seen
    → locked.core.replica < locked.core.setup.replicas
    → conit < locked.core.setup.conits
    → MayAskWith locked.core.setup conit (reserved (part_in locked) conit) asked
    → IsRequestInRange locked.core.setup asked
in_range-asked locked conit (request.Write weights op) kept sound run among here may = may
in_range-asked locked conit (request.Read key needs) kept sound run among here may = may
in_range-asked locked conit (request.Held weight op) kept sound run among here may = (may.0, may.1)
in_range-asked locked conit (request.Reserve at more) kept sound run among here may = (omega (arith, may.0, here), may.1)
in_range-asked locked conit (request.Release at back) kept sound run among here may =
    let most = reserved-most locked.core.setup sound locked.clerk.seen run locked.core.replica conit among here in
    let same = ap (λ part. reserved part conit) kept.own in
    (omega (arith, may.0, here), omega (arith, may.1, most, same))

-- no call takes more out of what is reserved than it may
pub used-most : (setup : Setup) (conit amount : ℕ) (asked : Request) (given : Reply)
    → MayAskWith setup conit amount asked
    → used_on conit asked given ≤ amount
used-most setup conit amount (request.Write weights op) given may = omega arith
used-most setup conit amount (request.Read key needs) given may = omega arith
used-most setup conit amount (request.Reserve at more) given may = omega arith
used-most setup conit amount (request.Held weight op) given may =
    omega (arith, (moves_most conit given).spends weight op, amount_on-most weight.conit (unsigned_abs weight.nweight) conit, may.3)
used-most setup conit amount (request.Release at back) given may =
    omega (arith, (moves_most conit given).releases at back, amount_on-most at back conit, may.1)

-- An entry that was made.
module _ (before after : LockedView) (known : List Entry) (entry : Entry) (entered : HasEntered before after known entry) where
  pub part-entered : part_in after ≡ part_in before ++ entry ∷ []
  part-entered = ap entries_of entered.stored ∙ entries-push before.stored _ entry

  -- what is reserved then
  pub reserved-entered : IsLocked after
      → (conit : ℕ)
      → reserved (part_in after) conit + used_by conit entry.act ≡ reserved (part_in before) conit + granted_by conit entry.act
  reserved-entered kept conit =
      let setup = after.core.setup in
      let replica = after.core.replica in
      let is : IsPart setup replica (part_in before ++ entry ∷ []) = subst (IsPart setup replica) part-entered kept.stands.is_part in
      let was = EachAfter-prefix (MayFollow setup replica) (part_in before) (part_in before ++ entry ∷ []) (IsPrefix-append (part_in before) (entry ∷ [])) is in
      omega (
        arith,
        ap (λ part. reserved part conit) part-entered,
        (KeepsShares-part setup replica (part_in before ++ entry ∷ []) is).used conit,
        (KeepsShares-part setup replica (part_in before) was).used conit,
        sum_by_push (λ (e : Entry). granted_by conit e.act) (part_in before) entry,
        sum_by_push (λ (e : Entry). used_by conit e.act) (part_in before) entry,
      )

-- the reply of a call that was made is the one that is due there
pub entered-due : (before after : LockedView) (known : List Entry) (moment client number : ℕ) (asked : Request) (given : Reply)
    → HasEntered before after known (entry_in before moment (act.Call client number asked given))
    → given ≡ reply_of before.core.setup before.core.replica (part_in before) (moment_at (part_in before) moment) asked
entered-due before after known moment client number asked given entered =
    let entry = entry_in before moment (act.Call client number asked given) in
    let lawful = EachAfter-last (IsLawful before.core.setup) entered.front entry (subst (IsRun before.core.setup) entered.seen entered.run) in
    lawful.due.act.1 ∙ ap (λ part. reply_of before.core.setup before.core.replica part (moment_at (part_in before) moment) asked) entered.part

-- and its client is one of a replica's
pub entered-client : (before after : LockedView) (known : List Entry) (moment client number : ℕ) (asked : Request) (given : Reply)
    → HasEntered before after known (entry_in before moment (act.Call client number asked given))
    → client < CLIENTS
entered-client before after known moment client number asked given entered =
    let entry = entry_in before moment (act.Call client number asked given) in
    let lawful = EachAfter-last (IsLawful before.core.setup) entered.front entry (subst (IsRun before.core.setup) entered.seen entered.run) in
    lawful.due.in_range.act.0
