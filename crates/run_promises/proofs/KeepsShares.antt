-- What a peer may miss of a replica's writes, and what is reserved, stays within the replica's share of the peer's
-- bound.
use Rattle.std.proofs.Common.{◌≡◌, ℕ, ◌+◌, ◌-◌, ◌<◌, ◌≤◌, ◌==◌, ◌&&◌, nat_lt, Bool, true, false, cond, List, [], ◌∷◌}
use Rattle.std.proofs.Common.{◌++◌, sum_by, Option, None, Some, unwrap_or, unsigned_abs, refl, sym, ap, subst, arith}
use Rattle.std.specs.List.{cons_option}
use Rattle.std.proofs.lemmas.Bool.{ltb-false, eqb-true, and_parts}
use Rattle.std.proofs.lemmas.List.Sums.{sum_by_push}
use Rattle.tact_base.specs.Sums.{above_zero, below_zero, plus_sum, minus_sum}
use Rattle.tact_base.specs.declared.conit_list.Weight.{Weight}
use Rattle.tact_base.specs.declared.write.Op.{Op}
use Rattle.tact_base.specs.declared.write.Write.{Write}
use Rattle.tact_base.specs.Setup.{Setup, peers_of}
use Rattle.run_model.specs.Taking.{have, clock}
use Rattle.run_model.specs.Loans.{returned_by_act, lent_known, returned, share, free}
use Rattle.run_model.specs.Missing.{missing_plus, missing_minus, greater_missing, granted_on, used_on, granted_by, used_by, reserved}
use Rattle.run_model.specs.OwnWrites.{asked_write, done_as, accepted_as, accepted_by}
use Rattle.run_model.specs.Ranges.{AreWeightsInRange, IsRequestInRange, IsActInRange}
use Rattle.run_model.specs.Replies.{first_some, refusal, weight_refusal, done, reply_of}
use Rattle.run_model.specs.Runs.{IsActDue, IsDue, MayFollow, IsPart}
use Rattle.run_model.specs.declared.call.Reply.{Reply}
use Rattle.run_model.specs.declared.call.Reply.TheVariants as reply
use Rattle.run_model.specs.declared.call.Request.{Request}
use Rattle.run_model.specs.declared.call.Request.TheVariants as request
use Rattle.run_model.specs.declared.entry.Act.{Act}
use Rattle.run_model.specs.declared.entry.Act.TheVariants as act
use Rattle.run_model.specs.declared.entry.Entry.{Entry}
use Rattle.tact_base.proofs.FilterSums.{weights_on-one, above_zero-le, below_zero-le, one_or_none-le}
use Rattle.tact_base.proofs.ListLemmas.{from_right}
use Rattle.run_model.proofs.PrefixLemmas.{IsPrefix-append, EachAfter-prefix, EachAfter-last}
use Rattle.run_promises.proofs.SharesWrites.{lent_known-le-push, missing-le-push, peers_refuse, weights_refuse, amount_fits, missing_plus_fits, missing_minus_fits}

-- what requests were granted on a conit in all, and what was released or spent of it
abbrev pub granted_sum : List Entry → ℕ → ℕ
granted_sum part conit = sum_by (λ entry. granted_by conit entry.act) part

abbrev pub used_sum : List Entry → ℕ → ℕ
used_sum part conit = sum_by (λ entry. used_by conit entry.act) part

-- what a peer may miss and what is reserved is within the share of the peer's bound, and no more of it was returned
-- than is known to be lent
pub record IsWithinShare (setup : Setup) (replica : ℕ) (part : List Entry) (peer conit : ℕ) : Type 0 where
  pub covered : returned part peer conit ≤ lent_known setup replica part peer conit
  pub plus : missing_plus replica part peer conit + reserved part conit ≤ share setup replica part peer conit
  pub minus : missing_minus replica part peer conit + reserved part conit ≤ share setup replica part peer conit

-- so it is for each peer and conit, and no more was used than granted
pub record KeepsShares (setup : Setup) (replica : ℕ) (part : List Entry) : Type 0 where
  pub used : (conit : ℕ) → used_sum part conit ≤ granted_sum part conit
  pub each : (peer conit : ℕ)
      → peer < setup.replicas
      → (peer ≡ replica → ⊥)
      → IsWithinShare setup replica part peer conit

-- a replica that did nothing yet
pub KeepsShares-nil : (setup : Setup) (replica : ℕ) → KeepsShares setup replica []
KeepsShares-nil setup replica = record {
  used = λ conit. omega arith;
  each = λ peer conit peer_in other. record { covered = omega arith; plus = omega arith; minus = omega arith };
}

-- What a replica does after a part that keeps within its shares.
module _ (setup : Setup) (replica : ℕ) (part : List Entry) (conit : ℕ) (used : used_sum part conit ≤ granted_sum part conit) where
  -- no more is used than is granted, where this much more is granted and used
  abbrev HasGranted : ℕ → ℕ → Type 0
  HasGranted grants uses = used_sum part conit + uses ≤ granted_sum part conit + grants

  -- an amount on a conit is within what is reserved there
  amount_held : (at amount : ℕ)
      → amount ≤ reserved part at
      → (same : Bool)
      → (at == conit) ≡ same
      → cond same amount 0 ≤ reserved part conit
  amount_held at amount held true same = subst (λ (c : ℕ). amount ≤ reserved part c) (eqb-true at conit same) held
  amount_held at amount held false same = omega arith

  -- by what a held write, a release, any request and any act use
  HasGranted-held : (weight : Weight) (op : Op) (less : Bool)
      → nat_lt (reserved part weight.conit) (unsigned_abs weight.nweight) ≡ less
      → HasGranted 0 (used_on conit (request.Held weight op) (cond less (reply.NotHeld weight.conit (reserved part weight.conit) (unsigned_abs weight.nweight)) (done replica part)))
  HasGranted-held weight op true is = omega (arith, used)
  HasGranted-held weight op false is = omega (arith, used, amount_held weight.conit (unsigned_abs weight.nweight) (ltb-false _ _ is) (weight.conit == conit) refl)

  HasGranted-release : (at amount : ℕ) (less : Bool)
      → nat_lt (reserved part at) amount ≡ less
      → HasGranted 0 (used_on conit (request.Release at amount) (cond less (reply.NotHeld at (reserved part at) amount) reply.Released))
  HasGranted-release at amount true is = omega (arith, used)
  HasGranted-release at amount false is = omega (arith, used, amount_held at amount (ltb-false _ _ is) (at == conit) refl)

  HasGranted-called : (moment : ℕ) (asked : Request)
      → HasGranted (granted_on conit asked (reply_of setup replica part moment asked)) (used_on conit asked (reply_of setup replica part moment asked))
  HasGranted-called moment (request.Write weights op) = omega (arith, used)
  HasGranted-called moment (request.Held weight op) = HasGranted-held weight op (nat_lt (reserved part weight.conit) (unsigned_abs weight.nweight)) refl
  HasGranted-called moment (request.Reserve at amount) = omega (arith, used)
  HasGranted-called moment (request.Release at amount) = HasGranted-release at amount (nat_lt (reserved part at) amount) refl
  HasGranted-called moment (request.Read key needs) = omega (arith, used)

  HasGranted-acted : (moment : ℕ) (done : Act)
      → IsActDue setup replica part moment done
      → HasGranted (granted_by conit done) (used_by conit done)
  HasGranted-acted moment (act.Call client number asked given) (counted, is) =
      subst (λ (given : Reply). HasGranted (granted_on conit asked given) (used_on conit asked given)) (sym is) (HasGranted-called moment asked)
  HasGranted-acted moment (act.Send message) due = omega (arith, used)
  HasGranted-acted moment (act.Take message) due = omega (arith, used)
  HasGranted-acted moment (act.Lend to at amount) due = omega (arith, used)
  HasGranted-acted moment (act.Back owner at amount) due = omega (arith, used)
  HasGranted-acted moment act.Restart due = omega (arith, used)

  -- What it leaves of its share of a peer's bound.
  module _ (peer : ℕ) (peer_in : peer < setup.replicas) (other : peer ≡ replica → ⊥) (within : IsWithinShare setup replica part peer conit) where
    -- there is room for what an act grants, uses and gives back, and for the write that it accepts
    record HasRoom (grants uses gives : ℕ) (new : List Write) : Type 0 where
      covered : returned part peer conit + gives ≤ lent_known setup replica part peer conit
      plus : missing_plus replica part peer conit + plus_sum new conit + (granted_sum part conit + grants - (used_sum part conit + uses))
          ≤ lent_known setup replica part peer conit - (returned part peer conit + gives)
      minus : missing_minus replica part peer conit + minus_sum new conit + (granted_sum part conit + grants - (used_sum part conit + uses))
          ≤ lent_known setup replica part peer conit - (returned part peer conit + gives)

    -- nothing changes
    HasRoom-none : HasRoom 0 0 0 []
    HasRoom-none = record { covered = omega (arith, within.covered); plus = omega (arith, within.plus); minus = omega (arith, within.minus) }

    -- a call, by its request and its reply
    abbrev HasRoomFor : ℕ → Request → Reply → Type 0
    HasRoomFor moment asked given = HasRoom (granted_on conit asked given) (used_on conit asked given) 0 (cons_option (accepted_as replica moment (asked_write asked) (done_as given)) [])

    -- a write that is accepted, or refused
    HasRoom-write : (moment : ℕ) (weights : List Weight) (op : Op)
        → AreWeightsInRange setup weights
        → (first : Option Reply)
        → first_some (weight_refusal setup replica part) weights ≡ first
        → HasRoomFor moment (request.Write weights op) (unwrap_or first (done replica part))
    HasRoom-write moment weights op good None none =
        let write : Write = record { origin = replica; index = have replica part replica; stamp = clock part + 1; moment = moment; weights = weights; op = op } in
        let above = ap (sum_by (λ (weight : Weight). above_zero weight.nweight)) (weights_on-one (λ (weight : Weight). above_zero weight.nweight) conit write) in
        let below = ap (sum_by (λ (weight : Weight). below_zero weight.nweight)) (weights_on-one (λ (weight : Weight). below_zero weight.nweight) conit write) in
        let plus = missing_plus_fits setup replica part peer peer_in other conit (λ _. true) weights good.listed none within.plus in
        let minus = missing_minus_fits setup replica part peer peer_in other conit (λ _. true) weights good.listed none within.minus in
        record { covered = omega (arith, within.covered); plus = omega (arith, plus, above); minus = omega (arith, minus, below) }
    HasRoom-write moment weights op good (Some given) some =
        subst (λ (numbers : Option (ℕ × ℕ)). HasRoom 0 0 0 (cons_option (accepted_as replica moment (Some (weights, op)) numbers) []))
        (sym (weights_refuse setup replica part weights given some).accepts) HasRoom-none

    -- a held write takes its size out of what is reserved
    HasRoom-held : (moment : ℕ) (weight : Weight) (op : Op) (less : Bool)
        → nat_lt (reserved part weight.conit) (unsigned_abs weight.nweight) ≡ less
        → HasRoomFor moment (request.Held weight op) (cond less (reply.NotHeld weight.conit (reserved part weight.conit) (unsigned_abs weight.nweight)) (done replica part))
    HasRoom-held moment weight op true is = HasRoom-none
    HasRoom-held moment weight op false is =
        let size = amount_held weight.conit (unsigned_abs weight.nweight) (ltb-false _ _ is) (weight.conit == conit) refl in
        record {
          covered = omega (arith, within.covered);
          plus = omega (arith, within.plus, size, one_or_none-le above_zero above_zero-le weight (weight.conit == conit));
          minus = omega (arith, within.minus, size, one_or_none-le below_zero below_zero-le weight (weight.conit == conit));
        }

    -- an amount that is granted on a conit
    HasRoom-granted : (at amount : ℕ)
        → greater_missing replica part peer at + reserved part at + amount ≤ share setup replica part peer at
        → (same : Bool)
        → (at == conit) ≡ same
        → HasRoom (cond same amount 0) 0 0 []
    HasRoom-granted at amount fit false same = HasRoom-none
    HasRoom-granted at amount fit true same =
        let here = subst (λ (c : ℕ). greater_missing replica part peer c + reserved part c + amount ≤ share setup replica part peer c) (eqb-true at conit same) fit in
        record { covered = omega (arith, within.covered); plus = omega (arith, here, used, within.covered); minus = omega (arith, here, used, within.covered) }

    -- an amount that is asked for, and one that is released
    HasRoom-reserve : (moment at amount : ℕ) (first : Option Reply)
        → first_some (λ peer. refusal setup replica part at peer amount (greater_missing replica part peer at)) (peers_of setup replica) ≡ first
        → HasRoomFor moment (request.Reserve at amount) (unwrap_or first reply.Granted)
    HasRoom-reserve moment at amount None none =
        HasRoom-granted at amount (amount_fits setup replica part peer peer_in other at amount (λ peer. greater_missing replica part peer at) none) (at == conit) refl
    HasRoom-reserve moment at amount (Some given) some =
        let refuses = peers_refuse setup replica part at amount (λ peer. greater_missing replica part peer at) given some in
        subst (λ (grants : ℕ). HasRoom grants 0 0 []) (sym (refuses.grants conit at amount)) HasRoom-none

    HasRoom-release : (moment at amount : ℕ) (less : Bool)
        → HasRoomFor moment (request.Release at amount) (cond less (reply.NotHeld at (reserved part at) amount) reply.Released)
    HasRoom-release moment at amount true = HasRoom-none
    HasRoom-release moment at amount false = record { covered = omega (arith, within.covered); plus = omega (arith, within.plus); minus = omega (arith, within.minus) }

    -- any request
    HasRoom-called : (moment : ℕ) (asked : Request)
        → IsRequestInRange setup asked
        → HasRoomFor moment asked (reply_of setup replica part moment asked)
    HasRoom-called moment (request.Write weights op) in_range = HasRoom-write moment weights op in_range.0 (first_some (weight_refusal setup replica part) weights) refl
    HasRoom-called moment (request.Held weight op) in_range = HasRoom-held moment weight op (nat_lt (reserved part weight.conit) (unsigned_abs weight.nweight)) refl
    HasRoom-called moment (request.Reserve at amount) in_range =
        HasRoom-reserve moment at amount (first_some (λ peer. refusal setup replica part at peer amount (greater_missing replica part peer at)) (peers_of setup replica)) refl
    HasRoom-called moment (request.Release at amount) in_range = HasRoom-release moment at amount (nat_lt (reserved part at) amount)
    HasRoom-called moment (request.Read key needs) in_range = HasRoom-none

    -- an amount that is given back
    HasRoom-back : (owner at amount : ℕ)
        → amount ≤ free setup replica part owner at
        → (same : Bool)
        → (owner == peer && at == conit) ≡ same
        → HasRoom 0 0 (cond same amount 0) []
    HasRoom-back owner at amount most false same = HasRoom-none
    HasRoom-back owner at amount most true same =
        let both = and_parts (owner == peer) (at == conit) same in
        let here_owner = subst (λ (p : ℕ). amount ≤ free setup replica part p at) (eqb-true owner peer both.0) most in
        let here = subst (λ (c : ℕ). amount ≤ free setup replica part peer c) (eqb-true at conit both.1) here_owner in
        record { covered = omega (arith, here, within.covered); plus = omega (arith, here, within.plus, within.covered); minus = omega (arith, here, within.minus, within.covered) }

    -- any act
    HasRoom-acted : (moment : ℕ) (done : Act)
        → IsActDue setup replica part moment done
        → IsActInRange setup replica done
        → HasRoom (granted_by conit done) (used_by conit done) (returned_by_act peer conit done) (cons_option (accepted_by replica moment done) [])
    HasRoom-acted moment (act.Call client number asked given) (counted, is) in_range = subst (HasRoomFor moment asked) (sym is) (HasRoom-called moment asked in_range.1)
    HasRoom-acted moment (act.Send message) due in_range = HasRoom-none
    HasRoom-acted moment (act.Take message) due in_range = HasRoom-none
    HasRoom-acted moment (act.Lend to at amount) due in_range = HasRoom-none
    HasRoom-acted moment (act.Back owner at amount) due in_range = HasRoom-back owner at amount due (owner == peer && at == conit) refl
    HasRoom-acted moment act.Restart due in_range = HasRoom-none

-- What holds after one more entry.
module _ (setup : Setup) (part : List Entry) (entry : Entry) (due : IsDue setup part entry) (keeps : KeepsShares setup entry.replica part) where
  -- the sums go on by what the entry grants and uses
  granted_sum-push : (conit : ℕ)
      → granted_sum (part ++ entry ∷ []) conit ≡ granted_sum part conit + granted_by conit entry.act
  granted_sum-push conit = sum_by_push (λ (e : Entry). granted_by conit e.act) part entry

  used_sum-push : (conit : ℕ)
      → used_sum (part ++ entry ∷ []) conit ≡ used_sum part conit + used_by conit entry.act
  used_sum-push conit = sum_by_push (λ (e : Entry). used_by conit e.act) part entry

  -- each peer's share still covers what it may miss and what is reserved
  IsWithinShare-push : (peer conit : ℕ)
      → peer < setup.replicas
      → (peer ≡ entry.replica → ⊥)
      → IsWithinShare setup entry.replica (part ++ entry ∷ []) peer conit
  IsWithinShare-push peer conit peer_in other =
      let room = HasRoom-acted setup entry.replica part conit (keeps.used conit) peer peer_in other (keeps.each peer conit peer_in other) entry.moment entry.act due.act due.in_range.act in
      let returned_more : returned (part ++ entry ∷ []) peer conit ≡ returned part peer conit + returned_by_act peer conit entry.act =
      sum_by_push (λ (e : Entry). returned_by_act peer conit e.act) part entry in
      let lent_more = lent_known-le-push part entry setup entry.replica peer conit in
      let plus_more = missing-le-push part entry (λ (weight : Weight). above_zero weight.nweight) entry.replica peer conit in
      let minus_more = missing-le-push part entry (λ (weight : Weight). below_zero weight.nweight) entry.replica peer conit in
      record {
        covered = omega (arith, returned_more, lent_more, room.covered);
        plus = omega (arith, granted_sum-push conit, used_sum-push conit, returned_more, lent_more, plus_more, room.plus);
        minus = omega (arith, granted_sum-push conit, used_sum-push conit, returned_more, lent_more, minus_more, room.minus);
      }

  -- the entry leaves all shares kept
  pub KeepsShares-push : KeepsShares setup entry.replica (part ++ entry ∷ [])
  KeepsShares-push = record {
    used = λ conit. omega (arith, granted_sum-push conit, used_sum-push conit, HasGranted-acted setup entry.replica part conit (keeps.used conit) entry.moment entry.act due.act);
    each = IsWithinShare-push;
  }

-- So every part that can be keeps within its shares.
pub KeepsShares-part : (setup : Setup) (replica : ℕ) (part : List Entry)
    → IsPart setup replica part
    → KeepsShares setup replica part
KeepsShares-part setup replica part = from_right (λ part. IsPart setup replica part → KeepsShares setup replica part)
    (λ is. KeepsShares-nil setup replica)
    (λ before entry keeps is.
    let (here, due, fits) = EachAfter-last (MayFollow setup replica) before entry is in
    let earlier = keeps (EachAfter-prefix (MayFollow setup replica) before (before ++ entry ∷ []) (IsPrefix-append before (entry ∷ [])) is) in
    subst (λ r. KeepsShares setup r (before ++ entry ∷ [])) here
    (KeepsShares-push setup before entry due (subst (λ r. KeepsShares setup r before) (sym here) earlier)))
    part
