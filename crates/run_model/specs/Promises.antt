-- What every run keeps.
use Rattle.std.specs.Prelude.{◌≡◌, ◌≢◌, ◌⊎◌, ℕ, ◌+◌, ◌-◌, ◌<◌, ◌≤◌, List, [], ◌∷◌, ◌++◌, All, map, sum}
use Rattle.tact_base.specs.Admission.{wanted_moment}
use Rattle.tact_base.specs.Sums.{plus_sum, minus_sum}
use Rattle.tact_base.specs.declared.conit_list.Need.{Need}
use Rattle.tact_base.specs.Setup.{Setup, alpha_of, peers_of}
use Rattle.run_model.specs.Histories.{part_of, IsPrefix, EachAfter}
use Rattle.run_model.specs.Missing.{reserved}
use Rattle.run_model.specs.Loans.{lent, returned, lent_known, returned_known, share, home}
use Rattle.run_model.specs.Order.{committed}
use Rattle.run_model.specs.Reference.{num_error, order_error, Misses, unseen}
use Rattle.run_model.specs.declared.call.Request.TheVariants as request
use Rattle.run_model.specs.declared.call.Reply.TheVariants as reply
use Rattle.run_model.specs.declared.entry.Act.{Act}
use Rattle.run_model.specs.declared.entry.Act.TheVariants as act
use Rattle.run_model.specs.declared.entry.Entry.{Entry}

-- a need is met at a replica, by a history that ends with an answer at a moment
pub record IsMet (setup : Setup) (history : List Entry) (replica moment : ℕ) (need : Need) : Type 0 where
  pub num : num_error setup history replica need.conit ≤ need.num
  pub order : order_error setup history replica need.conit ≤ need.order
  pub stale : Misses setup history replica (wanted_moment moment need) → ⊥

-- where an act is a read that was answered with a value, each of its needs is met
abbrev pub MeetsNeeds : Setup → List Entry → ℕ → ℕ → Act → Type 0
MeetsNeeds setup history replica moment (act.Call client number (request.Read key needs) (reply.Value value sums)) =
    All (IsMet setup history replica moment) needs
MeetsNeeds setup history replica moment other = Unit {0}

-- answered: each answered access keeps its three bounds
abbrev pub IsAnswered : Setup → List Entry → Type 0
IsAnswered setup history =
    EachAfter (λ before entry. MeetsNeeds setup (before ++ entry ∷ []) entry.replica entry.moment entry.act) history

-- within: what a peer may miss, and what is reserved, is within the share lent for it
pub record IsWithinFor (setup : Setup) (history : List Entry) (replica peer conit : ℕ) : Type 0 where
  pub plus : plus_sum (unseen history replica peer) conit + reserved (part_of history replica) conit ≤ share setup replica (part_of history replica) peer conit
  pub minus : minus_sum (unseen history replica peer) conit + reserved (part_of history replica) conit ≤ share setup replica (part_of history replica) peer conit

abbrev pub IsWithin : Setup → List Entry → Type 0
IsWithin setup history =
    (replica peer conit : ℕ) → replica < setup.replicas → peer < setup.replicas → peer ≢ replica → conit < setup.conits
    → IsWithinFor setup history replica peer conit

-- what of an owner's alpha a holder has, or is on its way to the holder or back
abbrev pub held_by : Setup → List Entry → ℕ → ℕ → ℕ → ℕ
held_by setup history owner conit holder =
    share setup holder (part_of history holder) owner conit
    + (lent setup owner (part_of history owner) holder conit - lent_known setup holder (part_of history holder) owner conit)
    + (returned (part_of history holder) owner conit - returned_known (part_of history owner) holder conit)

-- Exact: an owner's alpha is what is at home and what the holders have. None of the differences is below 0.
pub record IsExactFor (setup : Setup) (history : List Entry) (owner conit : ℕ) : Type 0 where
  pub total : alpha_of setup owner conit ≡ home setup owner (part_of history owner) conit + sum (map (held_by setup history owner conit) (peers_of setup owner))
  pub told : All (λ holder. lent_known setup holder (part_of history holder) owner conit ≤ lent setup owner (part_of history owner) holder conit) (peers_of setup owner)
  pub covered : All (λ holder. returned (part_of history holder) owner conit ≤ lent_known setup holder (part_of history holder) owner conit) (peers_of setup owner)
  pub back : All (λ holder. returned_known (part_of history owner) holder conit ≤ returned (part_of history holder) owner conit) (peers_of setup owner)

abbrev pub IsExact : Setup → List Entry → Type 0
IsExact setup history = (owner conit : ℕ) → owner < setup.replicas → conit < setup.conits → IsExactFor setup history owner conit

-- agreed: of two committed prefixes, of any two replicas at any two prefixes of the history, one is a prefix of the
-- other
abbrev pub AreAgreed : {A : Type 0} → List A → List A → Type 0
AreAgreed first second = IsPrefix first second ⊎ IsPrefix second first

abbrev pub IsAgreed : Setup → List Entry → Type 0
IsAgreed setup history =
    (first second : List Entry) (one other : ℕ) → IsPrefix first history → IsPrefix second history → one < setup.replicas → other < setup.replicas
    → AreAgreed (committed setup one (part_of first one)) (committed setup other (part_of second other))

-- kept: all of this, whenever a replica's lock is free, which is at every prefix
pub record IsKept (setup : Setup) (history : List Entry) : Type 0 where
  pub answered : IsAnswered setup history
  pub agreed : IsAgreed setup history
  pub within : (prefix : List Entry) → IsPrefix prefix history → IsWithin setup prefix
  pub exact : (prefix : List Entry) → IsPrefix prefix history → IsExact setup prefix
