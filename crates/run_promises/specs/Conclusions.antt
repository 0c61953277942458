-- What a user concludes of a run: the two ends of the range of bounds, and what stays (this project's own words).
use Rattle.std.specs.Prelude.{◌≡◌, ◌≢◌, ℕ, ◌<◌, ◌≤◌, ℤ, unsigned_abs, List, [], length}
use Rattle.std.specs.List.{AllZip}
use Rattle.tact_base.specs.Setup.{Setup, alpha_of}
use Rattle.tact_base.specs.Sums.{order_sum}
use Rattle.tact_base.specs.declared.conit_list.Need.{Need}
use Rattle.tact_base.specs.declared.conit_list.Weight.{Weight}
use Rattle.run_model.specs.Histories.{part_of}
use Rattle.run_model.specs.Loans.{share}
use Rattle.run_model.specs.Missing.{maybe_missed, reserved}
use Rattle.run_model.specs.Order.{seen, tentative, value, image}
use Rattle.run_model.specs.OwnWrites.{own}
use Rattle.run_model.specs.Reference.{reference, order_error, Misses}
use Rattle.run_model.specs.Taking.{have}
use Rattle.run_model.specs.declared.call.Reply.TheVariants as reply
use Rattle.run_model.specs.declared.call.Request.TheVariants as request
use Rattle.run_model.specs.declared.entry.Act.{Act}
use Rattle.run_model.specs.declared.entry.Act.TheVariants as act
use Rattle.run_model.specs.declared.entry.Entry.{Entry}

-- a need that allows nothing: no numerical error, no order error, no age
pub record IsStrict (need : Need) : Type 0 where
  pub num : need.num ≡ 0
  pub order : need.order ≡ 0
  pub stale : need.stale ≡ 0

-- what a read was told of a conit is the truth: the sum is the reference value, no order weight is tentative, and no
-- write from before the moment is missed
pub record IsTruth (setup : Setup) (history : List Entry) (replica moment conit : ℕ) (told : ℤ) : Type 0 where
  pub value : told ≡ reference setup history conit
  pub order : order_error setup history replica conit ≡ 0
  pub stale : Misses setup history replica moment → ⊥

-- where an act is a read that was answered with a value, it was told the truth for each strict need
abbrev pub TellsTruth : Setup → List Entry → ℕ → ℕ → Act → Type 0
TellsTruth setup history replica moment (act.Call client number (request.Read key needs) (reply.Value value sums)) =
    AllZip (λ need sum. IsStrict need → IsTruth setup history replica moment need.conit sum) needs sums
TellsTruth setup history replica moment other = Unit {0}

-- a need that allows all there can be: as much out as the alpha, as much order weight as is tentative, and any age
pub record IsFree (setup : Setup) (replica : ℕ) (part : List Entry) (moment : ℕ) (need : Need) : Type 0 where
  pub conit : need.conit < setup.conits
  pub num : alpha_of setup replica need.conit ≤ need.num
  pub order : order_sum (tentative setup replica part) need.conit ≤ need.order
  pub stale : moment ≤ need.stale

-- two replicas, at their parts, have the same count of writes of each origin
abbrev pub HaveAsMany : Setup → ℕ → List Entry → ℕ → List Entry → Type 0
HaveAsMany setup one part other part' = (origin : ℕ) → origin < setup.replicas → have one part origin ≡ have other part' origin

-- they have the same writes in the same order, and read the same of them
pub record IsSameState (setup : Setup) (one : ℕ) (part : List Entry) (other : ℕ) (part' : List Entry) : Type 0 where
  pub seen : seen setup one part ≡ seen setup other part'
  pub values : (conit : ℕ) → value setup one part conit ≡ value setup other part' conit
  pub image : image setup one part ≡ image setup other part'

-- a replica has all writes of all origins
abbrev pub HasAll : Setup → List Entry → ℕ → Type 0
HasAll setup history replica =
    (origin : ℕ) → origin < setup.replicas → have replica (part_of history replica) origin ≡ length (own (part_of history origin))

-- no peer may miss anything of a replica's writes, and nothing is reserved
pub record IsSettled (setup : Setup) (replica : ℕ) (part : List Entry) : Type 0 where
  pub known : (peer : ℕ) → peer < setup.replicas → peer ≢ replica → maybe_missed replica part peer ≡ []
  pub unreserved : (conit : ℕ) → reserved part conit ≡ 0

-- a weight passes no share
abbrev pub IsWithinShares : Setup → ℕ → List Entry → Weight → Type 0
IsWithinShares setup replica part weight =
    (peer : ℕ) → peer < setup.replicas → peer ≢ replica → unsigned_abs weight.nweight ≤ share setup replica part peer weight.conit
