-- In a run what a peer hasn't seen is within the share lent for it.
use Rattle.std.proofs.Common.{◌≡◌, ℕ, ◌≤◌, true, nat_le, List, le_trans, arith}
use Rattle.std.proofs.lemmas.Bool.{leb-true, le-leb}
use Rattle.tact_base.specs.Sums.{above_zero, below_zero}
use Rattle.tact_base.specs.declared.conit_list.Weight.{Weight}
use Rattle.tact_base.specs.declared.write.Write.{Write}
use Rattle.tact_base.specs.Setup.{Setup}
use Rattle.run_model.specs.Histories.{part_of}
use Rattle.run_model.specs.OwnWrites.{own}
use Rattle.run_model.specs.Taking.{known, have}
use Rattle.run_model.specs.Promises.{IsWithin}
use Rattle.run_model.specs.declared.entry.Entry.{Entry}
use Rattle.run_model.proofs.Sound.{Sound}
use Rattle.tact_base.proofs.FilterSums.{weights_on-filter-le}
use Rattle.run_promises.proofs.KeepsShares.{KeepsShares}

-- a later first place passes fewer
from_later : (early late index : ℕ)
    → early ≤ late
    → nat_le late index ≡ true
    → nat_le early index ≡ true
from_later early late index below passes = le-leb early index (le_trans below (leb-true late index passes))

pub IsWithin-from : (setup : Setup) (history : List Entry)
    → Sound setup history
    → ((replica : ℕ) → KeepsShares setup replica (part_of history replica))
    → IsWithin setup history
IsWithin-from setup history sound shares replica peer conit replica_in peer_in other conit_in =
    let writes = own (part_of history replica) in
    let told = known (part_of history replica) peer replica in
    let has = have peer (part_of history peer) replica in
    let among = λ (f : Weight → ℕ). weights_on-filter-le f conit (λ (w : Write). nat_le has w.index) (λ (w : Write). nat_le told w.index)
    (λ w. from_later told has w.index (sound.known replica peer replica)) writes in
    let share = (shares replica).each peer conit peer_in other in
    record {
      plus = omega (arith, share.plus, among (λ (w : Weight). above_zero w.nweight));
      minus = omega (arith, share.minus, among (λ (w : Weight). below_zero w.nweight));
    }
