-- What is kept of all that is seen, as writes are put in and committed: their sums, and the readers of these.
use Rattle.std.proofs.Common.{◌≡◌, ℕ, ◌+◌, ◌-◌, ◌<◌, ◌≤◌, pos, ◌-ℤ◌, nat_le, List, [], ◌∷◌, ◌++◌, All, length, get_or}
use Rattle.std.proofs.Common.{take, drop, sum_by, IsPermutation, slice_get, None, Some, refl, sym, ap, ap₂, ◌∙◌, subst}
use Rattle.std.proofs.Common.{arith}
use Rattle.std.specs.List.Sorted.{IsSorted}
use Rattle.std.specs.Option.{option_or}
use Rattle.std.proofs.lemmas.List.{append-nil, append_assoc, get_or-append-add, length-append, take-append-drop, take-append-le, take_more, map-append}
use Rattle.std.proofs.lemmas.Option.{slice_get-get_or}
use Rattle.std.proofs.lemmas.List.Elements.{All-nil, All-drop, All-filter}
use Rattle.std.proofs.lemmas.List.Sorted.{IsPermutation-map, All-permutation, length_permutation, sum_by-IsPermutation}
use Rattle.std.proofs.lemmas.List.Sums.{sum_by-append}
use Rattle.std.proofs.Math.Seq.{drop-append_seam, take-add}
use Rattle.tact_base.proofs.CommitLemmas.{committed_to-tentative_past, committed_to_prefix}
use Rattle.tact_base.proofs.OrderLemmas.{IsPermutation-in_order, IsSorted-in_order}
use Rattle.tact_base.proofs.SumsLemmas.{weights_on-append, net_sum-parts}
use Rattle.tact_base.specs.Sums.{net_sum, order_sum, weights_on}
use Rattle.tact_base.specs.WriteOrder.{write_cmp, in_order, committed_to, tentative_past}
use Rattle.tact_base.specs.declared.conit_list.Weight.{Weight}
use Rattle.tact_base.specs.declared.limits.TheConstants.{WEIGHT_MAX}
use Rattle.tact_base.specs.declared.write.Write.{Write}
use Rattle.conit_sums.proofs.SumLemmas.{sum_of-writes}
use Rattle.conit_sums.specs.ConitSums.{SumsState, AreSumsOf, write_sum, sum_of}
use Rattle.conit_sums.specs.declared.Summed.TheVariants.{Plus, Minus, Order}
use Rattle.conit_weights.specs.Running.{RunningState, HoldsAll, net_of}
use Rattle.rollback_apply.specs.Image.{ImageState, base_of}
use Rattle.replica_core.specs.Seen.{SeenState, weights_of, last_one, AreOnConits, HasSums, KeepsSeen}

abbrev weights_in : Write → List Weight
weights_in write = write.weights

-- of no writes
pub KeepsSeen-made : (seen : SeenState) (order_room : ℕ) (image : ImageState) (all : RunningState) (settled : SumsState)
    → seen.writes ≡ []
    → seen.dropped ≡ 0
    → seen.point ≡ 0
    → seen.room ≡ 0
    → image.committed ≡ 0
    → ((key : ℕ) → base_of image key ≡ pos 0)
    → image.ops ≡ []
    → HoldsAll all []
    → AreSumsOf settled []
    → length settled.sums ≡ seen.conits
    → KeepsSeen seen None order_room image all settled
KeepsSeen-made seen order_room image all settled no_writes none_gone no_point no_room none base no_ops nothing settled_none conits = record {
  sorted = subst (IsSorted write_cmp) (sym no_writes) (IsSorted-in_order []);
  few = omega (arith, ap length no_writes);
  on_conits = subst (AreOnConits seen.conits) (sym no_writes) (All-nil (λ (write : Write). All (λ (weight : Weight). weight.conit < seen.conits) write.weights));
  has_image = rw (no_writes, no_point) (record { committed = none; base = base; ops = no_ops });
  has_sums = rw (no_writes, no_point) (record { all = nothing; settled = settled_none });
  conits = conits;
  order = omega (arith, no_room);
  image = omega (arith, no_room);
  gone = omega (arith, none_gone);
  gone_last = rw none_gone refl;
}

-- the last of some writes, or else the last of those before them, is the last of all
pub last_one-append : (front back : List Write) → option_or (last_one back) (last_one front) ≡ last_one (front ++ back)
last_one-append front [] = ap last_one (sym (append-nil front))
last_one-append front (write ∷ writes) =
    let back = write ∷ writes in
    let place : length (front ++ back) - 1 ≡ length front + length writes = omega (arith, length-append front back) in
    let of_back : slice_get back (length back - 1) ≡ Some (get_or back (length writes) write) =
    ap (slice_get back) (omega arith) ∙ slice_get-get_or back (length writes) write (omega arith) in
    let of_all : slice_get (front ++ back) (length (front ++ back) - 1) ≡ Some (get_or back (length writes) write) =
    ap (slice_get (front ++ back)) place
    ∙ slice_get-get_or (front ++ back) (length front + length writes) write (omega (arith, length-append front back))
    ∙ ap Some (get_or-append-add front back (length writes) write) in
    rw (of_back, of_all) refl

-- Writes that were given up, all of them committed, and then some more: which is the last.
module _ (committed : List Write) (dropped : ℕ) where
  pub last-all : option_or (last_one (drop dropped committed)) (last_one (take dropped committed)) ≡ last_one committed
  last-all = last_one-append (take dropped committed) (drop dropped committed) ∙ ap last_one (take-append-drop dropped committed)

  pub last-more : (count : ℕ) → option_or (last_one (take count (drop dropped committed))) (last_one (take dropped committed)) ≡ last_one (take (dropped + count) committed)
  last-more count = last_one-append (take dropped committed) (take count (drop dropped committed)) ∙ ap last_one (sym (take-add dropped count committed))

-- as more is committed, what was given up stays
pub gone-committed : (seen : List Write) (sorted : IsSorted write_cmp seen) (point later : ℕ)
    → point ≤ later
    → (dropped : ℕ)
    → dropped ≤ length (committed_to point seen)
    → take dropped (committed_to later seen) ≡ take dropped (committed_to point seen)
gone-committed seen sorted point later rises dropped within =
    let grown = committed_to_prefix point later seen rises sorted in
    ap (take dropped) grown.1 ∙ take-append-le dropped (committed_to point seen) grown.0 within

-- sums don't depend on the order of what is summed
pub AreSumsOf-moved : (state : SumsState) (xs ys : List (List Weight))
    → IsPermutation xs ys
    → AreSumsOf state xs
    → AreSumsOf state ys
AreSumsOf-moved state xs ys moved of = record {
  held = of.held ∙ sym (length_permutation xs ys moved);
  sums = λ conit. of.sums conit ∙ sym (sum_by-IsPermutation (λ weights. write_sum state.summed weights conit) xs ys moved);
  small = All-permutation (λ weights. (conit : ℕ) → write_sum state.summed weights conit ≤ WEIGHT_MAX) xs ys moved of.small;
}

HoldsAll-moved : (state : RunningState) (xs ys : List (List Weight))
    → IsPermutation xs ys
    → HoldsAll state xs
    → HoldsAll state ys
HoldsAll-moved state xs ys moved of = record {
  plus = AreSumsOf-moved state.plus xs ys moved of.plus;
  minus = AreSumsOf-moved state.minus xs ys moved of.minus;
  order = AreSumsOf-moved state.order xs ys moved of.order;
}

-- with the weights of one more of some writes
weights_of-more : (held : List (List Weight)) (writes : List Write) (k : ℕ) (write : Write)
    → k < length writes
    → write ≡ get_or writes k write
    → (held ++ weights_of (take k writes)) ++ write.weights ∷ [] ≡ held ++ weights_of (take (k + 1) writes)
weights_of-more held writes k write within is =
    append_assoc held (weights_of (take k writes)) (write.weights ∷ [])
    ∙ ap (λ (more : List (List Weight)). held ++ more)
    (sym (map-append weights_in (take k writes) (write ∷ []))
    ∙ ap weights_of (ap (λ (w : Write). take k writes ++ w ∷ []) is ∙ sym (take_more writes k write within)))

-- what passes on to the weights of one more write holds of those of the first ones with it, where it held of those
pub with_one_more : (Before After : List (List Weight) → Type 0) (held : List (List Weight)) (writes : List Write) (k : ℕ) (write : Write)
    → k < length writes
    → write ≡ get_or writes k write
    → ((front rest : List (List Weight)) → Before (front ++ rest) → After (front ++ write.weights ∷ rest))
    → Before (held ++ weights_of (take k writes))
    → After (held ++ weights_of (take (k + 1) writes))
with_one_more Before After held writes k write within is step so_far =
    subst After (weights_of-more held writes k write within is)
    (step (held ++ weights_of (take k writes)) [] (subst Before (sym (append-nil (held ++ weights_of (take k writes)))) so_far))

-- as writes past a point are put in
pub HasSums-admitted : (seen writes more : List Write) (point : ℕ) (before after : RunningState) (settled : SumsState)
    → more ≡ in_order (seen ++ writes)
    → committed_to point more ≡ committed_to point seen
    → ((held : List (List Weight)) → HoldsAll before held → HoldsAll after (held ++ weights_of writes))
    → HasSums seen point before settled
    → HasSums more point after settled
HasSums-admitted seen writes more point before after settled is same added has = record {
  all =
      subst (λ (ws : List Write). HoldsAll after (weights_of ws)) (sym is)
      (HoldsAll-moved after (weights_of (seen ++ writes)) (weights_of (in_order (seen ++ writes)))
      (IsPermutation-map weights_in (seen ++ writes) (in_order (seen ++ writes)) (IsPermutation-in_order (seen ++ writes)))
      (subst (HoldsAll after) (sym (map-append weights_in seen writes)) (added (weights_of seen) has.all)));
  settled = subst (λ (ws : List Write). AreSumsOf settled (weights_of ws)) (sym same) has.settled;
}

-- of writes in order, as they are committed up to a later point
pub HasSums-committed : (seen : List Write) (sorted : IsSorted write_cmp seen) (point later : ℕ) (all : RunningState) (before after : SumsState)
    → point ≤ later
    → (let more = drop (length (committed_to point seen)) (committed_to later seen) in
    ((held : List (List Weight)) → AreSumsOf before held → AreSumsOf after (held ++ weights_of more)))
    → HasSums seen point all before
    → HasSums seen later all after
HasSums-committed seen sorted point later all before after rises added has =
    let early = committed_to point seen in
    let grown = committed_to_prefix point later seen rises sorted in
    let parts : early ++ drop (length early) (committed_to later seen) ≡ committed_to later seen =
    ap (λ (ws : List Write). early ++ drop (length early) ws) grown.1 ∙ ap (λ (ws : List Write). early ++ ws) (drop-append_seam early grown.0) ∙ sym grown.1 in
    record {
      all = has.all;
      settled =
          subst (λ (ws : List Write). AreSumsOf after (weights_of ws)) parts
          (subst (AreSumsOf after) (sym (map-append weights_in early (drop (length early) (committed_to later seen)))) (added (weights_of early) has.settled));
    }

-- those that are committed weigh on the same conits
pub AreOnConits-committed : (conits : ℕ) (seen : List Write) (point k : ℕ)
    → AreOnConits conits seen
    → AreOnConits conits (drop k (committed_to point seen))
AreOnConits-committed conits seen point k on_conits =
    let P = λ (write : Write). All (λ (weight : Weight). weight.conit < conits) write.weights in
    All-drop P k (committed_to point seen) (All-filter (λ write. nat_le write.stamp point) P seen on_conits)

-- what is read of the sums
pub value-is : (seen : List Write) (conit : ℕ) → net_of (weights_of seen) conit ≡ net_sum seen conit
value-is seen conit =
    ap₂ (λ (a b : ℕ). pos a -ℤ pos b) (sum_of-writes Plus seen conit) (sum_of-writes Minus seen conit) ∙ sym (net_sum-parts seen conit)

order_sum-parts : (early late : List Write) (conit : ℕ) → order_sum (early ++ late) conit ≡ order_sum early conit + order_sum late conit
order_sum-parts early late conit =
    let amount : Weight → ℕ = λ weight. weight.oweight in
    ap (sum_by amount) (weights_on-append early late conit) ∙ sum_by-append amount (weights_on early conit) (weights_on late conit)

pub settled-is : (seen : List Write) (sorted : IsSorted write_cmp seen) (point conit : ℕ)
    → sum_of Order (weights_of seen) conit ≡ sum_of Order (weights_of (committed_to point seen)) conit + order_sum (tentative_past point seen) conit
settled-is seen sorted point conit =
    let early = committed_to point seen in
    let late = tentative_past point seen in
    let of_all : sum_of Order (weights_of seen) conit ≡ order_sum seen conit = sum_of-writes Order seen conit in
    let of_early : sum_of Order (weights_of early) conit ≡ order_sum early conit = sum_of-writes Order early conit in
    omega (
      arith,
      of_all,
      of_early,
      ap (λ (ws : List Write). order_sum ws conit) (committed_to-tentative_past point seen sorted),
      order_sum-parts early late conit,
    )
