-- Reads whose needs allow all there can be, and writes whose budgets are whole: neither is made to wait.
use Rattle.std.proofs.Common.{◌≡◌, ℕ, ◌<◌, ◌≤◌, ◌==◌, Bool, true, false, not, ◌&&◌, cond, nat_lt, ℤ, pos, negsuc}
use Rattle.std.proofs.Common.{unsigned_abs, List, [], ◌∷◌, get_or, map, filter, sum, sum_by, All, Option, None}
use Rattle.std.proofs.Common.{unwrap_or, refl, sym, ap, ◌∙◌, arith}
use Rattle.std.specs.List.{cons_option, filter_map, slice_get, find, enumerate_from}
use Rattle.std.specs.Option.{option_map}
use Rattle.std.proofs.lemmas.Bool.{le-ltb}
use Rattle.std.proofs.lemmas.List.Elements.{All-head, All-tail}
use Rattle.std.proofs.lemmas.List.Sums.{sum-map, sum_by-cons}
use Rattle.tact_base.proofs.SharesLemmas.{fit_of-all}
use Rattle.tact_base.specs.Admission.{hindrance, wanted_moment}
use Rattle.tact_base.specs.Covers.{first_late, slowest}
use Rattle.tact_base.specs.Setup.{Setup, IsSetup, replicas_of, peers_of}
use Rattle.tact_base.specs.Sums.{order_sum, plus_sum, minus_sum}
use Rattle.tact_base.specs.declared.conit_list.Need.{Need}
use Rattle.tact_base.specs.declared.conit_list.Weight.{Weight}
use Rattle.tact_base.specs.declared.write.Cover.{Cover}
use Rattle.tact_base.specs.declared.write.Late.{Late}
use Rattle.tact_base.specs.declared.write.Op.{Op}
use Rattle.tact_base.specs.declared.write.Write.{Write}
use Rattle.run_model.specs.Histories.{part_of}
use Rattle.run_model.specs.Loans.{out, share}
use Rattle.run_model.specs.Missing.{reserved}
use Rattle.run_model.specs.Order.{tentative, value, image}
use Rattle.run_model.specs.Replies.{first_some, refused_as, refusal, missing_of_sign, weight_refusal, outs_of, need_refusal, waiting_by, done, reply_of}
use Rattle.run_model.specs.Runs.{IsRun}
use Rattle.run_model.specs.Taking.{covers_of}
use Rattle.run_model.specs.declared.call.Reply.{Reply}
use Rattle.run_model.specs.declared.call.Reply.TheVariants as reply
use Rattle.run_model.specs.declared.call.Request.TheVariants as request
use Rattle.run_model.specs.declared.entry.Entry.{Entry}
use Rattle.run_promises.specs.Conclusions.{IsFree, IsSettled, IsWithinShares}
use Rattle.run_promises.proofs.KeepsHome.{all_out, KeepsHome-run}
use Rattle.tact_base.proofs.Peers.{All-peers}

-- where no place gives a reply, there is no first
first_some-all : {A : Type 0} (f : A → Option Reply) (items : List A)
    → All (λ item. f item ≡ None) items
    → first_some f items ≡ None
first_some-all f [] all = refl
first_some-all f (item ∷ items) all =
    let here : f item ≡ None = All-head (λ item. f item ≡ None) item items all in
    ap (λ (first : Option Reply). slice_get (cons_option first (filter_map f items)) 0) here
    ∙ first_some-all f items (All-tail (λ item. f item ≡ None) item items all)

-- what the replicas have out, 0 of the replica's own, is what the peers have
pub sum-outs : (f : ℕ → ℕ) (replica : ℕ) (xs : List ℕ)
    → sum (map (λ x. cond (x == replica) 0 (f x)) xs) ≡ sum (map f (filter (λ x. not (x == replica)) xs))
sum-outs f replica xs = sum-map (λ x. cond (x == replica) 0 (f x)) xs ∙ by xs ∙ sym (sum-map f (filter (λ x. not (x == replica)) xs))
  where
    by : (xs : List ℕ) → sum_by (λ x. cond (x == replica) 0 (f x)) xs ≡ sum_by f (filter (λ x. not (x == replica)) xs)
    by [] = refl
    by (x ∷ xs) = go (x == replica) refl (by xs)
      where
        go : (own : Bool)
            → (x == replica) ≡ own
            → sum_by (λ x. cond (x == replica) 0 (f x)) xs ≡ sum_by f (filter (λ x. not (x == replica)) xs)
            → sum_by (λ x. cond (x == replica) 0 (f x)) (x ∷ xs) ≡ sum_by f (cond (not own) (x ∷ filter (λ x. not (x == replica)) xs) (filter (λ x. not (x == replica)) xs))
        go true is rest =
            let here : cond (x == replica) 0 (f x) ≡ 0 = ap (λ (own : Bool). cond own 0 (f x)) is in
            omega (arith, rest, here, sum_by-cons (λ x. cond (x == replica) 0 (f x)) x xs)
        go false is rest =
            let here : cond (x == replica) 0 (f x) ≡ f x = ap (λ (own : Bool). cond own 0 (f x)) is in
            omega (arith, rest, here, sum_by-cons (λ x. cond (x == replica) 0 (f x)) x xs, sum_by-cons f x (filter (λ x. not (x == replica)) xs))

outs_of-all_out : (setup : Setup) (replica : ℕ) (part : List Entry) (conit : ℕ)
    → sum (outs_of setup replica part conit) ≡ all_out setup replica part conit
outs_of-all_out setup replica part conit = sum-outs (λ (holder : ℕ). out setup replica part holder conit) replica (replicas_of setup)

-- no peer is late where nothing is wanted
none-found : {X : Type 0} (p : X → Bool) (xs : List X)
    → ((x : X) → p x ≡ false)
    → find p xs ≡ None
none-found p [] fails = refl
none-found p (x ∷ xs) fails = rw (fails x) (none-found p xs fails)

first_late-none : (covers : List Cover) (replica wanted : ℕ)
    → wanted ≡ 0
    → first_late covers replica wanted ≡ None
first_late-none covers replica wanted zero =
    ap (option_map {U = Late} (λ (late : ℕ × Cover). record { replica = late.0; moment = late.1.moment }))
    (none-found (λ (peer : ℕ × Cover). not (peer.0 == replica) && nat_lt peer.1.moment wanted) (enumerate_from 0 covers)
    (λ peer. go (not (peer.0 == replica)) (nat_lt peer.1.moment wanted) (le-ltb peer.1.moment wanted (omega arith))))
  where
    go : (other late : Bool) → late ≡ false → (other && late) ≡ false
    go true late is = is
    go false late is = refl

-- what hinders no need
hindrance-none : (need : Need) (outs : List ℕ) (weight slow : ℕ) (late : Option Late)
    → sum outs ≤ need.num
    → weight ≤ need.order
    → late ≡ None
    → hindrance need outs weight slow late ≡ None
hindrance-none need outs weight slow late num order none =
    rw (le-ltb need.num (sum outs) num, le-ltb need.order weight order, none) refl

-- A read whose needs are free is answered with its value.
pub free_read-value : (setup : Setup) (history : List Entry) (replica moment key : ℕ) (needs : List Need)
    → IsSetup setup
    → IsRun setup history
    → replica < setup.replicas
    → All (IsFree setup replica (part_of history replica) moment) needs
    → reply_of setup replica (part_of history replica) moment (request.Read key needs)
    ≡ reply.Value (image setup replica (part_of history replica) key) (map (λ (need : Need). value setup replica (part_of history replica) need.conit) needs)
free_read-value setup history replica moment key needs good run within free =
    let part = part_of history replica in
    let found = reply.Value (image setup replica part key) (map (λ (need : Need). value setup replica part need.conit) needs) in
    ap (λ (first : Option Reply). unwrap_or first found)
    (first_some-all (need_refusal setup replica part moment) needs (λ k d inside. unhindered _ (free k d inside)))
  where
    unhindered : (need : Need)
        → IsFree setup replica (part_of history replica) moment need
        → need_refusal setup replica (part_of history replica) moment need ≡ None
    unhindered need allows =
        let part = part_of history replica in
        let out_less : sum (outs_of setup replica part need.conit) ≤ need.num =
        omega (arith, outs_of-all_out setup replica part need.conit, KeepsHome-run setup history good run replica need.conit within allows.conit, allows.num) in
        let late = first_late-none (covers_of setup replica part moment) replica (wanted_moment moment need) (omega (arith, allows.stale)) in
        ap (option_map {U = Reply} (waiting_by need moment))
        (hindrance-none need (outs_of setup replica part need.conit) (order_sum (tentative setup replica part) need.conit)
        (slowest (covers_of setup replica part moment)) (first_late (covers_of setup replica part moment) replica (wanted_moment moment need))
        out_less allows.order late)

-- A write of which no weight passes a share, where no peer may miss anything and nothing is reserved.
module _ (setup : Setup) (replica : ℕ) (part : List Entry) (settled : IsSettled setup replica part) where
  missing-none : (peer : ℕ)
      → peer < setup.replicas
      → (peer ≡ replica → ⊥)
      → (conit : ℕ) (nweight : ℤ)
      → missing_of_sign replica part peer conit nweight ≡ 0
  missing-none peer within other conit (pos n) = ap (λ (writes : List Write). plus_sum writes conit) (settled.known peer within other)
  missing-none peer within other conit (negsuc n) = ap (λ (writes : List Write). minus_sum writes conit) (settled.known peer within other)

  weight-unrefused : (weight : Weight)
      → IsWithinShares setup replica part weight
      → weight_refusal setup replica part weight ≡ None
  weight-unrefused weight fits =
      let missing = λ (peer : ℕ). missing_of_sign replica part peer weight.conit weight.nweight in
      let gets = λ (peer : ℕ). refusal setup replica part weight.conit peer (unsigned_abs weight.nweight) (missing peer) in
      first_some-all gets (peers_of setup replica)
      (All-peers setup replica (λ peer. gets peer ≡ None) (λ peer within other.
      ap (refused_as weight.conit)
      (fit_of-all peer (share setup replica part peer weight.conit) (reserved part weight.conit) (missing peer) (unsigned_abs weight.nweight)
      (omega (arith, missing-none peer within other weight.conit weight.nweight, settled.unreserved weight.conit, fits peer within other)))))

  pub settled_write-done : (moment : ℕ) (weights : List Weight) (op : Op)
      → All (IsWithinShares setup replica part) weights
      → reply_of setup replica part moment (request.Write weights op) ≡ done replica part
  settled_write-done moment weights op fits =
      ap (λ (first : Option Reply). unwrap_or first (done replica part))
      (first_some-all (weight_refusal setup replica part) weights (λ k d within. weight-unrefused (get_or weights k d) (fits k d within)))
