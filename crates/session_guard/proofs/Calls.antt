-- A client that lacks nothing is answered by a replica, and goes on.
use Rattle.std.proofs.Common.{◌≡◌, ℕ, zero, suc, ℤ, nat_lt, ◌+◌, ◌<◌, ◌≤◌, ◌&&◌, ◌-◌, Bool, true, false, cond, List, [], ◌∷◌, ◌++◌, length, get_or, set, take, Option, None, Some, refl, sym, ap, ap₂, ◌∙◌, subst₂, ⊎_elim, get_or-set_same, arith}
use Rattle.std.specs.List.{find, range_with_len}
use Rattle.std.specs.Option.{option_map}
use Rattle.std.proofs.Math.Seq.{take-append_seam}
use Rattle.std.proofs.lemmas.Bool.{cases_eq, eq-eqb, ltb-false}
use Rattle.std.proofs.lemmas.List.{length-map, length-set, length_push}
use Rattle.std.proofs.lemmas.List.FromFn.{length-range_with_len}
use Rattle.tact_base.proofs.ListLemmas.{get_or-map_range}
use Rattle.tact_base.specs.Setup.{Setup, replicas_of}
use Rattle.tact_base.specs.declared.conit_list.Weight.{Weight}
use Rattle.tact_base.specs.declared.write.Op.{Op}
use Rattle.tact_base.specs.declared.write.Write.{Write}
use Rattle.run_model.specs.Histories.{part_of}
use Rattle.run_model.specs.OwnWrites.{accepted_as, asked_write}
use Rattle.run_model.specs.Runs.{IsDue, IsRun}
use Rattle.run_model.specs.Taking.{have}
use Rattle.run_model.specs.declared.call.Reply.{Reply}
use Rattle.run_model.specs.declared.call.Reply.TheVariants as reply
use Rattle.run_model.specs.declared.call.Request.{Request}
use Rattle.run_model.specs.declared.entry.Act.TheVariants as act
use Rattle.run_model.specs.declared.entry.Entry.{Entry}
use Rattle.run_model.proofs.Accepted.{log_of-same}
use Rattle.replica_network.proofs.Longer.{longer}
use Rattle.session_guard.proofs.Carrying.{IsNoLess-refl, carried_on, carried_with_stop, read_at, reads_more, reads_sized, writes_more}
use Rattle.session_guard.proofs.DoneReplies.{done_index}
use Rattle.session_guard.proofs.TripLemmas.{trip_of-same, trip_of-stop}
use Rattle.session_guard.specs.Carried.{IsCarried}
use Rattle.session_guard.specs.Journeys.{IsClient}
use Rattle.session_guard.specs.Passes.{PassState, haves_of, lack_of, pass_after, wanted}
use Rattle.session_guard.specs.Trips.{is_granted, is_stop}
use Rattle.session_guard.specs.Visits.{IsWriteOrRead}
use Rattle.session_guard.specs.declared.client.Client.{Client}
use Rattle.session_guard.specs.declared.steps.Visit.TheVariants as visit

-- where nothing is found, each number of a range fails the test
none_at_first : {A : Type 0} (first : A) (is : Bool) (rest : Option A)
    → cond is (Some first) rest ≡ None
    → (is ≡ false) × (rest ≡ None)
none_at_first first true rest none = cc
none_at_first first false rest none = (refl, none)

none_found : (p : ℕ → Bool) (start len k : ℕ)
    → find p (range_with_len start len) ≡ None
    → start ≤ k
    → k < start + len
    → p k ≡ false
none_found p start zero k none low high = absurd (omega arith)
none_found p start (suc len) k none low high =
    let both = none_at_first start (p start) (find p (range_with_len (start + 1) len)) none in
    ⊎_elim
    (λ (same : k ≡ start). ap p same ∙ both.0)
    (λ (other : k ≡ start → ⊥). none_found p (start + 1) len k both.1 (omega (arith, low, other)) (omega (arith, high)))
    (cases_eq k start)

none_mapped : {A B : Type 0} (f : A → B) (o : Option A) → option_map f o ≡ None → o ≡ None
none_mapped f None is = refl
none_mapped f (Some x) is = cc

-- a pass that lacks nothing of what a replica has
pub has_enough : (setup : Setup) (replica : ℕ) (part : List Entry) (pass : PassState)
    → lack_of (haves_of setup replica part) pass ≡ None
    → (origin : ℕ)
    → origin < setup.replicas
    → wanted pass origin ≤ have replica part origin
has_enough setup replica part pass none origin among =
    let haves = haves_of setup replica part in
    let sized : length haves ≡ setup.replicas = length-map (replicas_of setup) (have replica part) ∙ length-range_with_len 0 setup.replicas in
    let test = λ (o : ℕ). nat_lt (get_or haves o 0) (wanted pass o) in
    let lack = λ (o : ℕ). visit.Behind o (get_or haves o 0) (wanted pass o) in
    let all : find test (range_with_len 0 (length haves)) ≡ None = none_mapped lack (find test (range_with_len 0 (length haves))) none in
    let fails : nat_lt (get_or haves origin 0) (wanted pass origin) ≡ false =
    none_found test 0 (length haves) origin all (omega arith) (omega (arith, among, sized)) in
    let here : get_or haves origin 0 ≡ have replica part origin = get_or-map_range (have replica part) setup.replicas origin 0 among in
    omega (arith, ltb-false (get_or haves origin 0) (wanted pass origin) fails, here)

-- the write that a call accepted
accepted_numbers : (replica moment : ℕ) (asked : Option (List Weight × Op)) (index stamp : ℕ) (write : Write)
    → accepted_as replica moment asked (Some (index, stamp)) ≡ Some write
    → (write.origin ≡ replica) × (write.index ≡ index)
accepted_numbers replica moment None index stamp write is = cc
accepted_numbers replica moment (Some asked) index stamp write is = (cc, cc)

accepts_none : (replica moment : ℕ) (asked : Option (List Weight × Op)) (write : Write)
    → accepted_as replica moment asked None ≡ Some write
    → ⊥
accepts_none replica moment None write is = cc
accepts_none replica moment (Some asked) write is = cc

-- A client, and the call that it makes at a replica which lacks nothing.
module _ (setup : Setup) (history : List Entry) (run : IsRun setup history) (client : Client) (number replica moment count : ℕ) (asked : Request)
    (is_client : IsClient setup history number client) (among : replica < setup.replicas) (kind : IsWriteOrRead asked)
    (nothing : lack_of (haves_of setup replica (part_of history replica)) client.pass ≡ None) where
  abbrev haves : List ℕ
  haves = haves_of setup replica (part_of history replica)

  abbrev called : Reply → Entry
  called given = record { replica = replica; moment = moment; act = act.Call number count asked given }

  abbrev IsNextDue : Reply → Type 0
  IsNextDue given = IsDue setup (part_of history replica) (called given)

  enough : (origin : ℕ) → origin < setup.replicas → wanted client.pass origin ≤ have replica (part_of history replica) origin
  enough = has_enough setup replica (part_of history replica) client.pass nothing

  sized : length haves ≡ setup.replicas
  sized = length-map (replicas_of setup) (have replica (part_of history replica)) ∙ length-range_with_len 0 setup.replicas

  -- the client after the reply
  abbrev after : Reply → Client
  after given = record {
    pass = pass_after haves replica client.pass given;
    trip = cond (is_granted given) (client.trip ++ length history ∷ []) (take (length (client.trip ++ length history ∷ []) - 1) (client.trip ++ length history ∷ []));
  }

  stops : (given : Reply) → is_granted given ≡ true → is_stop number (called given).act ≡ true
  stops given granted = ap₂ (λ (a b : Bool). a && b) (eq-eqb number number refl) granted

  goes_by : (given : Reply) → is_granted given ≡ false → is_stop number (called given).act ≡ false
  goes_by given refused = ap₂ (λ (a b : Bool). a && b) (eq-eqb number number refl) refused

  -- where nothing was granted
  unchanged_trip : take (length (client.trip ++ length history ∷ []) - 1) (client.trip ++ length history ∷ []) ≡ client.trip
  unchanged_trip =
      let count : length (client.trip ++ length history ∷ []) - 1 ≡ length client.trip = omega (arith, length_push client.trip (length history)) in
      ap (λ (n : ℕ). take n (client.trip ++ length history ∷ [])) count ∙ take-append_seam client.trip (length history ∷ [])

  refused : (given : Reply)
      → is_granted given ≡ false
      → pass_after haves replica client.pass given ≡ client.pass
      → IsClient setup (longer history (called given)) number (after given)
  refused given denied same =
      let trip : (after given).trip ≡ client.trip =
      ap (λ (yes : Bool). cond yes (client.trip ++ length history ∷ []) (take (length (client.trip ++ length history ∷ []) - 1) (client.trip ++ length history ∷ []))) denied
      ∙ unchanged_trip in
      record {
        trip = trip ∙ is_client.trip ∙ sym (trip_of-same history (called given) number (goes_by given denied));
        carried = subst₂ (IsCarried setup (longer history (called given))) (sym same) (sym trip)
            (carried_on setup history (called given) client.pass client.pass client.trip is_client.carried is_client.carried.is_pass (IsNoLess-refl setup client.pass));
      }

  -- where a write was accepted, and where a read was answered
  accepted : (index stamp : ℕ)
      → IsNextDue (reply.Done index stamp)
      → IsClient setup (longer history (called (reply.Done index stamp))) number (after (reply.Done index stamp))
  accepted index stamp due =
      let part = part_of history replica in
      let pass = client.pass in
      let is_pass = is_client.carried.is_pass in
      let has : have replica part replica ≡ index =
      ap length (log_of-same replica part) ∙ sym (done_index setup part replica moment number count index stamp asked due kind) in
      let inside : replica < length pass.writes = omega (arith, among, is_pass.writes) in
      record {
        trip = ap (λ (front : List ℕ). front ++ length history ∷ []) is_client.trip
            ∙ sym (trip_of-stop history (called (reply.Done index stamp)) number (stops (reply.Done index stamp) refl));
        carried = carried_with_stop setup history (called (reply.Done index stamp)) pass (pass_after haves replica pass (reply.Done index stamp)) client.trip is_client.carried
            (record { reads = is_pass.reads; writes = length-set pass.writes replica (index + 1) ∙ is_pass.writes })
            (writes_more setup pass replica (index + 1) is_pass among (omega (arith, enough replica among, has)))
            run due enough
            (λ write some.
            let numbers = accepted_numbers replica moment (asked_write asked) index stamp write some in
            let here : get_or (set pass.writes replica (index + 1)) write.origin 0 ≡ index + 1 =
            ap (λ i. get_or (set pass.writes replica (index + 1)) i 0) numbers.0 ∙ get_or-set_same pass.writes replica (index + 1) 0 inside in
            (omega (arith, numbers.0, among), omega (arith, numbers.1, here)))
            (λ reads. absurd reads);
      }

  answered : (value : ℤ) (sums : List ℤ)
      → IsNextDue (reply.Value value sums)
      → IsClient setup (longer history (called (reply.Value value sums))) number (after (reply.Value value sums))
  answered value sums due =
      let part = part_of history replica in
      let pass = client.pass in
      record {
        trip = ap (λ (front : List ℕ). front ++ length history ∷ []) is_client.trip
            ∙ sym (trip_of-stop history (called (reply.Value value sums)) number (stops (reply.Value value sums) refl));
        carried = carried_with_stop setup history (called (reply.Value value sums)) pass (pass_after haves replica pass (reply.Value value sums)) client.trip is_client.carried
            (reads_sized setup pass haves sized is_client.carried.is_pass)
            (reads_more setup pass haves sized)
            run due enough
            (λ write some. absurd (accepts_none replica moment (asked_write asked) write some))
            (λ reads origin inside.
            omega (arith, read_at setup pass haves sized origin inside, get_or-map_range (have replica part) setup.replicas origin 0 inside));
      }

  pub settled : (given : Reply) → IsNextDue given → IsClient setup (longer history (called given)) number (after given)
  settled (reply.Done index stamp) due = accepted index stamp due
  settled (reply.Value value sums) due = answered value sums due
  settled other due = refused other refl refl
