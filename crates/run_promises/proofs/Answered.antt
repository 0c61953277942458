-- In a run each answered access keeps its three bounds.
use Rattle.std.proofs.Common.{◌≡◌, ℕ, ◌<◌, ◌≤◌, ◌==◌, Bool, true, false, not, ◌&&◌, cond, nat_le, nat_lt, ℤ, List, []}
use Rattle.std.proofs.Common.{◌∷◌, ◌++◌, length, get_or, map, sum, All, Option, None, Some, unwrap_or, refl, sym, ap}
use Rattle.std.proofs.Common.{ap₂, ◌∙◌, subst, le_trans, zero-add, arith}
use Rattle.std.specs.List.{range_with_len, enumerate_from, find}
use Rattle.std.specs.Option.{option_map}
use Rattle.std.specs.Prelude.{Any}
use Rattle.std.proofs.lemmas.Bool.{ne_eqb, ltb-false, leb-true}
use Rattle.std.proofs.lemmas.List.{length-map}
use Rattle.std.proofs.lemmas.List.Elements.{All-nil, All-cons, All-weaker}
use Rattle.std.proofs.lemmas.List.FromFn.{get_or-enumerate_from, length-enumerate_from, length-range_with_len}
use Rattle.std.proofs.lemmas.Option.{same_Some}
use Rattle.tact_base.proofs.ListLemmas.{All-flat_map, get_or-map_range}
use Rattle.tact_base.specs.Admission.{Hindrance, lent as too_much_lent, unordered, stale, hindrance, first_over_part, wanted_moment}
use Rattle.tact_base.specs.Covers.{no_cover, first_late, slowest}
use Rattle.tact_base.specs.Sums.{order_sum}
use Rattle.tact_base.specs.declared.conit_list.Need.{Need}
use Rattle.tact_base.specs.declared.write.Cover.{Cover}
use Rattle.tact_base.specs.declared.write.Late.{Late}
use Rattle.tact_base.specs.declared.write.Write.{Write}
use Rattle.tact_base.specs.Setup.{Setup, peers_of}
use Rattle.run_model.specs.Histories.{part_of, IsPrefix}
use Rattle.run_model.specs.OwnWrites.{own}
use Rattle.run_model.specs.Taking.{have, cover_of, covers_of}
use Rattle.run_model.specs.Order.{tentative, value, image}
use Rattle.run_model.specs.Promises.{IsMet, MeetsNeeds, IsAnswered, IsWithin}
use Rattle.run_model.specs.Ranges.{IsNeedInRange, IsRequestInRange}
use Rattle.run_model.specs.Reference.{unseen, unseen_by}
use Rattle.run_model.specs.Replies.{first_some, waiting_by, outs_of, need_refusal, reply_of}
use Rattle.run_model.specs.Runs.{IsLawful, IsRun}
use Rattle.run_model.specs.declared.call.Request.TheVariants as request
use Rattle.run_model.specs.declared.call.Reply.{Reply}
use Rattle.run_model.specs.declared.call.Reply.TheVariants as reply
use Rattle.run_model.specs.declared.entry.Act.{Act}
use Rattle.run_model.specs.declared.entry.Act.TheVariants as act
use Rattle.run_model.specs.declared.entry.Entry.{Entry}
use Rattle.run_model.proofs.PartLemmas.{accepted_in, taken_by}
use Rattle.run_model.proofs.Accepted.{first_some-each}
use Rattle.run_model.proofs.Sound.{Sound}
use Rattle.run_model.proofs.SoundViews.{cover_of-other, Sound-count, Sound-cover}
use Rattle.run_promises.proofs.LoansAgree.{LoansAgree}
use Rattle.run_promises.proofs.SharesWrites.{first_some-none}
use Rattle.run_promises.proofs.NumErrors.{num_error-within}
use Rattle.tact_base.proofs.Peers.{All-kept, All-peers}
use Rattle.run_promises.proofs.IdleEntries.{idle-num_error, idle-order_error, idle-unseen_by}

-- whether a reply is a value
abbrev is_value : Reply → Bool
is_value (reply.Value key sums) = true
is_value other = false

-- what hinders a need is no value
waiting_by-no_value : (need : Need) (moment : ℕ) (hindered : Hindrance)
    → is_value (waiting_by need moment hindered) ≡ false
waiting_by-no_value need moment (too_much_lent holder out total) = refl
waiting_by-no_value need moment (unordered slowest tentative) = refl
waiting_by-no_value need moment (stale late) = refl

-- what a need says where nothing hinders it
pub record IsUnhindered (need : Need) (outs : List ℕ) (tentative : ℕ) (late : Option Late) : Type 0 where
  pub lent : sum outs ≤ need.num
  pub order : tentative ≤ need.order
  pub seen : late ≡ None

unhindered : (need : Need) (outs : List ℕ) (tentative slow : ℕ) (late : Option Late)
    → hindrance need outs tentative slow late ≡ None
    → IsUnhindered need outs tentative late
unhindered need outs tentative slow late none = go (nat_lt need.num (sum outs)) refl (nat_lt need.order tentative) refl none
  where
    unmapped : (late : Option Late) → option_map stale late ≡ None → late ≡ None
    unmapped None none = refl
    unmapped (Some one) none = cc

    go : (much : Bool)
        → nat_lt need.num (sum outs) ≡ much
        → (disordered : Bool)
        → nat_lt need.order tentative ≡ disordered
        → cond much (Some (too_much_lent (first_over_part outs need.num) (get_or outs (first_over_part outs need.num) 0) (sum outs)))
        (cond disordered (Some (unordered slow tentative)) (option_map stale late)) ≡ None
        → IsUnhindered need outs tentative late
    go true is other is_other none = cc
    go false is true is_other none = cc
    go false is false is_other none = record {
      lent = ltb-false need.num (sum outs) is;
      order = ltb-false need.order tentative is_other;
      seen = unmapped late none;
    }

-- where none is found, each fails
find-none : {X : Type 0} (p : X → Bool) (xs : List X) → find p xs ≡ None → All (λ x. p x ≡ false) xs
find-none p [] none = All-nil (λ x. p x ≡ false)
find-none {X} p (x ∷ xs) none = go (p x) refl none (find-none p xs)
  where
    go : (yes : Bool)
        → p x ≡ yes
        → cond yes (Some x) (find p xs) ≡ None
        → (find p xs ≡ None → All (λ x. p x ≡ false) xs)
        → All (λ x. p x ≡ false) (x ∷ xs)
    go true is none rest = cc
    go false is none rest = All-cons (λ x. p x ≡ false) x xs is (rest none)

-- where no peer is late, each has a cover at the wanted moment or after it
none_late : (f : ℕ → Cover) (count replica wanted : ℕ)
    → first_late (map f (range_with_len 0 count)) replica wanted ≡ None
    → (peer : ℕ)
    → peer < count
    → (peer ≡ replica → ⊥)
    → wanted ≤ (f peer).moment
none_late f count replica wanted none peer within other =
    let covers = map f (range_with_len 0 count) in
    let late = λ (one : ℕ × Cover). not (one.0 == replica) && nat_lt one.1.moment wanted in
    let size : length covers ≡ count = length-map (range_with_len 0 count) f ∙ length-range_with_len 0 count in
    let fails : late (get_or (enumerate_from 0 covers) peer (0, no_cover)) ≡ false =
    find-none late (enumerate_from 0 covers) (unmapped (find late (enumerate_from 0 covers)) none) peer (0, no_cover) (omega (arith, size, length-enumerate_from 0 covers, within)) in
    let reads : get_or (enumerate_from 0 covers) peer (0, no_cover) ≡ (peer, f peer) =
    get_or-enumerate_from 0 covers peer (0, no_cover) (omega (arith, size, within)) ∙ ap₂ (λ (i : ℕ) (c : Cover). (i, c)) (zero-add peer) (get_or-map_range f count peer no_cover within) in
    let here : late (peer, f peer) ≡ false = sym (ap late reads) ∙ fails in
    let isnt : (peer == replica) ≡ false = ne_eqb peer replica other in
    ltb-false (f peer).moment wanted (ap (λ yes. not yes && nat_lt (f peer).moment wanted) (sym isnt) ∙ here)
  where
    unmapped : (found : Option (ℕ × Cover))
        → option_map {U = Late} (λ (late : ℕ × Cover). record { replica = late.0; moment = late.1.moment }) found ≡ None
        → found ≡ None
    unmapped None none = refl
    unmapped (Some one) none = cc

-- what each has, none lacks
none_from_all : {X : Type 0} (P Q : X → Type 0) (xs : List X)
    → ((x : X) → P x → Q x → ⊥)
    → All P xs
    → Any Q xs
    → ⊥
none_from_all P Q xs apart all (k, x, within, is, holds) = apart x (subst P is (all k x within)) holds

-- A read that is admitted at a replica of a sound history, for one need.
module _ (setup : Setup) (history : List Entry) (sound : Sound setup history) (agree : LoansAgree setup history) (within : IsWithin setup history)
    (replica moment : ℕ) (replica_in : replica < setup.replicas) (need : Need) (in_range : IsNeedInRange setup need) where
  abbrev part : List Entry
  part = part_of history replica

  abbrev wanted : ℕ
  wanted = wanted_moment moment need

  -- each write that it hasn't seen was accepted at the wanted moment or after it
  unseen_is_late : first_late (covers_of setup replica part moment) replica wanted ≡ None
      → All (λ (w : Write). wanted ≤ w.moment) (unseen_by setup history replica)
  unseen_is_late none =
      let IsLate = λ (w : Write). wanted ≤ w.moment in
      All-flat_map IsLate (λ origin. unseen history origin replica) (peers_of setup replica)
      (All-peers setup replica (λ origin. All IsLate (unseen history origin replica)) (λ origin origin_in other.
      let at_moment : wanted ≤ (cover_of replica part moment origin).moment = none_late (cover_of replica part moment) setup.replicas replica wanted none origin origin_in other in
      let same : cover_of replica part moment origin ≡ cover_of replica part 0 origin = cover_of-other replica part moment origin other ∙ sym (cover_of-other replica part 0 origin other) in
      let cover = cover_of replica part 0 origin in
      let vouches = Sound-cover setup history sound replica origin 0 (omega arith) in
      let count = Sound-count setup history sound replica origin 0 in
      let has = have replica part origin in
      All-kept IsLate (λ (w : Write). nat_le has w.index) (own (part_of history origin))
      (All-weaker (λ (w : Write). cover.count ≤ w.index → (cover.stamp < w.stamp) × (cover.moment ≤ w.moment)) (λ (w : Write). nat_le has w.index ≡ true → IsLate w)
      (λ w later passes.
      let past : cover.count ≤ w.index = le_trans count (leb-true has w.index passes) in
      omega (arith, at_moment, ap (λ (c : Cover). c.moment) same, (later past).1))
      (own (part_of history origin)) vouches.later)))

  pub IsMet-before : need_refusal setup replica part moment need ≡ None
      → IsMet setup history replica moment need
  IsMet-before none =
      let late = first_late (covers_of setup replica part moment) replica wanted in
      let outs = outs_of setup replica part need.conit in
      let weight = order_sum (tentative setup replica part) need.conit in
      let slow = slowest (covers_of setup replica part moment) in
      let free = unhindered need outs weight slow late (unmapped (hindrance need outs weight slow late) none) in
      record {
        num = le_trans (num_error-within setup history sound agree within replica need.conit replica_in in_range.conit) free.lent;
        order = free.order;
        stale = none_from_all (λ (w : Write). wanted ≤ w.moment) (λ (w : Write). w.moment < wanted) (unseen_by setup history replica)
            (λ w after before. absurd (omega (arith, after, before))) (unseen_is_late free.seen);
      }
    where
      unmapped : (hindered : Option Hindrance)
          → option_map (waiting_by need moment) hindered ≡ None
          → hindered ≡ None
      unmapped None none = refl
      unmapped (Some one) none = cc

-- what refuses a read for a need is no value
need_refusal-no_value : (setup : Setup) (replica : ℕ) (part : List Entry) (moment : ℕ) (need : Need) (given : Reply)
    → need_refusal setup replica part moment need ≡ Some given
    → is_value given ≡ false
need_refusal-no_value setup replica part moment need given some =
    go (hindrance need (outs_of setup replica part need.conit) (order_sum (tentative setup replica part) need.conit) (slowest (covers_of setup replica part moment))
    (first_late (covers_of setup replica part moment) replica (wanted_moment moment need))) some
  where
    go : (hindered : Option Hindrance)
        → option_map (waiting_by need moment) hindered ≡ Some given
        → is_value given ≡ false
    go None some = cc
    go (Some hindered) some = subst (λ g. is_value g ≡ false) (same_Some (waiting_by need moment hindered) given some) (waiting_by-no_value need moment hindered)

-- a read that is answered with a value is refused for no need
pub answered-unrefused : (setup : Setup) (replica : ℕ) (part : List Entry) (moment key : ℕ) (needs : List Need) (answer : ℤ) (sums : List ℤ)
    → reply.Value answer sums ≡ reply_of setup replica part moment (request.Read key needs)
    → first_some (need_refusal setup replica part moment) needs ≡ None
answered-unrefused setup replica part moment key needs answer sums is =
    let refusals = need_refusal setup replica part moment in
    go (first_some refusals needs) (first_some-each refusals (λ given. is_value given ≡ false) (need_refusal-no_value setup replica part moment) needs) is
  where
    go : (first : Option Reply)
        → ((given : Reply) → first ≡ Some given → is_value given ≡ false)
        → reply.Value answer sums ≡ unwrap_or first (reply.Value (image setup replica part key) (map (λ (need : Need). value setup replica part need.conit) needs))
        → first ≡ None
    go None no_value is = refl
    go (Some given) no_value is =
        let yes : is_value given ≡ true = sym (ap is_value is) in
        let no : is_value given ≡ false = no_value given refl in
        cc

-- A read that is answered with a value.
module _ (setup : Setup) (history : List Entry) (entry : Entry) (sound : Sound setup history) (agree : LoansAgree setup history) (within : IsWithin setup history)
    (lawful : IsLawful setup history entry) (accepts : accepted_in entry ≡ None) (takes : taken_by entry ≡ None) where
  abbrev reader : ℕ
  reader = entry.replica

  abbrev read_part : List Entry
  read_part = part_of history entry.replica

  -- an answer changes nothing that is measured
  IsMet-after : (need : Need)
      → IsMet setup history reader entry.moment need
      → IsMet setup (history ++ entry ∷ []) reader entry.moment need
  IsMet-after need met = record {
    num = rw (idle-num_error setup history entry accepts takes reader need.conit) met.num;
    order = rw (idle-order_error setup history entry accepts takes reader need.conit) met.order;
    stale = λ misses. met.stale (subst (Any (λ (w : Write). w.moment < wanted_moment entry.moment need)) (idle-unseen_by setup history entry accepts takes reader) misses);
  }

  meets : (key : ℕ) (needs : List Need) (answer : ℤ) (sums : List ℤ)
      → IsRequestInRange setup (request.Read key needs)
      → reply.Value answer sums ≡ reply_of setup reader read_part entry.moment (request.Read key needs)
      → All (IsMet setup (history ++ entry ∷ []) reader entry.moment) needs
  meets key needs answer sums in_range is =
      let none = answered-unrefused setup reader read_part entry.moment key needs answer sums is in
      let each : All (λ need. need_refusal setup reader read_part entry.moment need ≡ None) needs = first_some-none (need_refusal setup reader read_part entry.moment) needs none in
      λ k d inside.
      IsMet-after (get_or needs k d)
      (IsMet-before setup history sound agree within reader entry.moment lawful.due.in_range.replica (get_or needs k d) (in_range.1.each k d inside) (each k d inside))

-- Whatever an act is, where it is a read that is answered its needs are met.
MeetsNeeds-due : (setup : Setup) (history : List Entry) (replica moment : ℕ) (done : Act)
    → Sound setup history
    → LoansAgree setup history
    → IsWithin setup history
    → IsLawful setup history (record { replica = replica; moment = moment; act = done })
    → MeetsNeeds setup (history ++ record { replica = replica; moment = moment; act = done } ∷ []) replica moment done
MeetsNeeds-due setup history replica moment (act.Call client number (request.Read key needs) (reply.Value answer sums)) sound agree within lawful =
    meets setup history (record { replica = replica; moment = moment; act = act.Call client number (request.Read key needs) (reply.Value answer sums) }) sound agree
    within lawful refl refl key needs answer sums lawful.due.in_range.act.1 lawful.due.act.1
MeetsNeeds-due setup history replica moment other sound agree within lawful = tt

pub IsAnswered-from : (setup : Setup) (history : List Entry)
    → IsRun setup history
    → ((front : List Entry) → IsPrefix front history → Sound setup front × LoansAgree setup front × IsWithin setup front)
    → IsAnswered setup history
IsAnswered-from setup history run facts before after entry is =
    let (sound, agree, within) = facts before (entry ∷ after, is) in
    MeetsNeeds-due setup before entry.replica entry.moment entry.act sound agree within (run before after entry is)
