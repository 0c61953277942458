-- What a read waits for, and what it is told, is what the definitions say of each part that the replica stands for.
use Rattle.std.proofs.Common.{◌≡◌, ℕ, zero, suc, ◌+◌, ◌<◌, ◌≤◌, ◌==◌, not, ◌&&◌, nat_lt, Bool, cond, List, [], ◌∷◌, map}
use Rattle.std.proofs.Common.{sum, find, All, Option, None, Some, unwrap_or, refl, sym, ap, ap₂, ◌∙◌, ⊎_elim, inl, inr}
use Rattle.std.proofs.Common.{◌⊎◌, arith}
use Rattle.std.specs.List.{range_with_len, enumerate_from, position_or_len}
use Rattle.std.specs.Option.{option_map}
use Rattle.std.proofs.lemmas.Bool.{cases_eq, eq-eqb, ne_eqb}
use Rattle.std.proofs.lemmas.List.Elements.{All-weaker}
use Rattle.std.proofs.lemmas.List.FromFn.{length-map-range_with_len}
use Rattle.tact_base.proofs.ListLemmas.{map_range_agree, get_or-map_range}
use Rattle.tact_base.specs.Admission.{Hindrance, lent, unordered, stale, hindrance, wanted_moment}
use Rattle.tact_base.specs.Covers.{least_of, least_stamp, slowest, first_late}
use Rattle.tact_base.specs.Images.{image_of, ops_of}
use Rattle.tact_base.specs.Setup.{Setup, replicas_of, peers_of}
use Rattle.tact_base.specs.Sums.{net_sum, order_sum}
use Rattle.tact_base.specs.WriteOrder.{tentative_past}
use Rattle.tact_base.specs.declared.conit_list.Need.{Need}
use Rattle.tact_base.specs.declared.write.Cover.{Cover}
use Rattle.tact_base.specs.declared.write.Late.{Late}
use Rattle.tact_base.specs.declared.write.Write.{Write}
use Rattle.tact_base.specs.declared.limits.TheConstants.{ALPHA_MAX}
use Rattle.access_gate.specs.Verdicts.{AreOuts, admission}
use Rattle.access_gate.specs.declared.gate.Facts.{Facts}
use Rattle.split_budget.specs.Budgets.{out, all_out}
use Rattle.run_model.specs.Histories.{last_moment}
use Rattle.run_model.specs.Order.{tentative}
use Rattle.run_model.specs.Ranges.{IsNeedInRange}
use Rattle.run_model.specs.Replies as model
use Rattle.run_model.specs.Replies.{first_some, waiting_by, outs_of, reply_of}
use Rattle.run_model.specs.Taking.{cover_of, covers_of}
use Rattle.run_model.specs.declared.call.Reply.{Reply}
use Rattle.run_model.specs.declared.call.Reply.TheVariants as reply
use Rattle.run_model.specs.declared.call.Request.TheVariants as request
use Rattle.run_model.specs.declared.entry.Entry.{Entry}
use Rattle.run_model.proofs.SoundViews.{cover_of-same, cover_of-other}
use Rattle.run_promises.proofs.FirstReplies.{first_some-agree}
use Rattle.run_promises.proofs.FreeCalls.{sum-outs}
use Rattle.replica_core.specs.Reading.{out_at, need_refusal, read_reply, waiting_as}
use Rattle.replica_core.specs.States.{Core, HasBudgets}
use Rattle.replica_core.specs.Stands.{Stands}
use Rattle.replica_core.proofs.BudgetViews.{out-part}
use Rattle.replica_core.proofs.StandsByPlace.{stamps_of}

-- the slowest is named by the stamps alone
position-stamps : (p : ℕ → Bool) (covers : List Cover)
    → position_or_len (λ (cover : Cover). p cover.stamp) covers ≡ position_or_len p (stamps_of covers)
position-stamps p [] = refl
position-stamps p (cover ∷ covers) = ap (λ (n : ℕ). cond (not (p cover.stamp)) (1 + n) 0) (position-stamps p covers)

slowest-stamps : (xs ys : List Cover)
    → stamps_of xs ≡ stamps_of ys
    → slowest xs ≡ slowest ys
slowest-stamps xs ys same =
    position-stamps (λ stamp. stamp == least_stamp xs) xs
    ∙ ap₂ (λ (least : ℕ) (stamps : List ℕ). position_or_len (λ stamp. stamp == least) stamps) (ap (λ (stamps : List ℕ). least_of stamps) same) same
    ∙ sym (position-stamps (λ stamp. stamp == least_stamp ys) ys)

-- the first late peer doesn't depend on the replica's own cover
module _ (f g : ℕ → Cover) (replica wanted : ℕ) (agree : (k : ℕ) → (k ≡ replica → ⊥) → f k ≡ g k) where
  abbrev is_late : ℕ × Cover → Bool
  is_late peer = not (peer.0 == replica) && nat_lt peer.1.moment wanted

  found-agree : (start len : ℕ)
      → find is_late (enumerate_from start (map f (range_with_len start len))) ≡ find is_late (enumerate_from start (map g (range_with_len start len)))
  found-agree start zero = refl
  found-agree start (suc len) = go (cases_eq start replica) (found-agree (start + 1) len)
    where
      go : (start ≡ replica) ⊎ (start ≡ replica → ⊥)
          → find is_late (enumerate_from (start + 1) (map f (range_with_len (start + 1) len))) ≡ find is_late (enumerate_from (start + 1) (map g (range_with_len (start + 1) len)))
          → find is_late (enumerate_from start (map f (range_with_len start (suc len)))) ≡ find is_late (enumerate_from start (map g (range_with_len start (suc len))))
      go (inl own) rest = rw (eq-eqb start replica own) rest
      go (inr other) rest = rw (agree start other, rest) refl

  first_late-agree : (len : ℕ) → first_late (map f (range_with_len 0 len)) replica wanted ≡ first_late (map g (range_with_len 0 len)) replica wanted
  first_late-agree len =
      ap (λ (found : Option (ℕ × Cover)). option_map {U = Late} (λ (late : ℕ × Cover). record { replica = late.0; moment = late.1.moment }) found) (found-agree 0 len)

-- the verdict on one need, as a reply
pub waiting_as-one : (moment : ℕ) (need : Need) (facts : Facts)
    → waiting_as (admission moment (need ∷ []) (facts ∷ [])) ≡ option_map (waiting_by need moment) (hindrance need facts.outs facts.tentative facts.slowest facts.late)
waiting_as-one moment need facts = go (hindrance need facts.outs facts.tentative facts.slowest facts.late) refl
  where
    go : (found : Option Hindrance)
        → hindrance need facts.outs facts.tentative facts.slowest facts.late ≡ found
        → waiting_as (admission moment (need ∷ []) (facts ∷ [])) ≡ option_map (waiting_by need moment) found
    go None is = rw is refl
    go (Some (lent holder out total)) is = rw is refl
    go (Some (unordered replica tentative)) is = rw is refl
    go (Some (stale late)) is = rw is refl

-- what the replicas have of its bound: its own is 0, and all are within a limit, where the peers together are
pub AreOuts-kept : (core : Core)
    → HasBudgets core
    → core.replica < core.setup.replicas
    → (conit : ℕ)
    → all_out core.budgets conit ≤ ALPHA_MAX
    → AreOuts core.setup.replicas (map (out_at core conit) (range_with_len 0 core.setup.replicas))
AreOuts-kept core budgets among conit few =
    let size = length-map-range_with_len (out_at core conit) 0 core.setup.replicas in
    let own : out_at core conit core.replica ≡ 0 = ap (λ (yes : Bool). cond yes 0 (out core.budgets core.replica conit)) (eq-eqb core.replica core.replica refl) in
    let all : sum (map (out_at core conit) (replicas_of core.setup)) ≡ all_out core.budgets conit =
    sum-outs (λ holder. out core.budgets holder conit) core.replica (replicas_of core.setup)
    ∙ sym (ap₂ (λ (s : Setup) (r : ℕ). sum (map (λ peer. out core.budgets peer conit) (peers_of s r))) budgets.setup budgets.replica) in
    (size, (core.replica, omega (arith, size, among), get_or-map_range (out_at core conit) core.setup.replicas core.replica 0 among ∙ own), omega (arith, all, few))

module _ (part : List Entry) (core : Core) (stands : Stands part core) (budgets : HasBudgets core) (moment : ℕ) where
  abbrev setup : Setup
  setup = core.setup

  abbrev replica : ℕ
  replica = core.replica

  outs-part : (conit : ℕ)
      → conit < setup.conits
      → map (out_at core conit) (range_with_len 0 setup.replicas) ≡ outs_of setup replica part conit
  outs-part conit within = map_range_agree (out_at core conit) _ setup.replicas (λ holder holder_in. ⊎_elim
      (λ (own : holder ≡ replica). rw (eq-eqb holder replica own) refl)
      (λ (other : holder ≡ replica → ⊥). rw (ne_eqb holder replica other) (out-part setup replica part core.budgets stands.budgets budgets.setup budgets.replica holder conit holder_in other within))
      (cases_eq holder replica))

  slowest-part : slowest core.writes.covers ≡ slowest (covers_of setup replica part moment)
  slowest-part =
      ap slowest stands.writes.covers
      ∙ slowest-stamps (covers_of setup replica part (last_moment part)) (covers_of setup replica part moment) stamps
    where
      stamp_at : (k : ℕ) → (cover_of replica part (last_moment part) k).stamp ≡ (cover_of replica part moment k).stamp
      stamp_at k = ⊎_elim
          (λ (same : k ≡ replica). rw (same, cover_of-same replica part (last_moment part), cover_of-same replica part moment) refl)
          (λ (differ : k ≡ replica → ⊥). rw (cover_of-other replica part (last_moment part) k differ, cover_of-other replica part moment k differ) refl)
          (cases_eq k replica)

      mapped : (at : ℕ) (xs : List ℕ) → stamps_of (map (cover_of replica part at) xs) ≡ map (λ k. (cover_of replica part at k).stamp) xs
      mapped at [] = refl
      mapped at (x ∷ xs) = ap (λ (rest : List ℕ). (cover_of replica part at x).stamp ∷ rest) (mapped at xs)

      stamps : stamps_of (covers_of setup replica part (last_moment part)) ≡ stamps_of (covers_of setup replica part moment)
      stamps =
          mapped (last_moment part) (replicas_of setup)
          ∙ map_range_agree (λ k. (cover_of replica part (last_moment part) k).stamp) (λ k. (cover_of replica part moment k).stamp) setup.replicas (λ k within. stamp_at k)
          ∙ sym (mapped moment (replicas_of setup))

  late-part : (wanted : ℕ)
      → first_late core.writes.covers replica wanted ≡ first_late (covers_of setup replica part moment) replica wanted
  late-part wanted =
      ap (λ (covers : List Cover). first_late covers replica wanted) stands.writes.covers
      ∙ first_late-agree (cover_of replica part (last_moment part)) (cover_of replica part moment) replica wanted
      (λ k other. cover_of-other replica part (last_moment part) k other ∙ sym (cover_of-other replica part moment k other)) setup.replicas

  tentative-part : tentative_past core.writes.point core.writes.seen ≡ tentative setup replica part
  tentative-part = ap₂ tentative_past stands.writes.point stands.writes.seen

  need_refusal-part : (need : Need)
      → need.conit < setup.conits
      → need_refusal core moment need ≡ model.need_refusal setup replica part moment need
  need_refusal-part need within =
      let found = λ (outs : List ℕ) (weight slow : ℕ) (late : Option Late). option_map (waiting_by need moment) (hindrance need outs weight slow late) in
      let late = first_late core.writes.covers replica (wanted_moment moment need) in
      let weight = order_sum (tentative_past core.writes.point core.writes.seen) need.conit in
      ap (λ (outs : List ℕ). found outs weight (slowest core.writes.covers) late) (outs-part need.conit within)
      ∙ ap₂ (λ (ws : List Write) (slow : ℕ). found (outs_of setup replica part need.conit) (order_sum ws need.conit) slow late) tentative-part slowest-part
      ∙ ap (found (outs_of setup replica part need.conit) (order_sum (tentative setup replica part) need.conit) (slowest (covers_of setup replica part moment))) (late-part (wanted_moment moment need))

  pub read_reply-part : (key : ℕ) (needs : List Need)
      → All (IsNeedInRange setup) needs
      → read_reply core moment key needs ≡ reply_of setup replica part moment (request.Read key needs)
  read_reply-part key needs in_range =
      ap₂ (λ (first : Option Reply) (seen : List Write). unwrap_or first (reply.Value (image_of (ops_of seen) key) (map (λ (need : Need). net_sum seen need.conit) needs)))
      (first_some-agree (need_refusal core moment) (model.need_refusal setup replica part moment) needs
      (All-weaker (IsNeedInRange setup) (λ (need : Need). need_refusal core moment need ≡ model.need_refusal setup replica part moment need)
      (λ need range. need_refusal-part need range.conit) needs in_range))
      stands.writes.seen
