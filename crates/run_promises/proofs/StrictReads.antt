-- In a run a read that was answered under a strict need was told the truth.
use Rattle.std.proofs.Common.{◌≡◌, ℕ, ◌-◌, ◌≤◌, ℤ, ◌-ℤ◌, unsigned_abs, List, [], ◌∷◌, ◌++◌, get_or, map, All, Option, unwrap_or, refl, sym, ap, ◌∙◌, subst, arith}
use Rattle.std.specs.List.{AllZip}
use Rattle.std.proofs.lemmas.Int.{ints}
use Rattle.std.proofs.lemmas.List.Elements.{All-head, All-tail}
use Rattle.tact_base.specs.Setup.{Setup}
use Rattle.tact_base.specs.Sums.{net_sum}
use Rattle.tact_base.specs.declared.conit_list.Need.{Need}
use Rattle.tact_base.specs.declared.write.Write.{Write}
use Rattle.run_model.specs.Histories.{part_of}
use Rattle.run_model.specs.Order.{value, image}
use Rattle.run_model.specs.Promises.{IsMet, MeetsNeeds}
use Rattle.run_model.specs.Reference.{reference, Misses}
use Rattle.run_model.specs.Replies.{reply_of}
use Rattle.run_model.specs.Runs.{IsLawful}
use Rattle.run_model.specs.declared.call.Reply.{Reply}
use Rattle.run_model.specs.declared.call.Reply.TheVariants as reply
use Rattle.run_model.specs.declared.call.Request.TheVariants as request
use Rattle.run_model.specs.declared.entry.Act.{Act}
use Rattle.run_model.specs.declared.entry.Act.TheVariants as act
use Rattle.run_model.specs.declared.entry.Entry.{Entry}
use Rattle.run_promises.specs.Conclusions.{IsStrict, IsTruth, TellsTruth}
use Rattle.run_promises.proofs.Answered.{answered-unrefused}
use Rattle.run_promises.proofs.IdleEntries.{idle-seen}

-- numbers that are no distance apart
no_distance : (one other : ℤ)
    → unsigned_abs (one -ℤ other) ≤ 0
    → other ≡ one
no_distance one other none = omega (arith, ints)

-- what holds of each element and what a function gives of it
AllZip-from_map : {A B : Type 0} (R : A → B → Type 0) (f : A → B) (xs : List A)
    → All (λ x. R x (f x)) xs
    → AllZip R xs (map f xs)
AllZip-from_map R f [] all = tt
AllZip-from_map R f (x ∷ xs) all =
    (All-head (λ x. R x (f x)) x xs all, AllZip-from_map R f xs (All-tail (λ x. R x (f x)) x xs all))

-- the sums that a read was answered with are the values of its conits
answered-sums : (setup : Setup) (replica : ℕ) (part : List Entry) (moment key : ℕ) (needs : List Need) (answer : ℤ) (sums : List ℤ)
    → reply.Value answer sums ≡ reply_of setup replica part moment (request.Read key needs)
    → sums ≡ map (λ (need : Need). value setup replica part need.conit) needs
answered-sums setup replica part moment key needs answer sums is =
    let values = map (λ (need : Need). value setup replica part need.conit) needs in
    let none = answered-unrefused setup replica part moment key needs answer sums is in
    let told : reply.Value answer sums ≡ reply.Value (image setup replica part key) values =
    is ∙ ap (λ (first : Option Reply). unwrap_or first (reply.Value (image setup replica part key) values)) none in
    cc

-- A read that was answered, and the history that ends with it.
module _ (setup : Setup) (history : List Entry) (replica moment client number key : ℕ) (needs : List Need) (answer : ℤ) (sums : List ℤ) where
  abbrev entry : Entry
  entry = record { replica = replica; moment = moment; act = act.Call client number (request.Read key needs) (reply.Value answer sums) }

  abbrev further : List Entry
  further = history ++ entry ∷ []

  strict : (need : Need)
      → IsMet setup further replica moment need
      → IsStrict need
      → IsTruth setup further replica moment need.conit (value setup replica (part_of history replica) need.conit)
  strict need met allows =
      let same : value setup replica (part_of further replica) need.conit ≡ value setup replica (part_of history replica) need.conit =
      ap (λ (writes : List Write). net_sum writes need.conit) (idle-seen setup history entry refl refl replica) in
      let now : moment - need.stale ≡ moment = omega (arith, allows.stale) in
      record {
        value = sym same ∙ no_distance (reference setup further need.conit) (value setup replica (part_of further replica) need.conit) (omega (arith, met.num, allows.num));
        order = omega (arith, met.order, allows.order);
        stale = subst (λ (wanted : ℕ). Misses setup further replica wanted → ⊥) now met.stale;
      }

  pub told : IsLawful setup history entry
      → All (IsMet setup further replica moment) needs
      → AllZip (λ need sum. IsStrict need → IsTruth setup further replica moment need.conit sum) needs sums
  told lawful met =
      let f = λ (need : Need). value setup replica (part_of history replica) need.conit in
      let R = λ (need : Need) (sum : ℤ). IsStrict need → IsTruth setup further replica moment need.conit sum in
      subst (AllZip R needs) (sym (answered-sums setup replica (part_of history replica) moment key needs answer sums lawful.due.act.1))
      (AllZip-from_map R f needs (λ k d within. strict (get_or needs k d) (met k d within)))

pub TellsTruth-from : (setup : Setup) (history : List Entry) (replica moment : ℕ) (done : Act)
    → IsLawful setup history (record { replica = replica; moment = moment; act = done })
    → MeetsNeeds setup (history ++ record { replica = replica; moment = moment; act = done } ∷ []) replica moment done
    → TellsTruth setup (history ++ record { replica = replica; moment = moment; act = done } ∷ []) replica moment done
TellsTruth-from setup history replica moment (act.Call client number (request.Read key needs) (reply.Value answer sums)) lawful met =
    told setup history replica moment client number key needs answer sums lawful met
TellsTruth-from setup history replica moment other lawful met = tt
