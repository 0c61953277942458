-- The own writes of a part stay in order, since what it accepts is later than all of them.
use Rattle.std.proofs.Common.{◌≡◌, ℕ, ◌<◌, ◌≤◌, List, [], ◌∷◌, ◌++◌, length, All, Option, None, Some, refl, sym, ap, ◌∙◌, subst, ⊎_elim, le_of_eq, arith}
use Rattle.std.proofs.lemmas.Bool.{cases_lt}
use Rattle.std.proofs.lemmas.List.{length_push, get_or_append_left, get_or_push}
use Rattle.std.proofs.lemmas.List.Elements.{All-push, All-weaker}
use Rattle.std.proofs.lemmas.List.Quantifiers.{all_pairs_push}
use Rattle.tact_base.specs.declared.write.Write.{Write}
use Rattle.tact_base.specs.Setup.{Setup}
use Rattle.run_model.specs.Histories.{last_moment}
use Rattle.run_model.specs.OwnWrites.{own}
use Rattle.run_model.specs.Taking.{clock}
use Rattle.run_model.specs.Runs.{IsDue}
use Rattle.run_model.specs.declared.entry.Entry.{Entry}
use Rattle.run_model.proofs.PartLemmas.{accepted_in, own-push_none, own-push_some, last_moment-push}
use Rattle.run_model.proofs.ClockLemmas.{own-le-clock}
use Rattle.run_model.proofs.Accepted.{accepted_is_next}
use Rattle.run_model.proofs.Sound.{AreNumbered, IsNumbered}

-- one more write, later than those before it
AreNumbered-push : (replica : ℕ) (writes : List Write) (write : Write)
    → write.origin ≡ replica
    → write.index ≡ length writes
    → All (λ (earlier : Write). earlier.stamp < write.stamp) writes
    → All (λ (earlier : Write). earlier.moment ≤ write.moment) writes
    → 1 ≤ write.stamp
    → AreNumbered replica writes
    → AreNumbered replica (writes ++ write ∷ [])
AreNumbered-push replica writes write origin index above after least in_order = record {
  origins = All-push (λ (w : Write). w.origin ≡ replica) writes write in_order.origins origin;
  indices = λ place d within. ⊎_elim
      (λ (earlier : place < length writes). rw (get_or_append_left writes (write ∷ []) d place earlier) (in_order.indices place d earlier))
      (λ (last : length writes ≤ place).
      let at : length writes ≡ place = omega (arith, length_push writes write) in
      ap (λ (w : Write). w.index) (get_or_push writes write d place at) ∙ index ∙ at)
      (cases_lt place (length writes));
  stamps = all_pairs_push (λ (one other : Write). one.stamp < other.stamp) writes write in_order.stamps above;
  moments = all_pairs_push (λ (one other : Write). one.moment ≤ other.moment) writes write in_order.moments after;
  stamps_least = All-push (λ (w : Write). 1 ≤ w.stamp) writes write in_order.stamps_least least;
}

-- One more entry of a part.
module _ (setup : Setup) (part : List Entry) (entry : Entry) (due : IsDue setup part entry) (sound : IsNumbered entry.replica part) where
  writes-push : (accepted : Option Write)
      → accepted_in entry ≡ accepted
      → AreNumbered entry.replica (own (part ++ entry ∷ []))
  writes-push None none = subst (AreNumbered entry.replica) (sym (own-push_none part entry none)) sound.writes
  writes-push (Some write) some =
      let next = accepted_is_next setup part entry write due some in
      subst (AreNumbered entry.replica) (sym (own-push_some part entry write some))
      (AreNumbered-push entry.replica (own part) write next.origin next.index
      (All-weaker (λ (w : Write). w.stamp ≤ clock part) (λ (w : Write). w.stamp < write.stamp) (λ w below. omega (arith, below, next.stamp)) (own part) sound.stamps_most)
      (All-weaker (λ (w : Write). w.moment ≤ last_moment part) (λ (w : Write). w.moment ≤ write.moment) (λ w before. omega (arith, before, next.moment, due.moment)) (own part) sound.moments_most)
      (omega (arith, next.stamp)) sound.writes)

  moments-push : (accepted : Option Write)
      → accepted_in entry ≡ accepted
      → All (λ (write : Write). write.moment ≤ entry.moment) (own (part ++ entry ∷ []))
  moments-push accepted is =
      let IsBefore = λ (write : Write). write.moment ≤ entry.moment in
      let before : All IsBefore (own part) =
      All-weaker (λ (w : Write). w.moment ≤ last_moment part) IsBefore (λ w before. omega (arith, before, due.moment)) (own part) sound.moments_most in
      go accepted is before
    where
      go : (accepted : Option Write)
          → accepted_in entry ≡ accepted
          → All (λ (write : Write). write.moment ≤ entry.moment) (own part)
          → All (λ (write : Write). write.moment ≤ entry.moment) (own (part ++ entry ∷ []))
      go None none before = subst (All (λ (write : Write). write.moment ≤ entry.moment)) (sym (own-push_none part entry none)) before
      go (Some write) some before =
          subst (All (λ (write : Write). write.moment ≤ entry.moment)) (sym (own-push_some part entry write some))
          (All-push (λ (write : Write). write.moment ≤ entry.moment) (own part) write before (le_of_eq (accepted_is_next setup part entry write due some).moment))

  pub IsNumbered-push : IsNumbered entry.replica (part ++ entry ∷ [])
  IsNumbered-push = record {
    writes = writes-push (accepted_in entry) refl;
    stamps_most = own-le-clock (part ++ entry ∷ []);
    moments_most = subst (λ last. All (λ (write : Write). write.moment ≤ last) (own (part ++ entry ∷ []))) (sym (last_moment-push part entry)) (moments-push (accepted_in entry) refl);
  }
