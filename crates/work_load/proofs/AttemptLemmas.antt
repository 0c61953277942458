-- The calls for items, one after the other.
use Rattle.std.proofs.Common.{◌≡◌, ℕ, List, [], ◌∷◌, ◌++◌, length, refl, sym, ap, subst, ◌∙◌, arith}
use Rattle.std.specs.List.{slice_get}
use Rattle.std.proofs.lemmas.List.{append-nil, append_assoc, take_all}
use Rattle.run_model.specs.declared.entry.Entry.{Entry}
use Rattle.work_load.specs.Attempts.{AreBegunFor, AreCallsFor, Attempts, AttemptsAfter, Begun, asked}
use Rattle.work_load.specs.declared.plan.Item.{Item}

-- one more item
attempts_after-push : (tries : ℕ) (before : List Entry) (items : List Item) (item : Item) (calls tried : List Entry)
    → AttemptsAfter tries before items calls
    → AreCallsFor tries (asked (before ++ calls) item) tried
    → AttemptsAfter tries before (items ++ item ∷ []) (calls ++ tried)
attempts_after-push tries before [] item calls tried done more =
    let none : before ++ calls ≡ before = ap (λ (cs : List Entry). before ++ cs) done ∙ append-nil before in (
      tried,
      [],
      ap (λ (cs : List Entry). cs ++ tried) done ∙ sym (append-nil tried),
      subst (λ (cs : List Entry). AreCallsFor tries (asked cs item) tried) none more,
      refl,
    )
attempts_after-push tries before (first ∷ items) item calls tried done more =
    let front = done.0 in
    let rest = done.1 in
    let all : before ++ calls ≡ (before ++ front) ++ rest =
    ap (λ (cs : List Entry). before ++ cs) done.2 ∙ sym (append_assoc before front rest) in (
      front,
      rest ++ tried,
      ap (λ (cs : List Entry). cs ++ tried) done.2 ∙ append_assoc front rest tried,
      done.3,
      attempts_after-push tries (before ++ front) items item rest tried done.4
          (subst (λ (cs : List Entry). AreCallsFor tries (asked cs item) tried) all more),
    )

pub attempts-push : (tries : ℕ) (items : List Item) (item : Item) (calls tried : List Entry)
    → Attempts tries items calls
    → AreCallsFor tries (asked calls item) tried
    → Attempts tries (items ++ item ∷ []) (calls ++ tried)
attempts-push tries items item calls tried done more = attempts_after-push tries [] items item calls tried done more

-- behind the last item there is none
no_more : (tries : ℕ) (calls : List Entry) (items : List Item)
    → AreBegunFor tries calls (slice_get items (length items)) []
no_more tries calls [] = refl
no_more tries calls (item ∷ items) = no_more tries calls items

pub Begun-from_Attempts : (tries : ℕ) (items : List Item) (calls : List Entry)
    → Attempts tries items calls
    → Begun tries items calls
Begun-from_Attempts tries items calls done = record {
  done = length items;
  front = calls;
  rest = [];
  among = omega arith;
  all = sym (append-nil calls);
  attempts = subst (λ (xs : List Item). Attempts tries xs calls) (sym (take_all (length items) items (omega arith))) done;
  begun = no_more tries calls items;
}
