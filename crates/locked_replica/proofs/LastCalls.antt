-- A client's last call in a part.
use Rattle.std.proofs.Common.{◌≡◌, ◌+◌, ◌<◌, ℕ, suc, Bool, true, false, cond, List, [], ◌∷◌, ◌++◌, All, drop, filter, get_or, length, take, sym, ap, ◌∙◌, subst, arith}
use Rattle.std.proofs.lemmas.List.{get_or-drop, length-drop, take-append-drop}
use Rattle.std.proofs.lemmas.List.Elements.{filter-append}
use Rattle.std.proofs.Math.Seq.{drop-cons}
use Rattle.tact_base.proofs.ListLemmas.{filter_none}
use Rattle.run_model.specs.Histories.{is_call_of}
use Rattle.run_model.specs.declared.call.Reply.{Reply}
use Rattle.run_model.specs.declared.call.Request.{Request}
use Rattle.run_model.specs.declared.entry.Act.{Act}
use Rattle.run_model.specs.declared.entry.Act.TheVariants as act
use Rattle.run_model.specs.declared.entry.Entry.{Entry}
use Rattle.locked_replica.specs.Restarting.{IsCallWith, IsLastCall}

-- a call has its number
numbered : (client : ℕ) (asked : Request) (given : Reply) (done : Act)
    → IsCallWith client asked given done
    → (number : ℕ) × (done ≡ act.Call client number asked given)
numbered client asked given (act.Call who number request reply) (same, asks, gives) = (number, cc)
numbered client asked given (act.Send message) none = absurd none
numbered client asked given (act.Take message) none = absurd none
numbered client asked given (act.Lend holder conit amount) none = absurd none
numbered client asked given (act.Back owner conit amount) none = absurd none
numbered client asked given act.Restart none = absurd none

-- the call at a place behind which there is none
pub last_at : (part : List Entry) (client : ℕ) (asked : Request) (given : Reply) (place : ℕ) (none : Entry)
    → place < length part
    → is_call_of client (get_or part place none).act ≡ true
    → ((k : ℕ) (d : Entry) → place < k → k < length part → is_call_of client (get_or part k d).act ≡ false)
    → IsCallWith client asked given (get_or part place none).act
    → IsLastCall part client asked given
last_at part client asked given place none within is_call behind is =
    let test = λ (e : Entry). is_call_of client e.act in
    let entry = get_or part place none in
    let call = numbered client asked given entry.act is in
    let rest = drop (suc place) part in
    let size = length-drop (suc place) part in
    let others : filter test rest ≡ [] =
    filter_none test rest
    (λ k d inside.
    ap (λ (e : Entry). is_call_of client e.act) (get_or-drop (suc place) part k d)
    ∙ behind (suc place + k) d (omega arith) (omega (arith, inside, size))) in
    record {
      front = filter test (take place part);
      entry = entry;
      number = call.0;
      call = call.1;
      last =
          ap (filter test) (sym (take-append-drop place part) ∙ ap (λ xs. take place part ++ xs) (drop-cons part place none within))
          ∙ filter-append test (take place part) (entry ∷ rest)
          ∙ ap (λ (b : Bool). filter test (take place part) ++ cond b (entry ∷ filter test rest) (filter test rest)) is_call
          ∙ ap (λ xs. filter test (take place part) ++ entry ∷ xs) others;
    }
