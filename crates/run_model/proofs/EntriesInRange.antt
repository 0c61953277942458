-- In a run each entry is in range, and so is each message that was sent, and what own writes ask for; all that was lent
-- and returned is within its limit.
use Rattle.std.proofs.Common.{◌≡◌, ℕ, ◌+◌, ◌<◌, ◌≤◌, ◌==◌, ◌&&◌, Bool, true, false, cond, List, [], ◌∷◌, ◌++◌, get_or, take, drop, sum_by, All, Option, None, Some, refl, sym, ap, ◌∙◌, subst, arith}
use Rattle.std.specs.List.{filter_map, cons_option}
use Rattle.std.proofs.lemmas.List.{take-append-drop, drop_more}
use Rattle.std.proofs.lemmas.List.Elements.{All-nil, All-cons, All-head, All-tail, All-weaker, All-filter}
use Rattle.std.proofs.lemmas.List.Sums.{get_or-le-sum_by}
use Rattle.std.proofs.lemmas.Option.{same_Some}
use Rattle.tact_base.proofs.ListLemmas.{All-one}
use Rattle.tact_base.specs.declared.limits.TheConstants.{AMOUNT_MAX, ALPHA_MAX}
use Rattle.tact_base.specs.declared.conit_list.Weight.{Weight}
use Rattle.tact_base.specs.declared.write.Op.{Op}
use Rattle.tact_base.specs.declared.write.Write.{Write}
use Rattle.tact_base.specs.Setup.{Setup, IsSetup, loans_of, loan_of}
use Rattle.run_model.specs.Histories.{part_of, sent_in, sent_by_act}
use Rattle.run_model.specs.Loans.{lent_by_act, returned_by_act}
use Rattle.run_model.specs.OwnWrites.{asked_write, done_as, accepted_as, accepted_by}
use Rattle.run_model.specs.Ranges.{IsOpInRange, IsWeightInRange, AreWeightsInRange, IsRequestInRange, IsMessageInRange, IsActInRange, IsEntryInRange}
use Rattle.run_model.specs.Runs.{IsRun}
use Rattle.run_model.specs.declared.call.Request.{Request}
use Rattle.run_model.specs.declared.call.Request.TheVariants as request
use Rattle.run_model.specs.declared.call.Reply.{Reply}
use Rattle.run_model.specs.declared.entry.Act.{Act}
use Rattle.run_model.specs.declared.entry.Act.TheVariants as act
use Rattle.run_model.specs.declared.entry.Entry.{Entry}
use Rattle.run_model.specs.declared.entry.Message.{Message}
use Rattle.tact_base.proofs.SetupLemmas.{HasCounts-from_IsSetup, HasRow-from_IsSetup, length-loans_of}
use Rattle.run_model.proofs.PartLemmas.{sent_by}

-- what a filter gives of elements that each give what holds
All-filter_map : {X Y : Type 0} (P : Y → Type 0) (f : X → Option Y) (xs : List X)
    → All (λ x. (y : Y) → f x ≡ Some y → P y) xs
    → All P (filter_map f xs)
All-filter_map {X} {Y} P f [] all = All-nil P
All-filter_map {X} {Y} P f (x ∷ xs) all =
    go (f x) (All-head (λ x. (y : Y) → f x ≡ Some y → P y) x xs all) (All-filter_map P f xs (All-tail (λ x. (y : Y) → f x ≡ Some y → P y) x xs all))
  where
    go : (here : Option Y)
        → ((y : Y) → here ≡ Some y → P y)
        → All P (filter_map f xs)
        → All P (cons_option here (filter_map f xs))
    go None given rest = rest
    go (Some y) given rest = All-cons P y (filter_map f xs) (given y refl) rest

-- each entry of a run is in range
pub entries_in_range : (setup : Setup) (history : List Entry)
    → IsRun setup history
    → All (IsEntryInRange setup) history
entries_in_range setup history run place d within =
    (run (take place history) (drop (place + 1) history) (get_or history place d)
    (sym (take-append-drop place history) ∙ ap (λ rest. take place history ++ rest) (drop_more history place d within))).due.in_range

pub part_in_range : (setup : Setup) (history : List Entry)
    → IsRun setup history
    → (replica : ℕ)
    → All (IsEntryInRange setup) (part_of history replica)
part_in_range setup history run replica = All-filter (λ (entry : Entry). entry.replica == replica) (IsEntryInRange setup) history (entries_in_range setup history run)

-- the messages that were sent
sent_act : (setup : Setup) (replica : ℕ) (done : Act) (message : Message)
    → IsActInRange setup replica done
    → sent_by_act done ≡ Some message
    → IsMessageInRange setup message
sent_act setup replica (act.Send sent) message within some = subst (IsMessageInRange setup) (same_Some sent message some) within.0
sent_act setup replica (act.Call client number asked given) message within some = cc
sent_act setup replica (act.Take taken) message within some = cc
sent_act setup replica (act.Lend to conit amount) message within some = cc
sent_act setup replica (act.Back owner conit amount) message within some = cc
sent_act setup replica act.Restart message within some = cc

pub sent_in_range : (setup : Setup) (history : List Entry)
    → IsRun setup history
    → (replica : ℕ)
    → All (IsMessageInRange setup) (sent_in (part_of history replica))
sent_in_range setup history run replica =
    let P = λ (entry : Entry). (message : Message) → sent_by entry ≡ Some message → IsMessageInRange setup message in
    All-filter_map (IsMessageInRange setup) sent_by (part_of history replica)
    (All-weaker (IsEntryInRange setup) P (λ entry within message some. sent_act setup entry.replica entry.act message within.act some) (part_of history replica)
    (part_in_range setup history run replica))

-- what a write asks for
pub record IsAskedInRange (setup : Setup) (write : Write) : Type 0 where
  pub weights : AreWeightsInRange setup write.weights
  pub op : IsOpInRange write.op

one_weight : (setup : Setup) (weight : Weight)
    → IsWeightInRange setup weight
    → AreWeightsInRange setup (weight ∷ [])
one_weight setup weight within = record { each = All-one (IsWeightInRange setup) weight within; listed = refl }

accepted_as-asked : (setup : Setup) (replica at : ℕ) (asked : List Weight × Op) (numbers : Option (ℕ × ℕ)) (write : Write)
    → AreWeightsInRange setup asked.0
    → IsOpInRange asked.1
    → accepted_as replica at (Some asked) numbers ≡ Some write
    → IsAskedInRange setup write
accepted_as-asked setup replica at asked None write weights op some = cc
accepted_as-asked setup replica at asked (Some numbers) write weights op some =
    subst (IsAskedInRange setup) (same_Some (record { origin = replica; index = numbers.0; stamp = numbers.1; moment = at; weights = asked.0; op = asked.1 }) write some)
    (record { weights = weights; op = op })

called_is_asked : (setup : Setup) (replica at : ℕ) (asked : Request) (given : Reply) (write : Write)
    → IsRequestInRange setup asked
    → accepted_as replica at (asked_write asked) (done_as given) ≡ Some write
    → IsAskedInRange setup write
called_is_asked setup replica at (request.Write weights op) given write within some = accepted_as-asked setup replica at (weights, op) (done_as given) write within.0 within.1 some
called_is_asked setup replica at (request.Held weight op) given write within some =
    accepted_as-asked setup replica at (weight ∷ [], op) (done_as given) write (one_weight setup weight within.0) within.1 some
called_is_asked setup replica at (request.Reserve conit amount) given write within some = cc
called_is_asked setup replica at (request.Release conit amount) given write within some = cc
called_is_asked setup replica at (request.Read key needs) given write within some = cc

pub acted_is_asked : (setup : Setup) (replica at : ℕ) (done : Act) (write : Write)
    → IsActInRange setup replica done
    → accepted_by replica at done ≡ Some write
    → IsAskedInRange setup write
acted_is_asked setup replica at (act.Call client number asked given) write within some = called_is_asked setup replica at asked given write within.1 some
acted_is_asked setup replica at (act.Send message) write within some = cc
acted_is_asked setup replica at (act.Take message) write within some = cc
acted_is_asked setup replica at (act.Lend to conit amount) write within some = cc
acted_is_asked setup replica at (act.Back owner conit amount) write within some = cc
acted_is_asked setup replica at act.Restart write within some = cc

-- an amount or nothing
amount_or_none : (yes : Bool) (amount : ℕ) → amount ≤ AMOUNT_MAX → cond yes amount 0 ≤ AMOUNT_MAX
amount_or_none true amount within = within
amount_or_none false amount within = omega arith

pub lent_by-most : (setup : Setup) (replica holder conit : ℕ) (done : Act)
    → IsActInRange setup replica done
    → lent_by_act holder conit done ≤ AMOUNT_MAX
lent_by-most setup replica holder conit (act.Lend to at amount) within = amount_or_none (to == holder && at == conit) amount within.3
lent_by-most setup replica holder conit (act.Call client number asked given) within = omega arith
lent_by-most setup replica holder conit (act.Send message) within = omega arith
lent_by-most setup replica holder conit (act.Take message) within = omega arith
lent_by-most setup replica holder conit (act.Back owner at amount) within = omega arith
lent_by-most setup replica holder conit act.Restart within = omega arith

pub returned_by-most : (setup : Setup) (replica owner conit : ℕ) (done : Act)
    → IsActInRange setup replica done
    → returned_by_act owner conit done ≤ AMOUNT_MAX
returned_by-most setup replica owner conit (act.Back to at amount) within = amount_or_none (to == owner && at == conit) amount within.3
returned_by-most setup replica owner conit (act.Call client number asked given) within = omega arith
returned_by-most setup replica owner conit (act.Send message) within = omega arith
returned_by-most setup replica owner conit (act.Take message) within = omega arith
returned_by-most setup replica owner conit (act.Lend to at amount) within = omega arith
returned_by-most setup replica owner conit act.Restart within = omega arith

-- an opening loan is at most the alpha that it is lent of
pub loan_of-most : (setup : Setup)
    → IsSetup setup
    → (owner conit holder : ℕ)
    → owner < setup.replicas
    → conit < setup.conits
    → holder < setup.replicas
    → loan_of setup owner conit holder ≤ ALPHA_MAX
loan_of-most setup good owner conit holder owner_in conit_in holder_in =
    let row = HasRow-from_IsSetup setup good owner conit owner_in conit_in in
    let size = length-loans_of setup (HasCounts-from_IsSetup setup good) owner conit owner_in conit_in in
    let one : loan_of setup owner conit holder ≤ sum_by (λ (n : ℕ). n) (loans_of setup owner conit) = get_or-le-sum_by (λ (n : ℕ). n) (loans_of setup owner conit) holder 0 (omega (arith, size)) in
    omega (arith, one, row.total, row.alpha)
