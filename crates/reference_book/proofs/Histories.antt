-- The book of a history, as it goes on.
use Rattle.std.proofs.Common.{◌≡◌, ℕ, ◌<◌, List, [], ◌∷◌, ◌++◌, length, get_or, set, flat_map, map, Option, None, Some, refl, sym, ap, ◌∙◌, ⊎_elim, arith, get_or-set_same, get_or-set_other}
use Rattle.std.proofs.lemmas.Bool.{cases_eq}
use Rattle.std.proofs.lemmas.List.{same_lists, length-set}
use Rattle.std.proofs.lemmas.List.Elements.{All-weaker}
use Rattle.std.proofs.lemmas.List.Folds.{flat_map-map}
use Rattle.std.proofs.lemmas.List.FromFn.{length-map-range_with_len}
use Rattle.tact_base.proofs.ListLemmas.{get_or-map_range, map_range_agree, length-filter_map}
use Rattle.tact_base.specs.Setup.{Setup, replicas_of}
use Rattle.tact_base.specs.declared.conit_list.Weight.{Weight}
use Rattle.tact_base.specs.declared.write.Op.{Op}
use Rattle.tact_base.specs.declared.write.Write.{Write}
use Rattle.run_model.specs.Histories.{part_of}
use Rattle.run_model.specs.OwnWrites.{own, accepted_as, accepted_by, asked_write, done_as}
use Rattle.run_model.specs.Ranges.{IsWeightInRange}
use Rattle.run_model.specs.Reference.{all_writes}
use Rattle.run_model.specs.Runs.{IsDue}
use Rattle.run_model.specs.declared.call.Reply.{Reply}
use Rattle.run_model.specs.declared.call.Request.{Request}
use Rattle.run_model.specs.declared.entry.Act.{Act}
use Rattle.run_model.specs.declared.entry.Act.TheVariants as act
use Rattle.run_model.specs.declared.entry.Entry.{Entry}
use Rattle.run_model.proofs.Accepted.{IsNext, accepted_is_next}
use Rattle.run_model.proofs.EntriesInRange.{acted_is_asked}
use Rattle.run_model.proofs.PartLemmas.{accepted_in, part_of-push_same, part_of-push_other, own-push_none, own-push_some}
use Rattle.reference_book.specs.Books.{BookState, IsBookOf, IsNextIn, log_in, writes_in, with_accepted}

-- a write is accepted by the replica of its entry
accepted_as-origin : (replica moment : ℕ) (asked : Option (List Weight × Op)) (done : Option (ℕ × ℕ)) (write : Write)
    → accepted_as replica moment asked done ≡ Some write
    → write.origin ≡ replica
accepted_as-origin replica moment (Some asked) (Some done) write some = cc
accepted_as-origin replica moment (Some asked) None write some = cc
accepted_as-origin replica moment None done write some = cc

pub accepted_by-origin : (replica moment : ℕ) (done : Act) (write : Write)
    → accepted_by replica moment done ≡ Some write
    → write.origin ≡ replica
accepted_by-origin replica moment (act.Call client number request reply) write some =
    accepted_as-origin replica moment (asked_write request) (done_as reply) write some
accepted_by-origin replica moment (act.Send message) write some = cc
accepted_by-origin replica moment (act.Take message) write some = cc
accepted_by-origin replica moment (act.Lend to conit amount) write some = cc
accepted_by-origin replica moment (act.Back owner conit amount) write some = cc
accepted_by-origin replica moment act.Restart write some = cc

-- a call that isn't answered Done accepts nothing
accepted_as-undone : (replica moment : ℕ) (asked : Option (List Weight × Op)) (done : Option (ℕ × ℕ))
    → done ≡ None
    → accepted_as replica moment asked done ≡ None
accepted_as-undone replica moment (Some asked) None undone = refl
accepted_as-undone replica moment (Some asked) (Some done) undone = cc
accepted_as-undone replica moment None done undone = refl

pub accepted_by-undone : (replica moment client number : ℕ) (request : Request) (reply : Reply)
    → done_as reply ≡ None
    → accepted_by replica moment (act.Call client number request reply) ≡ None
accepted_by-undone replica moment client number request reply undone =
    accepted_as-undone replica moment (asked_write request) (done_as reply) undone

-- what a replica accepted in a history
abbrev own_in : List Entry → ℕ → List Write
own_in history replica = own (part_of history replica)

-- of a history
module _ (setup : Setup) (history : List Entry) (book : BookState) (is : IsBookOf setup history book) where
  pub length-logs : length book.logs ≡ setup.replicas
  length-logs = ap length is.logs ∙ length-map-range_with_len (own_in history) 0 setup.replicas

  pub log_in-is : (origin : ℕ) → origin < setup.replicas → log_in book origin ≡ own (part_of history origin)
  log_in-is origin within = ap (λ (logs : List (List Write)). get_or logs origin []) is.logs ∙ get_or-map_range (own_in history) setup.replicas origin [] within

  pub writes_in-is : writes_in book ≡ all_writes setup history
  writes_in-is = ap (flat_map (λ (log : List Write). log)) is.logs ∙ flat_map-map (λ (log : List Write). log) (own_in history) (replicas_of setup)

  -- an entry that accepts nothing leaves the book
  pub IsBookOf-quiet : (entry : Entry)
      → accepted_by entry.replica entry.moment entry.act ≡ None
      → IsBookOf setup (history ++ entry ∷ []) book
  IsBookOf-quiet entry none = record {
    conits = is.conits;
    logs =
        is.logs
        ∙ map_range_agree (own_in history) (own_in (history ++ entry ∷ [])) setup.replicas
        (λ origin within. ⊎_elim
        (λ (same : entry.replica ≡ origin).
        sym (ap own (part_of-push_same history entry origin same) ∙ own-push_none (part_of history origin) entry none))
        (λ (other : entry.replica ≡ origin → ⊥). sym (ap own (part_of-push_other history entry origin other)))
        (cases_eq entry.replica origin));
  }

  -- one that accepts a write puts it to those of its replica
  pub IsBookOf-accepted : (entry : Entry) (write : Write)
      → write.origin < length book.logs
      → accepted_by entry.replica entry.moment entry.act ≡ Some write
      → IsBookOf setup (history ++ entry ∷ []) (with_accepted book write)
  IsBookOf-accepted entry write within some =
      let here : write.origin ≡ entry.replica = accepted_by-origin entry.replica entry.moment entry.act write some in
      let more = own_in (history ++ entry ∷ []) in
      let log = log_in book write.origin ++ write ∷ [] in
      record {
        conits = is.conits;
        logs =
            same_lists (set book.logs write.origin log) (map more (replicas_of setup))
            (length-set book.logs write.origin log ∙ length-logs ∙ sym (length-map-range_with_len more 0 setup.replicas))
            (λ origin d below.
            let among : origin < setup.replicas = omega (arith, below, length-set book.logs write.origin log, length-logs) in
            ⊎_elim
            (λ (same : origin ≡ write.origin).
            let accepted : more origin ≡ own_in history origin ++ write ∷ [] =
            ap own (part_of-push_same history entry origin (sym (same ∙ here))) ∙ own-push_some (part_of history origin) entry write some in
            ap (λ (o : ℕ). get_or (set book.logs write.origin log) o d) same
            ∙ get_or-set_same book.logs write.origin log d within
            ∙ ap (λ (o : ℕ). log_in book o ++ write ∷ []) (sym same)
            ∙ ap (λ (ws : List Write). ws ++ write ∷ []) (log_in-is origin among)
            ∙ sym accepted ∙ sym (get_or-map_range more setup.replicas origin d among))
            (λ (other : origin ≡ write.origin → ⊥).
            let kept : more origin ≡ own_in history origin =
            ap own (part_of-push_other history entry origin (λ same. other (sym same ∙ sym here))) in
            get_or-set_other book.logs write.origin origin log d other
            ∙ ap (λ (logs : List (List Write)). get_or logs origin d) is.logs
            ∙ get_or-map_range (own_in history) setup.replicas origin d among
            ∙ sym kept ∙ sym (get_or-map_range more setup.replicas origin d among))
            (cases_eq origin write.origin));
      }

  -- and that write is the next one of its origin
  pub IsNextIn-due : (entry : Entry) (write : Write)
      → IsDue setup (part_of history entry.replica) entry
      → accepted_by entry.replica entry.moment entry.act ≡ Some write
      → IsNextIn book write
  IsNextIn-due entry write due some =
      let here : write.origin ≡ entry.replica = accepted_by-origin entry.replica entry.moment entry.act write some in
      let next : IsNext entry.replica (part_of history entry.replica) entry.moment write = accepted_is_next setup (part_of history entry.replica) entry write due some in
      let among : write.origin < setup.replicas = omega (arith, here, due.in_range.replica) in
      let index : write.index ≡ length (log_in book write.origin) =
      next.index ∙ ap (λ (o : ℕ). length (own_in history o)) (sym here) ∙ ap length (sym (log_in-is write.origin among)) in
      let asked = acted_is_asked setup entry.replica entry.moment entry.act write due.in_range.act some in
      record {
        origin = omega (arith, among, length-logs);
        index = index;
        few = omega (arith, next.index, due.room, length-filter_map accepted_in (part_of history entry.replica));
        on_conits =
            All-weaker (IsWeightInRange setup) (λ (weight : Weight). weight.conit < book.conits) (λ weight within. omega (arith, within.conit, is.conits)) write.weights
            asked.weights.each;
      }
