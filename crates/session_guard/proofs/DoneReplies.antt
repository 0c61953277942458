-- A write that a replica accepts has as index how many it accepted before.
use Rattle.std.proofs.Common.{◌≡◌, ℕ, List, length, Option, None, Some, unwrap_or, refl, sym, ap, ◌∙◌, arith}
use Rattle.std.specs.Option.{option_map}
use Rattle.tact_base.proofs.ListLemmas.{length-filter_map}
use Rattle.tact_base.specs.Admission.{Hindrance, lent as too_much_lent, stale, unordered}
use Rattle.tact_base.specs.Setup.{Setup}
use Rattle.tact_base.specs.declared.conit_list.Need.{Need}
use Rattle.tact_base.specs.declared.write.Write.{Write}
use Rattle.run_model.specs.OwnWrites.{accepted_by, done_as, own}
use Rattle.run_model.specs.Replies.{first_some, need_refusal, reply_of, waiting_by}
use Rattle.run_model.specs.Runs.{IsDue}
use Rattle.run_model.specs.declared.call.Reply.{Reply}
use Rattle.run_model.specs.declared.call.Reply.TheVariants as reply
use Rattle.run_model.specs.declared.call.Request.{Request}
use Rattle.run_model.specs.declared.call.Request.TheVariants as request
use Rattle.run_model.specs.declared.entry.Act.TheVariants as act
use Rattle.run_model.specs.declared.entry.Entry.{Entry}
use Rattle.run_model.proofs.Accepted.{accepted_is_next, first_some-each}
use Rattle.session_guard.specs.Visits.{HasNextIndex, IsWriteOrRead}

-- what a read waits for accepts nothing
waiting_is_not_done : (need : Need) (moment : ℕ) (met : Hindrance) → done_as (waiting_by need moment met) ≡ None
waiting_is_not_done need moment (too_much_lent holder out total) = refl
waiting_is_not_done need moment (unordered slowest tentative) = refl
waiting_is_not_done need moment (stale late) = refl

need_is_not_done : (setup : Setup) (replica : ℕ) (part : List Entry) (moment : ℕ) (need : Need) (given : Reply)
    → need_refusal setup replica part moment need ≡ Some given
    → done_as given ≡ None
need_is_not_done setup replica part moment need given is = go _ is
  where
    go : (met : Option Hindrance) → option_map (waiting_by need moment) met ≡ Some given → done_as given ≡ None
    go None is = cc
    go (Some met) is = let same : waiting_by need moment met ≡ given = cc in sym (ap done_as same) ∙ waiting_is_not_done need moment met

-- nor does a read
pub read_is_not_done : (setup : Setup) (replica : ℕ) (part : List Entry) (moment key : ℕ) (needs : List Need)
    → done_as (reply_of setup replica part moment (request.Read key needs)) ≡ None
read_is_not_done setup replica part moment key needs =
    go (first_some (need_refusal setup replica part moment) needs)
    (first_some-each (need_refusal setup replica part moment) (λ given. done_as given ≡ None) (need_is_not_done setup replica part moment) needs) _ refl
  where
    go : (first : Option Reply)
        → ((given : Reply) → first ≡ Some given → done_as given ≡ None)
        → (told : Reply)
        → done_as told ≡ None
        → done_as (unwrap_or first told) ≡ None
    go None none told is = is
    go (Some given) none told is = none given refl

-- The index of an accepted write.
pub done_index : (setup : Setup) (part : List Entry) (replica moment client number index stamp : ℕ) (asked : Request)
    → IsDue setup part (record { replica = replica; moment = moment; act = act.Call client number asked (reply.Done index stamp) })
    → IsWriteOrRead asked
    → index ≡ length (own part)
done_index setup part replica moment client number index stamp (request.Write weights op) due kind =
    let entry : Entry = record { replica = replica; moment = moment; act = act.Call client number (request.Write weights op) (reply.Done index stamp) } in
    let write : Write = record { origin = replica; index = index; stamp = stamp; moment = moment; weights = weights; op = op } in
    (accepted_is_next setup part entry write due refl).index
done_index setup part replica moment client number index stamp (request.Read key needs) due kind =
    let none = ap done_as due.act.1 ∙ read_is_not_done setup replica part moment key needs in cc
done_index setup part replica moment client number index stamp (request.Held weight op) due kind = absurd kind
done_index setup part replica moment client number index stamp (request.Reserve conit amount) due kind = absurd kind
done_index setup part replica moment client number index stamp (request.Release conit amount) due kind = absurd kind

-- It has one after it.
pub has_next_index : (setup : Setup) (part : List Entry) (replica moment client number : ℕ) (asked : Request) (given : Reply)
    → IsDue setup part (record { replica = replica; moment = moment; act = act.Call client number asked given })
    → IsWriteOrRead asked
    → HasNextIndex given
has_next_index setup part replica moment client number asked (reply.Done index stamp) due kind =
    let is = done_index setup part replica moment client number index stamp asked due kind in
    let few = length-filter_map (λ (e : Entry). accepted_by e.replica e.moment e.act) part in
    omega (arith, is, few, due.room)
has_next_index setup part replica moment client number asked other due kind = tt
