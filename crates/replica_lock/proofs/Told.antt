-- What a call on a turn has told its session.
use Rattle.std.proofs.Common.{◌≡◌, ℕ, ◌+◌, Bool, false, cond, List, set, slice_index, refl, sym, ap, ◌∙◌, arith, get_or-set_other}
use Rattle.std.proofs.lemmas.Bool.{eq-eqb}
use Rattle.run_model.specs.Histories.{part_of, calls_in}
use Rattle.run_model.specs.declared.call.Reply.{Reply}
use Rattle.run_model.specs.declared.call.Request.{Request}
use Rattle.run_model.specs.declared.entry.Act.TheVariants as act
use Rattle.run_model.specs.declared.entry.Entry.{Entry}
use Rattle.run_model.proofs.PartLemmas.{calls_in-push}
use Rattle.atomic_table.specs.Seated.{TableId}
use Rattle.weight_ledger.specs.Seen.{TallyView}
use Rattle.replica_lock.specs.Allowances.{AllowanceView}
use Rattle.locked_replica.specs.Locks.{HasEntered, IsLocked, LockedView, entry_in, made_place, part_in, turns_place}
use Rattle.replica_lock.specs.Sessions.{KeepsSession, SessionView}
use Rattle.locked_replica.proofs.Allowing.{part-entered}
use Rattle.replica_lock.proofs.Turning.{made_second, own_places, places_set, turns_first}

-- an allowance's view, part by part
pub allowance_as : (replica conit : ℕ) (cell cell_as : TableId) (amount amount_as : ℕ)
    → cell ≡ cell_as
    → amount ≡ amount_as
    → (let view : AllowanceView = record { cell = cell; replica = replica; conit = conit; amount = amount } in
    view ≡ record { cell = cell_as; replica = replica; conit = conit; amount = amount_as })
allowance_as replica conit cell cell_as amount amount_as cells amounts = cc

-- the calls of a client that are seen of a replica, and one more of them
pub calls-seen : (locked : LockedView) (seen : List Entry) (replica client : ℕ)
    → IsLocked locked
    → seen ≡ locked.clerk.seen
    → replica ≡ locked.core.replica
    → calls_in (part_of seen replica) client ≡ calls_in (part_in locked) client
calls-seen locked seen replica client kept is at =
    ap (λ h. calls_in (part_of h replica) client) is ∙ ap (λ r. calls_in (part_of locked.clerk.seen r) client) at ∙ ap (λ part. calls_in part client) kept.own

pub calls-entered : (before after : LockedView) (known : List Entry) (moment client number : ℕ) (asked : Request) (given : Reply)
    → HasEntered before after known (entry_in before moment (act.Call client number asked given))
    → calls_in (part_in after) client ≡ calls_in (part_in before) client + 1
calls-entered before after known moment client number asked given entered =
    let entry = entry_in before moment (act.Call client number asked given) in
    ap (λ part. calls_in part client) (part-entered before after known entry entered) ∙ calls_in-push (part_in before) entry client
    ∙ ap (λ (b : Bool). calls_in (part_in before) client + cond b 1 0) (eq-eqb client client refl)

-- a session whose call was counted
pub KeepsSession-counted : (session : SessionView) (tally agreed counted : TallyView) (cell desk : TableId) (seen : List Entry) (turned made : ℕ)
    → KeepsSession session tally
    → session.doubt ≡ false
    → agreed ≡ tally
    → counted ≡ record agreed { amounts = set (set agreed.amounts (turns_place session.conits session.client) turned) (made_place session.conits session.client) made }
    → slice_index counted.amounts (turns_place session.conits session.client) ≡ slice_index agreed.amounts (turns_place session.conits session.client) + 1
    → slice_index counted.amounts (made_place session.conits session.client) ≡ slice_index agreed.amounts (made_place session.conits session.client) + 1
    → calls_in (part_of seen session.replica) session.client ≡ session.calls + 1
    → KeepsSession (record session { cell = cell; desk = desk; calls = session.calls + 1; made = session.made + 1; seen = seen }) counted
KeepsSession-counted session tally agreed counted cell desk seen turned made keeps certain same is turns entries calls =
    let conits = session.conits in
    let client = session.client in
    let own = own_places keeps in
    let between : TallyView = record agreed { amounts = set agreed.amounts (turns_place conits client) turned } in
    let still : slice_index counted.amounts (turns_place conits client) ≡ slice_index between.amounts (turns_place conits client) =
    ap (λ (t : TallyView). slice_index t.amounts (turns_place conits client)) is
    ∙ get_or-set_other between.amounts (made_place conits client) (turns_place conits client) made 0 (λ e. absurd (omega (arith, e))) in
    let first = places_set 0 (turns_place conits client) turned (session.calls + 1) (omega arith) (sym (turns_first conits client)) (ap (λ (t : TallyView). record t { amounts = set t.amounts (turns_place conits client) turned }) same)
    (sym still ∙ turns ∙ ap (λ (t : TallyView). slice_index t.amounts (turns_place conits client) + 1) same ∙ ap (λ n. n + 1) own.turns) keeps.places in
    record {
      among = keeps.among;
      few = keeps.few;
      places = places_set 1 (made_place conits client) made (session.made + 1) (omega arith) (sym (made_second conits client)) is
          (entries ∙ ap (λ (t : TallyView). slice_index t.amounts (made_place conits client) + 1) same ∙ ap (λ n. n + 1) own.made) first;
      calls = λ _. calls;
      least = omega (arith, calls);
    }
