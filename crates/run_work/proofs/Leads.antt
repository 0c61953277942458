-- What the sessions of the least clients have seen, and how many entries were made for an end's sessions.
use Rattle.std.proofs.Common.{◌≡◌, ℕ, Bool, zero, suc, ◌+◌, ◌<◌, ◌≤◌, List, [], ◌∷◌, ◌++◌, get_or, get_or-set_same, length, map, set, refl, sym, ap, ◌∙◌, subst, ⊎_elim, arith}
use Rattle.std.specs.List.{sum_by}
use Rattle.std.specs.Vec.{with_item}
use Rattle.std.proofs.lemmas.Bool.{cases_lt}
use Rattle.std.proofs.lemmas.List.{length-map, length-set}
use Rattle.std.proofs.lemmas.List.Sums.{sum_by-cons}
use Rattle.tact_base.specs.Setup.{Setup}
use Rattle.run_model.specs.Histories.{IsPrefix}
use Rattle.run_model.specs.declared.entry.Act.{Act}
use Rattle.run_model.specs.declared.entry.Act.TheVariants as act
use Rattle.run_model.specs.declared.entry.Entry.{Entry}
use Rattle.run_model.specs.declared.entry.Message.{Message}
use Rattle.run_model.proofs.PrefixLemmas.{IsPrefix-same, IsPrefix-trans}
use Rattle.run_history.specs.Seats.{DeskView}
use Rattle.locked_replica.specs.Parcels.{ParcelView}
use Rattle.replica_lock.specs.Sessions.{HasMade, IsSessionOf, NodeView, SessionView, entry_after}
use Rattle.steady_node.specs.Going.{IsUnmarked}
use Rattle.steady_node.specs.Taken.{HasTaken}
use Rattle.run_work.specs.Rounds.{HasSeen, HasSeenSending, HasSeenTaking, IsLead}
use Rattle.run_work.specs.Ends.{IsFaultlessEnd, IsKeptStop, IsUnmarkedEnd, made_by}
use Rattle.run_work.specs.Settling.{HasGoneOn, HasStayed, IsEndOf}
use Rattle.run_work.specs.declared.leaving.Stop.{Stop}
use Rattle.run_work.specs.declared.seat.End.{End}
use Rattle.run_work.proofs.Stopped.{IsKeptStop-less}
use Rattle.run_work.proofs.Settled.{HasGoneOn-set}
use Rattle.run_work.proofs.Zips.{AllZip-at, map-zip}

-- there is one first place of the least
lead_unique : (numbers : List ℕ) (one other : ℕ) → IsLead numbers one → IsLead numbers other → one ≡ other
lead_unique numbers one other first second =
    ⊎_elim (λ (below : one < other). absurd (omega (arith, below, second.first one below, first.least other second.within)))
    (λ (least : other ≤ one).
    ⊎_elim (λ (above : other < one). absurd (omega (arith, above, first.first other above, second.least one first.within)))
    (λ (most : one ≤ other). omega (arith, least, most))
    (cases_lt other one))
    (cases_lt one other)

abbrev pub clients_of : End → List ℕ
clients_of end = map (λ (session : SessionView). session.client) end.sessions.items

clients-stayed : (before after : End) → HasGoneOn before after → clients_of after ≡ clients_of before
clients-stayed before after on =
    map-zip HasStayed (λ (s : SessionView). s.client) (λ one other stayed. ap (λ (s : SessionView). s.client) stayed.value) before.sessions.items after.sessions.items on.sessions

-- what it has seen it goes on to have seen
pub HasSeen-on : (before after : End) (front : List Entry) → HasGoneOn before after → HasSeen before front → HasSeen after front
HasSeen-on before after front on seen place none lead =
    let was : IsLead (clients_of before) place = subst (λ ns. IsLead ns place) (clients-stayed before after on) lead in
    let within : place < length before.sessions.items = omega (arith, was.within, length-map before.sessions.items (λ (s : SessionView). s.client)) in
    IsPrefix-trans front (get_or before.sessions.items place none).seen (get_or after.sessions.items place none).seen (seen place none was)
    (AllZip-at HasStayed before.sessions.items after.sessions.items place none none on.sessions within).1.told

-- a sum in which one term is another
sum_by-set : {X : Type 0} (f : X → ℕ) (xs : List X) (place : ℕ) (x y : X) (more : ℕ)
    → place < length xs
    → f y ≤ f (get_or xs place x) + more
    → sum_by f (set xs place y) ≤ sum_by f xs + more
sum_by-set f [] place x y more within most = absurd (omega (arith, within))
sum_by-set f (first ∷ xs) zero x y more within most = omega (arith, sum_by-cons f first xs, sum_by-cons f y xs, most)
sum_by-set f (first ∷ xs) (suc place) x y more within most =
    omega (arith, sum_by-cons f first xs, sum_by-cons f first (set xs place y), sum_by-set f xs place x y more (omega (arith, within)) most)

made_by-set : (end : End) (place : ℕ) (before after : SessionView) (more : ℕ)
    → place < length end.sessions.items
    → before ≡ get_or end.sessions.items place before
    → after.made ≤ before.made + more
    → made_by (record end { sessions = with_item end.sessions place after }) ≤ made_by end + more
made_by-set end place before after more within there most =
    sum_by-set (λ (s : SessionView). s.made) end.sessions.items place before after more within
    (subst (λ (s : SessionView). after.made ≤ s.made + more) there most)

-- The session of the least client.
module _ (end : End) (place : ℕ) (before : SessionView) (lead : IsLead (clients_of end) place) (there : before ≡ get_or end.sessions.items place before) where
  lead-within : place < length end.sessions.items
  lead-within = omega (arith, lead.within, length-map end.sessions.items (λ (s : SessionView). s.client))

  abbrev with_lead : SessionView → End
  with_lead after = record end { sessions = with_item end.sessions place after }

  -- where it stays the end goes on, with as many entries more as were made for it
  pub HasGoneOn-lead : (after : SessionView) → HasStayed before after → HasGoneOn end (with_lead after)
  HasGoneOn-lead after stayed = HasGoneOn-set end place before after lead-within there stayed

  pub made_by-lead : (after : SessionView) (more : ℕ) → after.made ≤ before.made + more → made_by (with_lead after) ≤ made_by end + more
  made_by-lead after more most = made_by-set end place before after more lead-within there most

  -- its marks are those of one of the end's sessions
  pub unmarked-lead : (after : SessionView) → IsUnmarkedEnd (with_lead after) → IsUnmarked after
  unmarked-lead after unmarked =
      subst IsUnmarked (get_or-set_same end.sessions.items place after after lead-within)
      (unmarked place after (omega (arith, lead-within, length-set end.sessions.items place after)))

  pub faultless-lead : (after : SessionView) → IsFaultlessEnd (with_lead after) → after.faults ≡ 0
  faultless-lead after faultless =
      subst (λ (s : SessionView). s.faults ≡ 0) (get_or-set_same end.sessions.items place after after lead-within)
      (faultless place after (omega (arith, lead-within, length-set end.sessions.items place after)))

  pub made_by-unmarked : (after : SessionView) (more : ℕ)
      → (IsUnmarked after → after.made ≤ before.made + more)
      → IsUnmarkedEnd (with_lead after)
      → made_by (with_lead after) ≤ made_by end + more
  made_by-unmarked after more few unmarked = made_by-lead after more (few (unmarked-lead after unmarked))

  -- so a stop of it is one of the end
  pub IsKeptStop-lead : (tells : Bool) (desk : DeskView) (after : SessionView) (stop : Stop)
      → IsKeptStop tells desk (after.faults ≡ 0) stop
      → IsKeptStop tells desk (IsFaultlessEnd (with_lead after)) stop
  IsKeptStop-lead tells desk after stop = IsKeptStop-less tells desk (after.faults ≡ 0) (IsFaultlessEnd (with_lead after)) stop (faultless-lead after)

  pub made_by-same : (after : SessionView) → after.made ≡ before.made → made_by (with_lead after) ≤ made_by end
  made_by-same after same = omega (arith, made_by-lead after 0 (omega (arith, same)))

  pub lead-of : (node : NodeView) → IsEndOf node end → IsSessionOf node before
  lead-of node is = subst (IsSessionOf node) (sym there) (is.sessions place before lead-within)

  pub HasSeen-lead : (front : List Entry) → HasSeen end front → IsPrefix front before.seen
  HasSeen-lead front seen = subst (λ (s : SessionView). IsPrefix front s.seen) (sym there) (seen place before lead)

  pub HasSeen-set : (after : SessionView) (front : List Entry)
      → HasStayed before after
      → IsPrefix front after.seen
      → HasSeen (with_lead after) front
  HasSeen-set after front stayed seen place' none lead' =
      let on = HasGoneOn-lead after stayed in
      let same : place' ≡ place = lead_unique (clients_of end) place' place
      (subst (λ ns. IsLead ns place') (clients-stayed end (with_lead after) on) lead') lead in
      subst (λ (s : SessionView). IsPrefix front s.seen)
      (sym (ap (λ p. get_or (set end.sessions.items place after) p none) same ∙ get_or-set_same end.sessions.items place after none lead-within)) seen

  -- after an entry was made for it
  module _ (setup : Setup) (after : SessionView) (moment : ℕ) (done : Act) (made : HasMade setup before after moment done) (stayed : HasStayed before after) where
    pub HasSeen-made : HasSeen (with_lead after) (made.front ++ entry_after before made.front moment done ∷ [])
    HasSeen-made = HasSeen-set after (made.front ++ entry_after before made.front moment done ∷ []) stayed
        (IsPrefix-same (made.front ++ entry_after before made.front moment done ∷ []) after.seen (sym made.seen))

  pub HasSeenSending-made : (setup : Setup) (after : SessionView) (moment : ℕ) (message : Message) (replica to : ℕ) (front : List Entry)
      → HasMade setup before after moment (act.Send message)
      → HasStayed before after
      → before.replica ≡ replica
      → message.to ≡ to
      → HasSeen end front
      → HasSeenSending (HasSeen (record end { sessions = with_item end.sessions place after })) front replica to message
  HasSeenSending-made setup after moment message replica to front made stayed of addressed seen = record {
    before = made.front;
    sent = entry_after before made.front moment (act.Send message);
    behind = IsPrefix-trans front before.seen made.front (HasSeen-lead front seen) made.told;
    by = of;
    sends = refl;
    addressed = addressed;
    seen = HasSeen-made setup after moment (act.Send message) made stayed;
  }

  pub HasSeenTaking-taken : (node : NodeView) (after : SessionView) (parcel : ParcelView)
      → HasTaken node before after parcel
      → HasStayed before after
      → before.replica ≡ node.replica
      → HasSeenTaking (HasSeen (with_lead after)) node.replica parcel.message
  HasSeenTaking-taken node after parcel taken stayed of =
      let last : Entry = entry_after taken.between taken.made.front taken.moment (act.Take parcel.message) in
      record {
        before = taken.made.front;
        taken = last;
        by = sym (ap (λ (s : SessionView). s.replica) taken.made.counts) ∙ ap (λ (s : SessionView). s.replica) stayed.value ∙ of;
        takes = refl;
        seen = HasSeen-set after (taken.made.front ++ last ∷ []) stayed (IsPrefix-same (taken.made.front ++ last ∷ []) after.seen (sym taken.made.seen));
      }
