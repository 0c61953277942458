-- What the steps of a round keep and do, over the whole of the replicas.
use Rattle.std.proofs.Common.{◌≡◌, ◌≢◌, All, Bool, IfErr, IfOk, IfSome, Option, None, Some, Result, Ok, Err, ℕ, ◌+◌, ◌<◌, ◌≤◌, List, [], ◌∷◌, ◌++◌, Contains, inl, inr, get_or, get_or-set_other, get_or-set_same, length, map, set, refl, sym, ap, ◌∙◌, subst, ⊎_elim, arith}
use Rattle.std.proofs.lemmas.Bool.{cases_eq, cases_lt}
use Rattle.std.proofs.lemmas.List.{get_or-map, get_or_past, length-map, length-set, map-set}
use Rattle.std.specs.List.{sum_by}
use Rattle.std.proofs.lemmas.List.Sums.{sum_by-cons}
use Rattle.run_history.specs.Seats.{DeskView}
use Rattle.run_model.specs.declared.entry.Entry.{Entry}
use Rattle.run_model.specs.declared.entry.Message.{Message}
use Rattle.link_faults.specs.Inboxes.{InboxState}
use Rattle.link_faults.specs.Plans.{no_faults}
use Rattle.link_faults.specs.declared.plan.LinkPlan.{LinkPlan}
use Rattle.locked_replica.specs.Parcels.{ParcelView}
use Rattle.replica_lock.specs.Sessions.{NodeView, SessionView}
use Rattle.run_work.specs.Rounds.{AreStill, HasMadeOne, HasReached, HasSeen, HasSeenAt, HasSeenSending, HasSeenTaking, HaveSeen, lose_at, made_at, messages_in, waiting_at}
use Rattle.run_work.specs.Ends.{AreFaultless, AreUnmarked, IsFaultlessEnd, IsKeptStop, IsUnmarkedEnd, made_by}
use Rattle.run_work.specs.Settling.{HasGoneOn, HasSeated, HaveGoneOn, IsSettling, SettlingView}
use Rattle.run_work.specs.declared.leaving.Stop.{Stop}
use Rattle.run_work.specs.declared.seat.End.{End}
use Rattle.run_work.proofs.Stopped.{IsKeptStop-less}
use Rattle.run_work.proofs.Leads.{HasSeen-on}
use Rattle.run_work.proofs.Settled.{some_element}
use Rattle.run_work.proofs.Zips.{AllZip-at, AllZip-size}

-- Where no entry is made.
pub are_still_same : (settling : SettlingView) → AreStill settling settling
are_still_same settling = record { inboxes = refl; made = λ replica. omega (arith) }

pub are_still_then : (one two three : SettlingView) → AreStill one two → AreStill two three → AreStill one three
are_still_then one two three first second = record {
  inboxes = second.inboxes ∙ first.inboxes;
  made = λ replica. omega (arith, first.made replica, second.made replica);
}

-- what was seen of a sending and of a taking is seen by who sees as much
pub HasSeenSending-map : (One Other : List Entry → Type 0) (front : List Entry) (from to : ℕ) (message : Message)
    → ((seen : List Entry) → One seen → Other seen)
    → HasSeenSending One front from to message
    → HasSeenSending Other front from to message
HasSeenSending-map One Other front from to message also seen = record {
  before = seen.before;
  sent = seen.sent;
  behind = seen.behind;
  by = seen.by;
  sends = seen.sends;
  addressed = seen.addressed;
  seen = also (seen.before ++ seen.sent ∷ []) seen.seen;
}

pub HasSeenTaking-map : (One Other : List Entry → Type 0) (replica : ℕ) (message : Message)
    → ((seen : List Entry) → One seen → Other seen)
    → HasSeenTaking One replica message
    → HasSeenTaking Other replica message
HasSeenTaking-map One Other replica message also seen = record {
  before = seen.before;
  taken = seen.taken;
  by = seen.by;
  takes = seen.takes;
  seen = also (seen.before ++ seen.taken ∷ []) seen.seen;
}

-- What replicas have seen they go on to have seen.
pub HasSeenAt-on : (before after : SettlingView) (replica : ℕ) (front : List Entry)
    → HaveGoneOn before after
    → HasSeenAt before replica front
    → HasSeenAt after replica front
HasSeenAt-on before after replica front on seen none =
    ⊎_elim (λ (within : replica < length before.ends).
    HasSeen-on (get_or before.ends replica none) (get_or after.ends replica none) front (AllZip-at HasGoneOn before.ends after.ends replica none none on.ends within).1 (seen none))
    (λ (past : length before.ends ≤ replica).
    subst (λ (e : End). HasSeen e front)
    (get_or_past before.ends replica none past ∙ sym (get_or_past after.ends replica none (omega (arith, past, AllZip-size HasGoneOn before.ends after.ends on.ends)))) (seen none))
    (cases_lt replica (length before.ends))

pub HaveSeen-on : (before after : SettlingView) (front : List Entry) → HaveGoneOn before after → HaveSeen before front → HaveSeen after front
HaveSeen-on before after front on seen replica within =
    HasSeenAt-on before after replica front on (seen replica (subst (λ nodes. replica < length nodes) on.nodes within))

pub lose_at-on : (before after : SettlingView) (replica : ℕ) → HaveGoneOn before after → lose_at after replica ≡ lose_at before replica
lose_at-on before after replica on = ap (λ (plans : List LinkPlan). (get_or plans replica no_faults).lose) on.plans

pub HasReached-on : (front : List Entry) (from to : ℕ) (before after : SettlingView)
    → HaveGoneOn before after
    → ((message : Message) → Contains (waiting_at before to) message → Contains (waiting_at after to) message)
    → HasReached front from to before
    → HasReached front from to after
HasReached-on front from to before after on kept reached = record {
  message = reached.message;
  sent = HasSeenSending-map (HasSeenAt before from) (HasSeenAt after from) front from to reached.message (λ seen. HasSeenAt-on before after from seen on) reached.sent;
  waits = λ none. kept reached.message (reached.waits (sym (lose_at-on before after to on) ∙ none));
}

-- the same inboxes have the same that waits
pub waiting-same : (before after : SettlingView) (replica : ℕ) → after.inboxes ≡ before.inboxes → waiting_at after replica ≡ waiting_at before replica
waiting-same before after replica same = ap (λ inboxes. get_or (map messages_in inboxes) replica []) same

pub made-same : (before after : SettlingView) (replica : ℕ) → after.ends ≡ before.ends → made_at after replica ≡ made_at before replica
made-same before after replica same = ap (λ ends. get_or (map made_by ends) replica 0) same

-- what a replica has seen its end has, and its node is of its number
pub HasSeenAt-there : {settling now : SettlingView} (replica : ℕ) {before : End}
    → settling ≡ now
    → before ≡ get_or settling.ends replica before
    → (front : List Entry)
    → HasSeenAt now replica front
    → HasSeen before front
HasSeenAt-there replica {before = before} is there front seen =
    subst (λ (e : End). HasSeen e front) (sym (there ∙ ap (λ (s : SettlingView). get_or s.ends replica before) is)) (seen before)

node_at : {settling now : SettlingView} {replica : ℕ} {node : NodeView}
    → settling ≡ now
    → IsSettling settling
    → replica < length now.nodes
    → node ≡ get_or settling.nodes replica node
    → node.replica ≡ replica
node_at {replica = replica} {node = node} is sound within there =
    ap (λ (n : NodeView). n.replica) there ∙ (sound.node replica node (omega (arith, within, ap (λ (s : SettlingView). length s.nodes) is))).1

desk_at : {settling now : SettlingView} {replica : ℕ} {node : NodeView}
    → settling ≡ now
    → IsSettling settling
    → replica < length now.nodes
    → node ≡ get_or settling.nodes replica node
    → node.desk ≡ now.desk
desk_at {replica = replica} {node = node} is sound within there =
    ap (λ (n : NodeView). n.desk) there
    ∙ (sound.node replica node (omega (arith, within, ap (λ (s : SettlingView). length s.nodes) is))).0
    ∙ ap (λ (s : SettlingView). s.desk) is

-- One replica's end is another.
module _ {settling now : SettlingView} {replica : ℕ} {before : End} (is : settling ≡ now) (sound : IsSettling settling) (within : replica < length now.nodes)
    (there : before ≡ get_or settling.ends replica before) (after : End) where
  at_ends : replica < length settling.ends
  at_ends = omega (arith, within, ap (λ (s : SettlingView). length s.nodes) is, sound.ends_are)

  abbrev other_end : SettlingView
  other_end = record settling { ends = set settling.ends replica after }

  pub HasSeenAt-set : (front : List Entry) → HasSeen after front → HasSeenAt other_end replica front
  HasSeenAt-set front seen none = subst (λ (e : End). HasSeen e front) (sym (get_or-set_same settling.ends replica after none at_ends)) seen

  pub HasSeenSending-set : {node : NodeView} (at : node ≡ get_or settling.nodes replica node) (to : ℕ) {E : Type 0} (sent : Result (Option ParcelView) E)
      → IfOk sent (λ one. IfSome one (λ (parcel : ParcelView). (front : List Entry) → HasSeen before front → HasSeenSending (HasSeen after) front node.replica to parcel.message))
      → IfOk sent (λ one. IfSome one (λ (parcel : ParcelView). (front : List Entry) → HasSeenAt now replica front → HasSeenSending (HasSeenAt other_end replica) front replica to parcel.message))
  HasSeenSending-set at to (Err stop) seen = tt
  HasSeenSending-set at to (Ok None) seen = tt
  HasSeenSending-set at to (Ok (Some parcel)) seen = λ front was.
      subst (λ (from : ℕ). HasSeenSending (HasSeenAt other_end replica) front from to parcel.message) (node_at is sound within at)
      (HasSeenSending-map (HasSeen after) (HasSeenAt other_end replica) front _ to parcel.message HasSeenAt-set (seen front (HasSeenAt-there replica is there front was)))

  pub HasSeenTaking-set : {node : NodeView} (at : node ≡ get_or settling.nodes replica node) (message : Message)
      → HasSeenTaking (HasSeen after) node.replica message
      → HasSeenTaking (HasSeenAt other_end replica) replica message
  HasSeenTaking-set at message seen =
      subst (λ (by : ℕ). HasSeenTaking (HasSeenAt other_end replica) by message) (node_at is sound within at)
      (HasSeenTaking-map (HasSeen after) (HasSeenAt other_end replica) _ message HasSeenAt-set seen)

  made-there : made_at settling replica ≡ made_by before
  made-there = get_or-map made_by settling.ends replica before 0 at_ends ∙ ap made_by (sym there)

  made-mine : made_at other_end replica ≡ made_by after
  made-mine =
      ap (λ counts. get_or counts replica 0) (map-set made_by settling.ends replica after)
      ∙ get_or-set_same (map made_by settling.ends) replica (made_by after) 0 (omega (arith, at_ends, length-map settling.ends made_by))

  made-others : (other : ℕ) → other ≢ replica → made_at other_end other ≡ made_at settling other
  made-others other apart =
      ap (λ counts. get_or counts other 0) (map-set made_by settling.ends replica after)
      ∙ get_or-set_other (map made_by settling.ends) replica other (made_by after) 0 apart

  -- its marks are those of one of the replicas
  mine-all : (P : End → Type 0) → All P other_end.ends → P after
  mine-all P all =
      subst P (get_or-set_same settling.ends replica after after at_ends) (all replica after (omega (arith, at_ends, length-set settling.ends replica after)))

  pub HasMadeOne-set : (IsUnmarkedEnd after → made_by after ≤ made_by before + 1) → HasMadeOne replica now other_end
  HasMadeOne-set most = subst (λ s. HasMadeOne replica s other_end) is (record {
    inboxes = refl;
    mine = λ unmarked. omega (arith, most (mine-all IsUnmarkedEnd unmarked), made-there, made-mine);
    others = λ unmarked other apart. omega (arith, made-others other apart);
  })

  pub marked-set : {E : Type 0} (sent : Result (Option ParcelView) E)
      → IfOk sent (λ one. one ≡ None → IsUnmarkedEnd after → ⊥)
      → IfOk sent (λ one. one ≡ None → AreUnmarked other_end.ends → ⊥)
  marked-set (Err stop) marked = tt
  marked-set (Ok one) marked = λ none unmarked. marked none (mine-all IsUnmarkedEnd unmarked)

  pub IsKeptStop-set : {node : NodeView} (at : node ≡ get_or settling.nodes replica node) (tells : Bool) (stop : Stop)
      → IsKeptStop tells node.desk (IsFaultlessEnd after) stop
      → IsKeptStop tells now.desk (AreFaultless other_end.ends) stop
  IsKeptStop-set at tells stop told =
      subst (λ (desk : DeskView). IsKeptStop tells desk (AreFaultless other_end.ends) stop) (desk_at is sound within at)
      (IsKeptStop-less tells _ (IsFaultlessEnd after) (AreFaultless other_end.ends) stop (mine-all IsFaultlessEnd) told)

  pub stops-set : {node : NodeView} (at : node ≡ get_or settling.nodes replica node) (tells : Bool) {X : Type 0} (answer : Result X Stop)
      → IfErr answer (IsKeptStop tells node.desk (IsFaultlessEnd after))
      → IfErr answer (IsKeptStop tells now.desk (AreFaultless other_end.ends))
  stops-set at tells (Ok given) told = tt
  stops-set at tells (Err stop) told = IsKeptStop-set at tells stop told

  pub AreStill-set : made_by after ≤ made_by before → AreStill now other_end
  AreStill-set most = subst (λ s. AreStill s other_end) is (record {
    inboxes = refl;
    made = λ place.
        ⊎_elim (λ (same : place ≡ replica). subst (λ p. made_at other_end p ≤ made_at settling p) (sym same) (omega (arith, most, made-there, made-mine)))
        (λ (apart : place ≢ replica). omega (arith, made-others place apart))
        (cases_eq place replica);
  })

-- What waits for a replica is in its inbox.
module _ {settling now : SettlingView} {replica : ℕ} {before : InboxState ParcelView} (is : settling ≡ now) (sound : IsSettling settling) (within : replica < length now.nodes)
    (there : before ≡ get_or settling.inboxes replica before) where
  at_inboxes : replica < length settling.inboxes
  at_inboxes = omega (arith, within, ap (λ (s : SettlingView). length s.nodes) is, sound.inboxes_are)

  pub waiting-there : waiting_at now replica ≡ messages_in before
  waiting-there =
      ap (λ (s : SettlingView). waiting_at s replica) (sym is) ∙ get_or-map messages_in settling.inboxes replica before [] at_inboxes ∙ ap messages_in (sym there)

  pub lose-there : lose_at now replica ≡ before.plan.lose
  lose-there =
      ap (λ (s : SettlingView). lose_at s replica) (sym is)
      ∙ ap (λ (plan : LinkPlan). plan.lose)
      (get_or-map (λ (i : InboxState ParcelView). i.plan) settling.inboxes replica before no_faults at_inboxes ∙ ap (λ (i : InboxState ParcelView). i.plan) (sym there))

  -- where it is another
  pub waiting-mine : (after : InboxState ParcelView) → waiting_at (record settling { inboxes = set settling.inboxes replica after }) replica ≡ messages_in after
  waiting-mine after =
      ap (λ lists. get_or lists replica []) (map-set messages_in settling.inboxes replica after)
      ∙ get_or-set_same (map messages_in settling.inboxes) replica (messages_in after) [] (omega (arith, at_inboxes, length-map settling.inboxes messages_in))

-- and for the others what waited
pub waiting-others : {settling now : SettlingView} {replica : ℕ} (after : InboxState ParcelView)
    → settling ≡ now
    → (other : ℕ)
    → other ≢ replica
    → waiting_at (record settling { inboxes = set settling.inboxes replica after }) other ≡ waiting_at now other
waiting-others {settling = settling} {replica = replica} after is other apart =
    ap (λ lists. get_or lists other []) (map-set messages_in settling.inboxes replica after)
    ∙ get_or-set_other (map messages_in settling.inboxes) replica other (messages_in after) [] apart ∙ ap (λ (s : SettlingView). waiting_at s other) is

-- a replica that is seated has made no more
made_by-seated : (node : NodeView) (before after : End) → HasSeated node before after → made_by after ≤ made_by before
made_by-seated node before after (inl same) = omega (arith, ap made_by same.0)
made_by-seated node before after (inr new) =
    let sum : made_by after ≡ sum_by (λ (s : SessionView). s.made) (new.session ∷ []) = ap (sum_by (λ (s : SessionView). s.made)) new.one in
    omega (arith, sum, sum_by-cons (λ (s : SessionView). s.made) new.session [], new.made)

pub AreStill-seated : (before after : SettlingView) (node : NodeView)
    → after.inboxes ≡ before.inboxes
    → length after.ends ≡ length before.ends
    → ((place : ℕ) (none : End) → place < length before.ends → HasSeated (get_or before.nodes place node) (get_or before.ends place none) (get_or after.ends place none))
    → AreStill before after
AreStill-seated before after node inboxes count seated = record {
  inboxes = inboxes;
  made = λ replica.
      ⊎_elim (λ (within : replica < length before.ends).
      let none = some_element before.ends replica within in
      omega (
        arith,
        get_or-map made_by before.ends replica none 0 within,
        get_or-map made_by after.ends replica none 0 (omega (arith, within, count)),
        made_by-seated (get_or before.nodes replica node) (get_or before.ends replica none) (get_or after.ends replica none) (seated replica none within),
      ))
      (λ (past : length before.ends ≤ replica).
      omega (
        arith,
        get_or_past (map made_by before.ends) replica 0 (omega (arith, past, length-map before.ends made_by)),
        get_or_past (map made_by after.ends) replica 0 (omega (arith, past, count, length-map after.ends made_by)),
      ))
      (cases_lt replica (length before.ends));
}
