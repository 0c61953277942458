-- Sessions that go on without a call, and what ends nodes with them.
use Rattle.std.proofs.Common.{◌≡◌, ◌≢◌, Bool, false, ⊎_elim, get_or-set_same, get_or-set_other, ℕ, ◌+◌, ◌<◌, ◌≤◌, List, [], ◌∷◌, ◌++◌, inl, inr, All, Contains, IfSome, Option, Some, None, get_or, length, map, set, refl, sym, ap, ap₂, ◌∙◌, subst, arith}
use Rattle.std.specs.List.{list_any}
use Rattle.std.specs.Option.{option_to_list}
use Rattle.std.specs.Vec.{with_item}
use Rattle.std.proofs.lemmas.List.{get_or_default, length-set}
use Rattle.std.proofs.lemmas.Bool.{cases_eq, false_from_ne_true}
use Rattle.link_faults.specs.Inboxes.{InboxState}
use Rattle.locked_replica.specs.Parcels.{ParcelView}
use Rattle.postbox.specs.Posts.{AreFor}
use Rattle.std.proofs.lemmas.List.Elements.{All-head, All-cons, All-nil}
use Rattle.tact_base.specs.Setup.{Setup}
use Rattle.std.proofs.Math.Seq.{map-set_same}
use Rattle.run_model.specs.Histories.{IsPrefix}
use Rattle.run_model.specs.declared.entry.Act.{Act}
use Rattle.run_model.specs.declared.entry.Entry.{Entry}
use Rattle.run_model.proofs.PrefixLemmas.{IsPrefix-refl, IsPrefix-trans}
use Rattle.run_history.specs.Seats.{NoteView}
use Rattle.locked_replica.specs.declared.fault.NodeFault.{NodeFault}
use Rattle.locked_replica.specs.declared.fault.NodeFault.TheVariants as fault
use Rattle.replica_lock.specs.Ledgers.{risen}
use Rattle.replica_lock.specs.Sessions.{HasHeard, HasMade, IsAtNode, IsSessionOf, NodeView, SessionView, entry_after, marked_by, own_calls}
use Rattle.steady_node.specs.Going.{GoesOn, IsUnmarked}
use Rattle.steady_node.proofs.Goings.{risen-least}
use Rattle.work_load.specs.declared.plan.Client.{Client}
use Rattle.replica_lock.specs.Rosters.{RosterView}
use Rattle.tact_base.proofs.ElementLemmas.{Contains-none}
use Rattle.run_work.specs.Ends.{AreFaultless, AreUnmarked, IsFaultlessEnd, IsUnmarkedEnd, IsWhole, clients_at, clients_by, noted_calls}
use Rattle.work_load.specs.Clients.{is_of}
use Rattle.run_work.proofs.Noted.{among-is_of, noted_calls-none}
use Rattle.run_work.specs.Settling.{AreReady, AreSettled, HasGoneOn, HasStayed, HasOneNew, HasSameClients, HasSeated, HaveGoneOn, IsEndOf, IsSettling, SettlingView}
use Rattle.run_work.specs.declared.seat.End.{End}
use Rattle.run_work.proofs.Zips.{All-zip, All-zip_back, AllZip-at, AllZip-refl, AllZip-set, AllZip-size, AllZip-trans, map-zip}

-- a list with a place has an element
pub some_element : {X : Type 0} (xs : List X) (place : ℕ) → place < length xs → X
some_element [] place within = absurd (omega (arith, within))
some_element (x ∷ xs) place within = x

-- A session stays.
abbrev stayed_as : SessionView → ℕ → ℕ → ℕ → List Entry → SessionView
stayed_as session made faults halts seen = record session { made = made; faults = faults; halts = halts; seen = seen }

module _ (before after : SessionView) where
  staying : (made faults halts : ℕ)
      → after ≡ stayed_as before made faults halts after.seen
      → IsPrefix before.seen after.seen
      → own_calls after ≡ own_calls before
      → before.faults ≤ faults
      → before.halts ≤ halts
      → HasStayed before after
  staying made faults halts is told calls more_faults more_halts = record {
    value = subst (λ (s : SessionView). s ≡ stayed_as before s.made s.faults s.halts s.seen) (sym is) refl;
    told = told;
    calls = calls;
    faults = omega (arith, more_faults, ap (λ (s : SessionView). s.faults) is);
    halts = omega (arith, more_halts, ap (λ (s : SessionView). s.halts) is);
  }

  module _ (setup : Setup) (certain : before.doubt ≡ false) where
    pub HasStayed-made : (moment : ℕ) (done : Act) → HasMade setup before after moment done → HasStayed before after
    HasStayed-made moment done made =
        staying (before.made + 1) before.faults before.halts made.counts
        (IsPrefix-trans before.seen made.front after.seen made.told (entry_after before made.front moment done ∷ [], made.seen))
        (made.calls certain) (omega arith) (omega arith)

    pub HasStayed-heard : HasHeard setup before before after → HasStayed before after
    HasStayed-heard heard = staying before.made before.faults before.halts heard.value heard.told (heard.calls certain) (omega arith) (omega arith)

    -- after it was told a fault, which it marks
    pub HasStayed-told : (told : NodeFault) → HasHeard setup before (marked_by told before) after → HasStayed before after
    HasStayed-told fault.Halted heard =
        staying before.made before.faults (risen before.halts) heard.value heard.told (heard.calls certain) (omega arith) (risen-least before.halts)
    HasStayed-told fault.JournalFault heard =
        staying before.made (risen before.faults) before.halts heard.value heard.told (heard.calls certain) (risen-least before.faults) (omega arith)
    HasStayed-told (fault.Full count stamp) heard = HasStayed-heard heard
    HasStayed-told fault.NoMemory heard = HasStayed-heard heard

  -- where it went on with the same calls, and counts those that it has seen
  pub HasStayed-on : (most : ℕ)
      → GoesOn most before after
      → before.doubt ≡ false
      → after.doubt ≡ false
      → own_calls after ≡ own_calls before
      → (before.doubt ≡ false → before.calls ≡ length (own_calls before))
      → (after.doubt ≡ false → after.calls ≡ length (own_calls after))
      → HasStayed before after
  HasStayed-on most on certain still same counted counts =
      let number : after.calls ≡ before.calls = counts still ∙ ap length same ∙ sym (counted certain) in
      staying after.made after.faults after.halts
      (on.value
      ∙ ap₂ (λ (n : ℕ) (b : Bool). record before { calls = n; made = after.made; faults = after.faults; halts = after.halts; doubt = b; seen = after.seen })
      number (still ∙ sym certain))
      on.told same on.faults on.halts

  pub HasStayed-same : after ≡ before → HasStayed before after
  HasStayed-same same =
      staying before.made before.faults before.halts (same ∙ ap (λ (seen : List Entry). record before { seen = seen }) (sym (ap (λ (s : SessionView). s.seen) same)))
      (subst (IsPrefix before.seen) (sym (ap (λ (s : SessionView). s.seen) same)) (IsPrefix-refl before.seen)) (ap own_calls same) (omega arith) (omega arith)

pub HasStayed-refl : (session : SessionView) → HasStayed session session
HasStayed-refl session = HasStayed-same session session refl

pub HasStayed-trans : (one two three : SessionView) → HasStayed one two → HasStayed two three → HasStayed one three
HasStayed-trans one two three first second =
    staying one three three.made three.faults three.halts
    (second.value ∙ ap (λ (s : SessionView). stayed_as s three.made three.faults three.halts three.seen) first.value)
    (IsPrefix-trans one.seen two.seen three.seen first.told second.told)
    (second.calls ∙ first.calls) (omega (arith, first.faults, second.faults)) (omega (arith, first.halts, second.halts))

-- it is at its node as before, in doubt as before, and has no mark less
module _ (before after : SessionView) (stayed : HasStayed before after) where
  pub IsAtNode-stayed : (node : NodeView) → IsAtNode node before → IsAtNode node after
  IsAtNode-stayed node at = record {
    cell = ap (λ (s : SessionView). s.cell) stayed.value ∙ at.cell;
    desk = ap (λ (s : SessionView). s.desk) stayed.value ∙ at.desk;
    conits = ap (λ (s : SessionView). s.conits) stayed.value ∙ at.conits;
    replica = ap (λ (s : SessionView). s.replica) stayed.value ∙ at.replica;
  }

  pub doubt-stayed : after.doubt ≡ before.doubt
  doubt-stayed = ap (λ (s : SessionView). s.doubt) stayed.value

  pub IsSessionOf-stayed : (node : NodeView) → IsSessionOf node before → IsSessionOf node after
  IsSessionOf-stayed node of = record { at = IsAtNode-stayed node of.at; certain = doubt-stayed ∙ of.certain }

  pub faultless-stayed : after.faults ≡ 0 → before.faults ≡ 0
  faultless-stayed none = omega (arith, stayed.faults, none)

  pub unmarked-stayed : IsUnmarked after → IsUnmarked before
  unmarked-stayed unmarked = (faultless-stayed unmarked.0, omega (arith, stayed.halts, unmarked.1))

-- What ends a node goes on.
pub HasGoneOn-refl : (end : End) → HasGoneOn end end
HasGoneOn-refl end = record { roster = refl; sessions = AllZip-refl HasStayed HasStayed-refl end.sessions.items }

pub HasGoneOn-trans : (one two three : End) → HasGoneOn one two → HasGoneOn two three → HasGoneOn one three
HasGoneOn-trans one two three first second = record {
  roster = second.roster ∙ first.roster;
  sessions = AllZip-trans HasStayed HasStayed-trans one.sessions.items two.sessions.items three.sessions.items first.sessions second.sessions;
}

pub HasGoneOn-set : (end : End) (place : ℕ) (before after : SessionView)
    → place < length end.sessions.items
    → before ≡ get_or end.sessions.items place before
    → HasStayed before after
    → HasGoneOn end (record end { sessions = with_item end.sessions place after })
HasGoneOn-set end place before after within there stayed = record {
  roster = refl;
  sessions = AllZip-set HasStayed HasStayed-refl end.sessions.items place after within
      (subst (λ s. HasStayed s after) (there ∙ get_or_default end.sessions.items place before after within) stayed);
}

pub IsEndOf-on : (node : NodeView) (before after : End) → HasGoneOn before after → IsEndOf node before → IsEndOf node after
IsEndOf-on node before after on is = record {
  roster = rw on.roster is.roster;
  sessions =
      All-zip HasStayed (IsSessionOf node) (λ one other stayed. IsSessionOf-stayed one other stayed node) before.sessions.items after.sessions.items on.sessions is.sessions;
}

pub IsWhole-on : (clients : List Client) (notes : List NoteView) (replica : ℕ) (node : NodeView) (before after : End)
    → HasGoneOn before after
    → IsWhole clients notes replica node before
    → IsWhole clients notes replica node after
IsWhole-on clients notes replica node before after on is = record {
  roster = rw on.roster is.roster;
  sessions =
      All-zip HasStayed (IsAtNode node) (λ one other stayed. IsAtNode-stayed one other stayed node) before.sessions.items after.sessions.items on.sessions is.sessions;
  whole =
      map-zip HasStayed (λ (s : SessionView). s.client) (λ one other stayed. ap (λ (s : SessionView). s.client) stayed.value) before.sessions.items after.sessions.items on.sessions
      ∙ is.whole ∙ sym (ap (λ r. r.clients) on.roster);
  among = rw on.roster is.among;
  calls =
      All-zip HasStayed (λ (s : SessionView). own_calls s ≡ noted_calls clients notes replica s.client)
      (λ one other stayed calls. stayed.calls ∙ calls ∙ ap (λ (s : SessionView). noted_calls clients notes replica s.client) (sym stayed.value))
      before.sessions.items after.sessions.items on.sessions is.calls;
}

-- no mark falls
pub IsUnmarkedEnd-on : (before after : End) → HasGoneOn before after → IsUnmarkedEnd after → IsUnmarkedEnd before
IsUnmarkedEnd-on before after on unmarked = All-zip_back HasStayed IsUnmarked unmarked-stayed before.sessions.items after.sessions.items on.sessions unmarked

pub IsFaultlessEnd-on : (before after : End) → HasGoneOn before after → IsFaultlessEnd after → IsFaultlessEnd before
IsFaultlessEnd-on before after on faultless =
    All-zip_back HasStayed (λ (s : SessionView). s.faults ≡ 0) faultless-stayed before.sessions.items after.sessions.items on.sessions faultless

-- and none is in doubt that wasn't
abbrev IsCertain : SessionView → Type 0
IsCertain session = session.doubt ≡ false

abbrev IsCertainEnd : End → Type 0
IsCertainEnd end = All IsCertain end.sessions.items

IsCertainEnd-on : (before after : End) → HasGoneOn before after → IsCertainEnd before → IsCertainEnd after
IsCertainEnd-on before after on certain =
    All-zip HasStayed IsCertain (λ one other stayed was. doubt-stayed one other stayed ∙ was) before.sessions.items after.sessions.items on.sessions certain

-- The replicas go on.
pub have_gone_on_same : (settling : SettlingView) → HaveGoneOn settling settling
have_gone_on_same settling = record { desk = refl; nodes = refl; plans = refl; ends = AllZip-refl HasGoneOn HasGoneOn-refl settling.ends }

pub have_gone_on_then : (one two three : SettlingView) → HaveGoneOn one two → HaveGoneOn two three → HaveGoneOn one three
have_gone_on_then one two three first second = record {
  desk = second.desk ∙ first.desk;
  nodes = second.nodes ∙ first.nodes;
  plans = second.plans ∙ first.plans;
  ends = AllZip-trans HasGoneOn HasGoneOn-trans one.ends two.ends three.ends first.ends second.ends;
}

pub AreUnmarked-on : (before after : SettlingView) → HaveGoneOn before after → AreUnmarked after.ends → AreUnmarked before.ends
AreUnmarked-on before after on unmarked = All-zip_back HasGoneOn IsUnmarkedEnd IsUnmarkedEnd-on before.ends after.ends on.ends unmarked

pub AreFaultless-on : (before after : SettlingView) → HaveGoneOn before after → AreFaultless after.ends → AreFaultless before.ends
AreFaultless-on before after on faultless = All-zip_back HasGoneOn IsFaultlessEnd IsFaultlessEnd-on before.ends after.ends on.ends faultless

pub AreReady-on : (before after : SettlingView)
    → HaveGoneOn before after
    → length before.ends ≡ length before.nodes
    → AreReady before
    → AreReady after
AreReady-on before after on count ready = λ replica none within.
    let here : replica < length before.nodes = subst (λ nodes. replica < length nodes) on.nodes within in
    let gone = (AllZip-at HasGoneOn before.ends after.ends replica none none on.ends (omega (arith, here, count))).1 in
    omega (arith, ready replica none here, AllZip-size HasStayed (get_or before.ends replica none).sessions.items (get_or after.ends replica none).sessions.items gone.sessions)

pub AreSettled-on : (before after : SettlingView) → HaveGoneOn before after → AreSettled before after
AreSettled-on before after on = record {
  desk = on.desk;
  nodes = on.nodes;
  ends = λ clients notes whole. record {
    count = AllZip-size HasGoneOn before.ends after.ends on.ends ∙ whole.count ∙ sym (ap length on.nodes);
    each = λ replica no_node no_end within.
        let here : replica < length before.ends = omega (arith, within, AllZip-size HasGoneOn before.ends after.ends on.ends) in
        subst (λ nodes. IsWhole clients notes replica (get_or nodes replica no_node) (get_or after.ends replica no_end)) (sym on.nodes)
        (IsWhole-on clients notes replica (get_or before.nodes replica no_node) (get_or before.ends replica no_end) (get_or after.ends replica no_end)
        (AllZip-at HasGoneOn before.ends after.ends replica no_end no_end on.ends here).1 (whole.each replica no_node no_end here));
  };
  count = AllZip-size HasGoneOn before.ends after.ends on.ends;
  unmarked = AreUnmarked-on before after on;
  faultless = AreFaultless-on before after on;
  certain = All-zip HasGoneOn IsCertainEnd IsCertainEnd-on before.ends after.ends on.ends;
  clients = λ replica none within.
      let gone = (AllZip-at HasGoneOn before.ends after.ends replica none none on.ends within).1 in
      inl (map-zip HasStayed (λ (s : SessionView). s.client) (λ one other stayed. ap (λ (s : SessionView). s.client) stayed.value)
      (get_or before.ends replica none).sessions.items (get_or after.ends replica none).sessions.items gone.sessions);
}

-- clients stay those of before
HasSameClients-trans : (one two three : End) → HasSameClients one two → HasSameClients two three → HasSameClients one three
HasSameClients-trans one two three (inl first) (inl second) = inl (second ∙ first)
HasSameClients-trans one two three (inl first) (inr second) = inr (sym first ∙ second.0, second.1)
HasSameClients-trans one two three (inr first) (inl second) = inr (first.0, second ∙ first.1)
HasSameClients-trans one two three (inr first) (inr second) = absurd (omega (arith, ap length (sym first.1 ∙ second.0)))

HasSameClients-seated : (node : NodeView) (before after : End) → HasSeated node before after → HasSameClients before after
HasSameClients-seated node before after (inl same) = inl (ap clients_by same.0)
HasSameClients-seated node before after (inr new) =
    inr (
      ap (map (λ (s : SessionView). s.client)) new.none,
      ap (map (λ (s : SessionView). s.client)) new.one ∙ ap (λ (n : ℕ). n ∷ []) new.client,
    )

pub AreSettled-trans : (one two three : SettlingView) → AreSettled one two → AreSettled two three → AreSettled one three
AreSettled-trans one two three first second = record {
  desk = second.desk ∙ first.desk;
  nodes = second.nodes ∙ first.nodes;
  ends = λ clients notes whole. second.ends clients notes (first.ends clients notes whole);
  count = second.count ∙ first.count;
  unmarked = λ unmarked. first.unmarked (second.unmarked unmarked);
  faultless = λ faultless. first.faultless (second.faultless faultless);
  certain = λ certain. second.certain (first.certain certain);
  clients = λ replica none within.
      HasSameClients-trans (get_or one.ends replica none) (get_or two.ends replica none) (get_or three.ends replica none)
      (first.clients replica none within) (second.clients replica none (omega (arith, first.count, within)));
}

-- What a step of one replica keeps of them all.
pub record HasStepped (now new : SettlingView) : Type 0 where
  pub settling : IsSettling new
  pub on : HaveGoneOn now new
  pub ready : AreReady now → AreReady new

-- One replica's end goes on, in place of the one before.
module _ {settling now : SettlingView} {replica : ℕ} {before after : End} (is : settling ≡ now) (sound : IsSettling settling) (within : replica < length now.nodes)
    (there : before ≡ get_or settling.ends replica before) (on : HasGoneOn before after) where
  abbrev gone_on : SettlingView
  gone_on = record settling { ends = set settling.ends replica after }

  at_ends : replica < length settling.ends
  at_ends = omega (arith, within, ap (λ (s : SettlingView). length s.nodes) is, sound.ends_are)

  HaveGoneOn-set : HaveGoneOn settling gone_on
  HaveGoneOn-set = record {
    desk = refl;
    nodes = refl;
    plans = refl;
    ends = AllZip-set HasGoneOn HasGoneOn-refl settling.ends replica after at_ends
        (subst (λ e. HasGoneOn e after) (there ∙ get_or_default settling.ends replica before after at_ends) on);
  }

  pub HasStepped-set : HasStepped now gone_on
  HasStepped-set = record {
    settling = record {
      sound = sound.sound;
      nodes_are = sound.nodes_are;
      ends_are = length-set settling.ends replica after ∙ sound.ends_are;
      inboxes_are = sound.inboxes_are;
      node = sound.node;
      end = λ place no_node no_end at.
          let gone = (AllZip-at HasGoneOn settling.ends gone_on.ends place no_end no_end HaveGoneOn-set.ends (omega (arith, at, sound.ends_are))).1 in
          IsEndOf-on (get_or settling.nodes place no_node) (get_or settling.ends place no_end) (get_or gone_on.ends place no_end) gone (sound.end place no_node no_end at);
      inbox = sound.inbox;
    };
    on = subst (λ s. HaveGoneOn s gone_on) is HaveGoneOn-set;
    ready = λ ready. AreReady-on settling gone_on HaveGoneOn-set sound.ends_are (subst AreReady (sym is) ready);
  }

-- One replica's inbox is changed, in which what waits is still for it.
pub IsSettling-inbox : {settling : SettlingView} {replica : ℕ} (inbox : InboxState ParcelView)
    → IsSettling settling
    → AreFor settling.desk.table replica inbox.waiting
    → IsSettling (record settling { inboxes = set settling.inboxes replica inbox })
IsSettling-inbox {settling = settling} {replica = replica} inbox sound parcels = record {
  sound = sound.sound;
  nodes_are = sound.nodes_are;
  ends_are = sound.ends_are;
  inboxes_are = length-set settling.inboxes replica inbox ∙ sound.inboxes_are;
  node = sound.node;
  end = sound.end;
  inbox = record {
    parcels = λ place none within.
        let at : place < length settling.inboxes = omega (arith, within, length-set settling.inboxes replica inbox) in
        ⊎_elim (λ (same : place ≡ replica).
        subst (λ i. AreFor settling.desk.table place i.waiting)
        (sym (ap (λ p. get_or (set settling.inboxes replica inbox) p none) same ∙ get_or-set_same settling.inboxes replica inbox none (omega (arith, same, at))))
        (subst (λ p. AreFor settling.desk.table p inbox.waiting) (sym same) parcels))
        (λ (other : place ≢ replica).
        subst (λ i. AreFor settling.desk.table place i.waiting) (sym (get_or-set_other settling.inboxes replica place inbox none other)) (sound.inbox.parcels place none at))
        (cases_eq place replica);
  };
}

-- another inbox of the same plan changes nothing of the replicas' sessions
pub HaveGoneOn-inbox : {settling now : SettlingView} (replica : ℕ) {before : InboxState ParcelView} (after : InboxState ParcelView)
    → settling ≡ now
    → before ≡ get_or settling.inboxes replica before
    → after.plan ≡ before.plan
    → HaveGoneOn now (record settling { inboxes = set settling.inboxes replica after })
HaveGoneOn-inbox {settling = settling} replica {before = before} after is there same =
    subst (λ s. HaveGoneOn s (record settling { inboxes = set settling.inboxes replica after })) is (record {
      desk = refl;
      nodes = refl;
      plans = map-set_same (λ (inbox : InboxState ParcelView). inbox.plan) settling.inboxes replica after before (same ∙ ap (λ (inbox : InboxState ParcelView). inbox.plan) there);
      ends = AllZip-refl HasGoneOn HasGoneOn-refl settling.ends;
    })

-- what waits for a replica is of its desk and for it
pub waiting-are_for : {settling now : SettlingView} {replica : ℕ} {inbox : InboxState ParcelView}
    → settling ≡ now
    → IsSettling settling
    → replica < length now.nodes
    → inbox ≡ get_or settling.inboxes replica inbox
    → AreFor settling.desk.table replica inbox.waiting
waiting-are_for {settling = settling} {replica = replica} {inbox = inbox} is sound within there =
    subst (λ (i : InboxState ParcelView). AreFor settling.desk.table replica i.waiting) (sym there)
    (sound.inbox.parcels replica inbox (omega (arith, within, ap (λ (s : SettlingView). length s.nodes) is, sound.inboxes_are)))

-- what holds of all that waits holds of the first
pub first-holds : {X : Type 0} (P : X → Type 0) (first : Option X) (before after : List X)
    → before ≡ option_to_list first ++ after
    → All P before
    → IfSome first P
first-holds P None before after split all = tt
first-holds P (Some x) before after split all = All-head P x after (subst (All P) split all)

-- a node's session of client 0 is one more of all sessions of its roster's clients
module _ (clients : List Client) (notes : List NoteView) (replica : ℕ) (node : NodeView) (before after : End) (whole : IsWhole clients notes replica node before) where
  one_new : HasOneNew node before after → IsWhole clients notes replica node after
  one_new new =
      let none : before.roster.clients ≡ [] = sym whole.whole ∙ ap (map (λ (s : SessionView). s.client)) new.none in
      let nobody : (number : ℕ) → Contains (clients_at clients replica) number → ⊥ = λ number among. Contains-none number (subst (λ cs. Contains cs number) none (whole.among number among)) in
      let seated : after.roster.clients ≡ 0 ∷ [] = ap (λ (r : RosterView). r.clients) new.roster ∙ ap (λ cs. cs ++ 0 ∷ []) none in
      record {
        roster = record {
          cell = ap (λ (r : RosterView). r.cell) new.roster ∙ whole.roster.cell;
          desk = ap (λ (r : RosterView). r.desk) new.roster ∙ whole.roster.desk;
          conits = ap (λ (r : RosterView). r.conits) new.roster ∙ whole.roster.conits;
          replica = ap (λ (r : RosterView). r.replica) new.roster ∙ whole.roster.replica;
        };
        sessions = subst (All (IsAtNode node)) (sym new.one) (All-cons (IsAtNode node) new.session [] new.of.at (All-nil (IsAtNode node)));
        whole = ap (map (λ (s : SessionView). s.client)) new.one ∙ ap (λ n. n ∷ []) new.client ∙ sym seated;
        among = λ number among. absurd (nobody number among);
        calls =
            let Seen = λ (s : SessionView). own_calls s ≡ noted_calls clients notes replica s.client in
            subst (All Seen) (sym new.one)
            (All-cons Seen new.session [] (new.calls ∙ sym (noted_calls-none clients notes replica new.session.client (false_from_ne_true (list_any (is_of replica new.session.client) clients) (λ is. nobody new.session.client (among-is_of clients replica new.session.client is))))) (All-nil Seen));
      }

  pub IsWhole-seated : HasSeated node before after → IsWhole clients notes replica node after
  IsWhole-seated (inl same) = subst (IsWhole clients notes replica node) (sym same.0) whole
  IsWhole-seated (inr new) = one_new new

pub ready-seated : (node : NodeView) (before after : End) → HasSeated node before after → 0 < length after.sessions.items
ready-seated node before after (inl same) = subst (λ (e : End). 0 < length e.sessions.items) (sym same.0) same.1
ready-seated node before after (inr new) = subst (λ (ss : List SessionView). 0 < length ss) (sym new.one) (omega arith)

-- where there was none, no session was marked or in doubt
none-held : (P : SessionView → Type 0) (sessions : List SessionView) → sessions ≡ [] → All P sessions
none-held P sessions none = subst (All P) (sym none) (All-nil P)

module _ (node : NodeView) (before after : End) where
  unmarked-seated : HasSeated node before after → IsUnmarkedEnd after → IsUnmarkedEnd before
  unmarked-seated (inl same) unmarked = subst IsUnmarkedEnd same.0 unmarked
  unmarked-seated (inr new) unmarked = none-held IsUnmarked before.sessions.items new.none

  faultless-seated : HasSeated node before after → IsFaultlessEnd after → IsFaultlessEnd before
  faultless-seated (inl same) faultless = subst IsFaultlessEnd same.0 faultless
  faultless-seated (inr new) faultless = none-held (λ (s : SessionView). s.faults ≡ 0) before.sessions.items new.none

  certain-seated : HasSeated node before after → IsCertainEnd before → IsCertainEnd after
  certain-seated (inl same) certain = subst IsCertainEnd (sym same.0) certain
  certain-seated (inr new) certain = subst (All IsCertain) (sym new.one) (All-cons IsCertain new.session [] new.of.certain (All-nil IsCertain))

-- All replicas are seated.
module _ (before after : SettlingView) (desk : after.desk ≡ before.desk) (nodes : after.nodes ≡ before.nodes) (count : length after.ends ≡ length before.ends)
    (ends_are : length before.ends ≡ length before.nodes)
    (seated : (place : ℕ) (no_node : NodeView) (none : End) → place < length before.nodes → HasSeated (get_or before.nodes place no_node) (get_or before.ends place none) (get_or after.ends place none)) where
  -- what holds of each end, by what holds of it before or after
  seated-all : (P : End → Type 0)
      → ((node : NodeView) (one other : End) → HasSeated node one other → P one → P other)
      → All P before.ends
      → All P after.ends
  seated-all P keeps all place none within =
      let here : place < length before.nodes = omega (arith, within, count, ends_are) in
      let node : NodeView = some_element before.nodes place here in
      keeps (get_or before.nodes place node) (get_or before.ends place none) (get_or after.ends place none) (seated place node none here)
      (all place none (omega (arith, here, ends_are)))

  seated-back : (P : End → Type 0)
      → ((node : NodeView) (one other : End) → HasSeated node one other → P other → P one)
      → All P after.ends
      → All P before.ends
  seated-back P keeps all place none within =
      let here : place < length before.nodes = omega (arith, within, ends_are) in
      let node : NodeView = some_element before.nodes place here in
      keeps (get_or before.nodes place node) (get_or before.ends place none) (get_or after.ends place none) (seated place node none here)
      (all place none (omega (arith, within, count)))

  pub AreSettled-seated : AreSettled before after
  AreSettled-seated = record {
    desk = desk;
    nodes = nodes;
    ends = λ clients notes whole. record {
      count = count ∙ ends_are ∙ sym (ap length nodes);
      each = λ replica no_node no_end within.
          let here : replica < length before.nodes = omega (arith, within, count, ends_are) in
          subst (λ ns. IsWhole clients notes replica (get_or ns replica no_node) (get_or after.ends replica no_end)) (sym nodes)
          (IsWhole-seated clients notes replica (get_or before.nodes replica no_node) (get_or before.ends replica no_end) (get_or after.ends replica no_end)
          (whole.each replica no_node no_end (omega (arith, here, ends_are))) (seated replica no_node no_end here));
    };
    count = count;
    unmarked = seated-back IsUnmarkedEnd unmarked-seated;
    faultless = seated-back IsFaultlessEnd faultless-seated;
    certain = seated-all IsCertainEnd certain-seated;
    clients = λ replica none within.
        let here : replica < length before.nodes = omega (arith, within, ends_are) in
        let node : NodeView = some_element before.nodes replica here in
        HasSameClients-seated (get_or before.nodes replica node) (get_or before.ends replica none) (get_or after.ends replica none) (seated replica node none here);
  }

  pub AreReady-seated : (no_node : NodeView) → AreReady after
  AreReady-seated no_node replica none within =
      let here : replica < length before.nodes = subst (λ ns. replica < length ns) nodes within in
      ready-seated (get_or before.nodes replica no_node) (get_or before.ends replica none) (get_or after.ends replica none) (seated replica no_node none here)

-- where nothing is done they are settled
pub are_settled_same : (settling : SettlingView) → AreSettled settling settling
are_settled_same settling = AreSettled-on settling settling (have_gone_on_same settling)
