-- What the loops of a round keep: what was made and what waits, step by step.
use Rattle.std.proofs.Common.{◌≡◌, ◌≢◌, ◌⊎◌, ℕ, ◌+◌, ◌*◌, ◌<◌, ◌≤◌, List, [], ◌∷◌, Contains, length, inl, inr, refl, sym, ap, ◌∙◌, subst, ⊎_elim, arith}
use Rattle.std.proofs.lemmas.Bool.{cases_eq, cases_lt}
use Rattle.std.proofs.lemmas.List.{nil_from_length}
use Rattle.tact_base.proofs.ElementLemmas.{Contains-cases, Contains-none}
use Rattle.link_faults.specs.declared.plan.TheConstants.{INBOX_MAX}
use Rattle.run_model.specs.declared.entry.Entry.{Entry}
use Rattle.run_model.specs.declared.entry.Message.{Message}
use Rattle.run_work.specs.Rounds.{AreStill, HasMadeOne, HasReached, HasSeenAt, HasSeenTaking, HasSentAll, HasSentTo, HasTaken, HaveArrived, HaveCome, HaveSentAll, made_at, waiting_at}
use Rattle.run_work.specs.Ends.{AreUnmarked}
use Rattle.run_work.specs.Settling.{HaveGoneOn, SettlingView}
use Rattle.run_work.proofs.Settled.{AreUnmarked-on}
use Rattle.run_work.proofs.RoundSteps.{HasSeenAt-on, HasSeenSending-map, HasSeenTaking-map, lose_at-on, made-same, waiting-same}

-- A replica sends to another: it makes an entry, and the message comes there, or there is no memory for it.
pub HasSentTo-put : (from to : ℕ) (before between after : SettlingView)
    → HasMadeOne from before between
    → after.ends ≡ between.ends
    → HaveCome to between after
    → HasSentTo from to before after
HasSentTo-put from to before between after made ends come =
    let same : (replica : ℕ) → waiting_at between replica ≡ waiting_at before replica = λ replica. waiting-same before between replica made.inboxes in
    record {
      mine = λ unmarked. omega (arith, made.mine (subst AreUnmarked ends unmarked), made-same between after from ends);
      others = λ unmarked other apart. omega (arith, made.others (subst AreUnmarked ends unmarked) other apart, made-same between after other ends);
      come = record {
        count = omega (arith, come.count, ap length (same to));
        kept = λ message waits. come.kept message (subst (λ ms. Contains ms message) (sym (same to)) waits);
        others = λ other apart. come.others other apart ∙ same other;
      };
    }

-- where nothing comes
pub HasSentTo-made : (from to : ℕ) (before after : SettlingView) → HasMadeOne from before after → HasSentTo from to before after
HasSentTo-made from to before after made =
    HasSentTo-put from to before after after made refl (record { count = omega arith; kept = λ message waits. waits; others = λ other apart. refl })

pub HasSentTo-still : (from to : ℕ) (before between after : SettlingView)
    → HasSentTo from to before between
    → HaveGoneOn between after
    → AreStill between after
    → HasSentTo from to before after
HasSentTo-still from to before between after sent on still =
    let same : (replica : ℕ) → waiting_at after replica ≡ waiting_at between replica = λ replica. waiting-same between after replica still.inboxes in
    record {
      mine = λ unmarked. omega (arith, sent.mine (AreUnmarked-on between after on unmarked), still.made from);
      others = λ unmarked other apart. omega (arith, sent.others (AreUnmarked-on between after on unmarked) other apart, still.made other);
      come = record {
        count = omega (arith, sent.come.count, ap length (same to));
        kept = λ message waits. subst (λ ms. Contains ms message) (sym (same to)) (sent.come.kept message waits);
        others = λ other apart. same other ∙ sent.come.others other apart;
      };
    }

-- A replica has sent to each other below a number.
pub record HasSentSome (from below : ℕ) (begun now : SettlingView) : Type 0 where
  pub mine : AreUnmarked now.ends → made_at now from ≤ made_at begun from + below
  pub passed : from < below → AreUnmarked now.ends → made_at now from + 1 ≤ made_at begun from + below
  pub others : AreUnmarked now.ends → (other : ℕ) → other ≢ from → made_at now other ≤ made_at begun other
  pub none : waiting_at now from ≡ waiting_at begun from
  pub rest : (to : ℕ) → below ≤ to → waiting_at now to ≡ waiting_at begun to
  pub count : (to : ℕ) → length (waiting_at now to) ≤ length (waiting_at begun to) + 2
  pub kept : (to : ℕ) (message : Message) → Contains (waiting_at begun to) message → Contains (waiting_at now to) message

pub HasSentSome-none : (from : ℕ) (begun : SettlingView) → HasSentSome from 0 begun begun
HasSentSome-none from begun = record {
  mine = λ unmarked. omega (arith);
  passed = λ below unmarked. absurd (omega (arith, below));
  others = λ unmarked other apart. omega (arith);
  none = refl;
  rest = λ to past. refl;
  count = λ to. omega (arith);
  kept = λ to message waits. waits;
}

pub HasSentSome-skip : (from below : ℕ) (begun now : SettlingView)
    → below ≡ from
    → HasSentSome from below begun now
    → HasSentSome from (below + 1) begun now
HasSentSome-skip from below begun now same sending = record {
  mine = λ unmarked. omega (arith, sending.mine unmarked);
  passed = λ passed unmarked. omega (arith, sending.mine unmarked);
  others = sending.others;
  none = sending.none;
  rest = λ to past. sending.rest to (omega (arith, past));
  count = sending.count;
  kept = sending.kept;
}

-- what waits for each replica goes on waiting
pub kept-come : (to : ℕ) (before after : SettlingView)
    → HaveCome to before after
    → (other : ℕ) (message : Message) → Contains (waiting_at before other) message → Contains (waiting_at after other) message
kept-come to before after come other message waits =
    ⊎_elim (λ (same : other ≡ to).
    subst (λ r. Contains (waiting_at after r) message) (sym same) (come.kept message (subst (λ r. Contains (waiting_at before r) message) same waits)))
    (λ (apart : other ≢ to). subst (λ ms. Contains ms message) (sym (come.others other apart)) waits)
    (cases_eq other to)

pub HasSentSome-more : (from below : ℕ) (begun now after : SettlingView)
    → below ≢ from
    → HasSentSome from below begun now
    → HaveGoneOn now after
    → HasSentTo from below now after
    → HasSentSome from (below + 1) begun after
HasSentSome-more from below begun now after apart sending on sent = record {
  mine = λ unmarked. omega (arith, sending.mine (AreUnmarked-on now after on unmarked), sent.mine unmarked);
  passed = λ passed unmarked. omega (arith, sent.mine unmarked, sending.passed (omega (arith, passed, apart)) (AreUnmarked-on now after on unmarked));
  others = λ unmarked other other_is.
      omega (arith, sending.others (AreUnmarked-on now after on unmarked) other other_is, sent.others unmarked other other_is);
  none = sent.come.others from (λ same. apart (sym same)) ∙ sending.none;
  rest = λ to past. sent.come.others to (λ same. absurd (omega (arith, same, past))) ∙ sending.rest to (omega (arith, past));
  count = λ to.
      ⊎_elim (λ (same : to ≡ below).
      subst (λ r. length (waiting_at after r) ≤ length (waiting_at begun r) + 2) (sym same)
      (omega (arith, sent.come.count, ap length (sending.rest below (omega arith)))))
      (λ (other : to ≢ below). omega (arith, ap length (sent.come.others to other), sending.count to))
      (cases_eq to below);
  kept = λ to message waits. kept-come below now after sent.come to message (sending.kept to message waits);
}

pub HasSentSome-all : (from below : ℕ) (begun now : SettlingView)
    → from < length begun.nodes
    → below ≤ length begun.nodes
    → HasSentSome from below begun now
    → HasSentAll from begun now
HasSentSome-all from below begun now within most sending = record {
  mine = λ unmarked.
      ⊎_elim (λ (passed : from < below). omega (arith, sending.passed passed unmarked, most))
      (λ (before : below ≤ from). omega (arith, sending.mine unmarked, before, within))
      (cases_lt from below);
  others = sending.others;
  none = sending.none;
  count = sending.count;
  kept = sending.kept;
}

-- Each replica below a number has sent to each other.
pub record HaveSentSome (below : ℕ) (begun now : SettlingView) : Type 0 where
  pub made : AreUnmarked now.ends → (replica : ℕ) → replica < below → made_at now replica + 1 ≤ made_at begun replica + length begun.nodes
  pub made_rest : AreUnmarked now.ends → (replica : ℕ) → below ≤ replica → made_at now replica ≤ made_at begun replica
  pub count : (to : ℕ) → to < below → length (waiting_at now to) + 2 ≤ length (waiting_at begun to) + 2 * below
  pub count_rest : (to : ℕ) → below ≤ to → length (waiting_at now to) ≤ length (waiting_at begun to) + 2 * below

pub HaveSentSome-none : (begun : SettlingView) → HaveSentSome 0 begun begun
HaveSentSome-none begun = record {
  made = λ unmarked replica below. absurd (omega (arith, below));
  made_rest = λ unmarked replica past. omega (arith);
  count = λ to below. absurd (omega (arith, below));
  count_rest = λ to past. omega (arith);
}

pub HaveSentSome-more : (below : ℕ) (begun now after : SettlingView)
    → length now.nodes ≡ length begun.nodes
    → HaveSentSome below begun now
    → HaveGoneOn now after
    → HasSentAll below now after
    → HaveSentSome (below + 1) begun after
HaveSentSome-more below begun now after size sending on sent = record {
  made = λ unmarked replica within.
      let was = AreUnmarked-on now after on unmarked in
      ⊎_elim (λ (same : replica ≡ below).
      subst (λ r. made_at after r + 1 ≤ made_at begun r + length begun.nodes) (sym same)
      (omega (arith, size, sent.mine unmarked, sending.made_rest was below (omega arith))))
      (λ (apart : replica ≢ below). omega (arith, sent.others unmarked replica apart, sending.made was replica (omega (arith, within, apart))))
      (cases_eq replica below);
  made_rest = λ unmarked replica past.
      omega (
        arith,
        sent.others unmarked replica (λ same. absurd (omega (arith, same, past))),
        sending.made_rest (AreUnmarked-on now after on unmarked) replica (omega (arith, past)),
      );
  count = λ to within.
      ⊎_elim (λ (same : to ≡ below).
      subst (λ r. length (waiting_at after r) + 2 ≤ length (waiting_at begun r) + 2 * (below + 1)) (sym same)
      (omega (arith, ap length sent.none, sending.count_rest below (omega arith))))
      (λ (apart : to ≢ below). omega (arith, sent.count to, sending.count to (omega (arith, within, apart))))
      (cases_eq to below);
  count_rest = λ to past. omega (arith, sent.count to, sending.count_rest to (omega (arith, past)));
}

-- there is room yet, where nothing waited
pub HaveSentSome-room : (below : ℕ) (begun now : SettlingView)
    → below < 8
    → HaveSentSome below begun now
    → (to : ℕ)
    → waiting_at begun to ≡ []
    → length (waiting_at now to) < INBOX_MAX
HaveSentSome-room below begun now few sending to none =
    ⊎_elim (λ (inside : to < below). omega (arith, sending.count to inside, few, ap length none))
    (λ (past : below ≤ to). omega (arith, sending.count_rest to past, few, ap length none))
    (cases_lt to below)

pub HaveSentSome-all : (below : ℕ) (begun now : SettlingView)
    → below ≤ length begun.nodes
    → length begun.nodes ≤ 8
    → HaveSentSome below begun now
    → HaveSentAll begun now
HaveSentSome-all below begun now most eight sending = record {
  made = λ unmarked replica within.
      ⊎_elim (λ (inside : replica < below). omega (arith, sending.made unmarked replica inside, eight))
      (λ (past : below ≤ replica). omega (arith, sending.made_rest unmarked replica past))
      (cases_lt replica below);
  count = λ to within.
      ⊎_elim (λ (inside : to < below). omega (arith, sending.count to inside, most, eight))
      (λ (past : below ≤ to). omega (arith, sending.count_rest to past, within, past, eight))
      (cases_lt to below);
}

-- A replica has taken so many of what waited for it.
pub record HasTakenSome (replica count : ℕ) (begun now : SettlingView) : Type 0 where
  pub mine : AreUnmarked now.ends → made_at now replica ≤ made_at begun replica + count
  pub others : AreUnmarked now.ends → (other : ℕ) → other ≢ replica → made_at now other ≤ made_at begun other
  pub stayed : (other : ℕ) → other ≢ replica → waiting_at now other ≡ waiting_at begun other
  pub left : length (waiting_at now replica) + count ≤ length (waiting_at begun replica)
  pub taken : (message : Message) → Contains (waiting_at begun replica) message
      → Contains (waiting_at now replica) message ⊎ HasSeenTaking (HasSeenAt now replica) replica message

pub HasTakenSome-none : (replica : ℕ) (begun : SettlingView) → HasTakenSome replica 0 begun begun
HasTakenSome-none replica begun = record {
  mine = λ unmarked. omega (arith);
  others = λ unmarked other apart. omega (arith);
  stayed = λ other apart. refl;
  left = omega (arith);
  taken = λ message waits. inl waits;
}

module _ (replica count : ℕ) (begun now next : SettlingView) (message : Message)
    (taking : HasTakenSome replica count begun now) (ends : next.ends ≡ now.ends)
    (first : waiting_at now replica ≡ message ∷ waiting_at next replica)
    (others : (other : ℕ) → other ≢ replica → waiting_at next other ≡ waiting_at now other)
    (after : SettlingView) (on_after : HaveGoneOn next after) (made : HasMadeOne replica next after) where
  waiting-after : (other : ℕ) → waiting_at after other ≡ waiting_at next other
  waiting-after other = waiting-same next after other made.inboxes

  unmarked-now : AreUnmarked after.ends → AreUnmarked now.ends
  unmarked-now unmarked = subst AreUnmarked ends (AreUnmarked-on next after on_after unmarked)

  pub mine-more : AreUnmarked after.ends → made_at after replica ≤ made_at begun replica + (count + 1)
  mine-more unmarked = omega (arith, made.mine unmarked, made-same now next replica ends, taking.mine (unmarked-now unmarked))

  pub others-more : AreUnmarked after.ends → (other : ℕ) → other ≢ replica → made_at after other ≤ made_at begun other
  others-more unmarked other apart =
      omega (arith, made.others unmarked other apart, made-same now next other ends, taking.others (unmarked-now unmarked) other apart)

  pub stayed-more : (other : ℕ) → other ≢ replica → waiting_at after other ≡ waiting_at begun other
  stayed-more other apart = waiting-after other ∙ others other apart ∙ taking.stayed other apart

  pub HasTakenSome-more : HaveGoneOn now next → HasSeenTaking (HasSeenAt after replica) replica message → HasTakenSome replica (count + 1) begun after
  HasTakenSome-more on_next took = record {
    mine = mine-more;
    others = others-more;
    stayed = stayed-more;
    left = omega (arith, taking.left, ap length (waiting-after replica), ap length first);
    taken = λ other waited.
        ⊎_elim (λ (waits : Contains (waiting_at now replica) other).
        ⊎_elim (λ (same : message ≡ other). inr (subst (HasSeenTaking (HasSeenAt after replica) replica) same took))
        (λ (behind : Contains (waiting_at next replica) other). inl (subst (λ ms. Contains ms other) (sym (waiting-after replica)) behind))
        (Contains-cases message other (waiting_at next replica) (subst (λ ms. Contains ms other) first waits)))
        (λ (taken : HasSeenTaking (HasSeenAt now replica) replica other).
        inr (HasSeenTaking-map (HasSeenAt now replica) (HasSeenAt after replica) replica other
        (λ seen was. HasSeenAt-on next after replica seen on_after (HasSeenAt-on now next replica seen on_next was)) taken))
        (taking.taken other waited);
  }

  pub HasTaken-more : HasTaken replica begun after
  HasTaken-more = record {
    mine = λ unmarked. omega (arith, mine-more unmarked, taking.left, ap length first);
    others = others-more;
    stayed = stayed-more;
  }

-- where nothing waits it has taken all
pub HasTakenSome-none_next : (replica count : ℕ) (begun now next : SettlingView)
    → HasTakenSome replica count begun now
    → HaveGoneOn now next
    → next.ends ≡ now.ends
    → waiting_at now replica ≡ waiting_at next replica
    → ((other : ℕ) → other ≢ replica → waiting_at next other ≡ waiting_at now other)
    → HasTakenSome replica count begun next
HasTakenSome-none_next replica count begun now next taking on ends first others = record {
  mine = λ unmarked. omega (arith, taking.mine (subst AreUnmarked ends unmarked), made-same now next replica ends);
  others = λ unmarked other apart. omega (arith, taking.others (subst AreUnmarked ends unmarked) other apart, made-same now next other ends);
  stayed = λ other apart. others other apart ∙ taking.stayed other apart;
  left = omega (arith, taking.left, ap length first);
  taken = λ message waited.
      ⊎_elim (λ (waits : Contains (waiting_at now replica) message). inl (subst (λ ms. Contains ms message) first waits))
      (λ (taken : HasSeenTaking (HasSeenAt now replica) replica message).
      inr (HasSeenTaking-map (HasSeenAt now replica) (HasSeenAt next replica) replica message (λ seen was. HasSeenAt-on now next replica seen on was) taken))
      (taking.taken message waited);
}

pub HasTaken-some : (replica count : ℕ) (begun now : SettlingView) → HasTakenSome replica count begun now → HasTaken replica begun now
HasTaken-some replica count begun now taking = record {
  mine = λ unmarked. omega (arith, taking.mine unmarked, taking.left);
  others = taking.others;
  stayed = taking.stayed;
}

pub HasTakenSome-all : (replica count : ℕ) (begun now : SettlingView)
    → HasTakenSome replica count begun now
    → waiting_at now replica ≡ []
    → (message : Message)
    → Contains (waiting_at begun replica) message
    → HasSeenTaking (HasSeenAt now replica) replica message
HasTakenSome-all replica count begun now taking none message waited =
    ⊎_elim (λ (waits : Contains (waiting_at now replica) message). absurd (Contains-none message (subst (λ ms. Contains ms message) none waits)))
    (λ (taken : HasSeenTaking (HasSeenAt now replica) replica message). taken)
    (taking.taken message waited)

pub HasTakenSome-empty : (replica count : ℕ) (begun now : SettlingView)
    → HasTakenSome replica count begun now
    → length (waiting_at begun replica) ≤ count
    → waiting_at now replica ≡ []
HasTakenSome-empty replica count begun now taking all = nil_from_length (waiting_at now replica) (omega (arith, taking.left, all))

-- Each replica below a number has taken what waited for it.
pub record HaveTakenSome (below : ℕ) (begun now : SettlingView) : Type 0 where
  pub made : AreUnmarked now.ends → (replica : ℕ) → made_at now replica ≤ made_at begun replica + length (waiting_at begun replica)
  pub few : AreUnmarked now.ends → (replica : ℕ) → made_at now replica ≤ made_at begun replica + INBOX_MAX
  pub made_rest : AreUnmarked now.ends → (replica : ℕ) → below ≤ replica → made_at now replica ≤ made_at begun replica
  pub rest : (replica : ℕ) → below ≤ replica → waiting_at now replica ≡ waiting_at begun replica

pub HaveTakenSome-none : (begun : SettlingView) → HaveTakenSome 0 begun begun
HaveTakenSome-none begun = record {
  made = λ unmarked replica. omega (arith);
  few = λ unmarked replica. omega (arith);
  made_rest = λ unmarked replica past. omega (arith);
  rest = λ replica past. refl;
}

pub HaveTakenSome-more : (below : ℕ) (begun now after : SettlingView)
    → HaveTakenSome below begun now
    → HaveGoneOn now after
    → HasTaken below now after
    → length (waiting_at now below) ≤ INBOX_MAX
    → HaveTakenSome (below + 1) begun after
HaveTakenSome-more below begun now after taking on took small = record {
  made = λ unmarked replica.
      let was = AreUnmarked-on now after on unmarked in
      ⊎_elim (λ (same : replica ≡ below).
      subst (λ r. made_at after r ≤ made_at begun r + length (waiting_at begun r)) (sym same)
      (omega (arith, took.mine unmarked, taking.made_rest was below (omega arith), ap length (taking.rest below (omega arith)))))
      (λ (apart : replica ≢ below). omega (arith, took.others unmarked replica apart, taking.made was replica))
      (cases_eq replica below);
  few = λ unmarked replica.
      let was = AreUnmarked-on now after on unmarked in
      ⊎_elim (λ (same : replica ≡ below).
      subst (λ r. made_at after r ≤ made_at begun r + INBOX_MAX) (sym same)
      (omega (arith, small, took.mine unmarked, taking.made_rest was below (omega arith))))
      (λ (apart : replica ≢ below). omega (arith, took.others unmarked replica apart, taking.few was replica))
      (cases_eq replica below);
  made_rest = λ unmarked replica past.
      omega (
        arith,
        took.others unmarked replica (λ same. absurd (omega (arith, same, past))),
        taking.made_rest (AreUnmarked-on now after on unmarked) replica (omega (arith, past)),
      );
  rest = λ replica past. took.stayed replica (λ same. absurd (omega (arith, same, past))) ∙ taking.rest replica (omega (arith, past));
}

-- what reached the other replicas, and was then taken, has arrived
pub HaveArrived-taken : (front : List Entry) (before between after : SettlingView)
    → HaveGoneOn before between
    → HaveGoneOn between after
    → ((from to : ℕ) → from < length before.nodes → to < length before.nodes → to ≢ from → HasReached front from to between)
    → ((replica : ℕ) (message : Message) → replica < length between.nodes → Contains (waiting_at between replica) message → HasSeenTaking (HasSeenAt after replica) replica message)
    → HaveArrived front after
HaveArrived-taken front before between after on_first on reached taken from to from_within to_within apart =
    let at = reached from to (omega (arith, from_within, ap length on.nodes, ap length on_first.nodes)) (omega (arith, to_within, ap length on.nodes, ap length on_first.nodes)) apart in
    record {
      message = at.message;
      sent = HasSeenSending-map (HasSeenAt between from) (HasSeenAt after from) front from to at.message (λ seen. HasSeenAt-on between after from seen on) at.sent;
      taken = λ none. taken to at.message (omega (arith, to_within, ap length on.nodes)) (at.waits (sym (lose_at-on between after to on) ∙ none));
    }
