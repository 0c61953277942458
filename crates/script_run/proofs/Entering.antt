-- An entry of a replica that was made is kept, and the stage goes on.
use Rattle.std.proofs.Common.{◌≡◌, ℕ, ◌<◌, true, List, [], ◌∷◌, ◌++◌, length, refl, sym, ap, ap₂, ◌∙◌, subst, arith, None}
use Rattle.tact_base.specs.Setup.{Setup}
use Rattle.run_model.specs.Histories.{part_of, moment_at}
use Rattle.run_model.specs.Runs.{IsDue, IsRun, WasSent}
use Rattle.run_model.specs.OwnWrites.{accepted_by}
use Rattle.run_model.specs.ScriptRuns.{Played, zeros, enters, entries_text}
use Rattle.run_model.specs.declared.entry.Act.{Act}
use Rattle.run_model.specs.declared.entry.Entry.{Entry}
use Rattle.replica_set.specs.Sets.{SetState, StandsFor, GoesOn, entry_of}
use Rattle.replica_set.proofs.StandingRuns.{last_is_due, run_goes_on}
use Rattle.reference_book.specs.Books.{BookState, IsBookOf}
use Rattle.reference_book.proofs.Histories.{IsBookOf-quiet}
use Rattle.run_model.proofs.PartLemmas.{sent_by}
use Rattle.script_run.proofs.Outboxes.{sent_stay}
use Rattle.script_run.specs.Stages.{AreSent, Keeps, IsMade, Entered, GoesOnTo, Enters, setup_in, played_in}
use Rattle.script_run.specs.declared.stage.Stage.{Stage}

-- What was made after an act of a replica, where the set went on with it.
module _ (old : Stage) (keeps : Keeps old) (replica : ℕ) (within : replica < (setup_in old).replicas) (set : SetState) (same : set.setup ≡ setup_in old)
    (done : List Entry → Act) (goes : GoesOn old.set set replica old.handed done) (entry : Entry)
    (is : entry ≡ entry_of old.history.items replica old.handed (done (part_of old.history.items replica))) (was_sent : WasSent old.history.items entry.act) where
  pub made_stands : StandsFor (old.history.items ++ entry ∷ []) set
  made_stands = subst (λ e. StandsFor (old.history.items ++ e ∷ []) set) (sym is) (goes old.history.items keeps.stands)

  made_within : entry.replica < set.setup.replicas
  made_within = omega (arith, within, ap (λ (e : Entry). e.replica) is, ap (λ (s : Setup). s.replicas) same)

  pub made_due : IsDue (setup_in old) (part_of old.history.items entry.replica) entry
  made_due = subst (λ s. IsDue s (part_of old.history.items entry.replica) entry) same (last_is_due old.history.items entry set made_stands made_within)

  pub made_run : IsRun set.setup (old.history.items ++ entry ∷ [])
  made_run =
      run_goes_on old.history.items entry set made_stands made_within
      (subst (λ s. IsRun s old.history.items) (sym same) keeps.run) was_sent

  pub is_made : (mid : Stage)
      → mid.set ≡ set
      → mid.history.items ≡ old.history.items
      → mid.prints ≡ old.prints
      → (old.prints ≡ true → IsBookOf (setup_in old) (old.history.items ++ entry ∷ []) mid.book)
      → IsMade mid entry
  is_made mid set_is history_is prints_is book =
      let setup_is : setup_in mid ≡ set.setup = ap (λ (s : SetState). s.setup) set_is in
      record {
        replica = omega (arith, made_within, ap (λ (s : Setup). s.replicas) setup_is);
        stands = subst (λ es. StandsFor (es ++ entry ∷ []) mid.set) (sym history_is) (subst (StandsFor (old.history.items ++ entry ∷ [])) (sym set_is) made_stands);
        run = subst (λ es. IsRun (setup_in mid) (es ++ entry ∷ [])) (sym history_is) (subst (λ s. IsRun s (old.history.items ++ entry ∷ [])) (sym setup_is) made_run);
        book = λ prints. subst (λ es. IsBookOf (setup_in mid) (es ++ entry ∷ []) mid.book) (sym history_is)
            (subst (λ s. IsBookOf s (old.history.items ++ entry ∷ []) mid.book) (sym (setup_is ∙ same)) (book (sym prints_is ∙ prints)));
      }

  -- where it accepts nothing
  pub is_made_quiet : (mid : Stage)
      → mid.set ≡ set
      → mid.history.items ≡ old.history.items
      → mid.prints ≡ old.prints
      → mid.book ≡ old.book
      → accepted_by entry.replica entry.moment entry.act ≡ None
      → IsMade mid entry
  is_made_quiet mid set_is history_is prints_is book_is none =
      is_made mid set_is history_is prints_is
      (λ prints. subst (IsBookOf (setup_in old) (old.history.items ++ entry ∷ [])) (sym book_is)
      (IsBookOf-quiet (setup_in old) old.history.items old.book (keeps.book prints) entry none))

-- The entry is entered, and what was sent is settled then.
module _ (old mid entered last : Stage) (keeps : Keeps old) (entry : Entry) (text text' : List ℕ) (same : setup_in mid ≡ setup_in old)
    (history : mid.history.items ≡ old.history.items) (handed : mid.handed ≡ old.handed) (none : mid.zeros ≡ old.zeros)
    (prints : mid.prints ≡ old.prints)
    (made : IsMade mid entry) (enter : Entered mid entered entry text text') (last_is : last ≡ record entered { sent = last.sent }) where
  last_history : last.history.items ≡ mid.history.items ++ entry ∷ []
  last_history = ap (λ (s : Stage). s.history.items) last_is ∙ enter.history

  last_set : last.set ≡ mid.set
  last_set = ap (λ (s : Stage). s.set) last_is ∙ ap (λ (s : Stage). s.set) enter.stage

  last_setup : setup_in last ≡ setup_in old
  last_setup = ap (λ (s : SetState). s.setup) last_set ∙ same

  last_handed : last.handed ≡ old.handed
  last_handed = ap (λ (s : Stage). s.handed) last_is ∙ ap (λ (s : Stage). s.handed) enter.stage ∙ handed

  last_prints : last.prints ≡ old.prints
  last_prints = ap (λ (s : Stage). s.prints) last_is ∙ ap (λ (s : Stage). s.prints) enter.stage ∙ prints

  last_book : last.book ≡ mid.book
  last_book = ap (λ (s : Stage). s.book) last_is ∙ ap (λ (s : Stage). s.book) enter.stage

  last_zeros : last.zeros ≡ old.zeros
  last_zeros = ap (λ (s : Stage). s.zeros) last_is ∙ ap (λ (s : Stage). s.zeros) enter.stage ∙ none

  abbrev longer : List Entry
  longer = mid.history.items ++ entry ∷ []

  last_keeps : length last.sent.items ≡ (setup_in old).replicas
      → AreSent (setup_in old) (old.history.items ++ entry ∷ []) last.sent.items
      → Keeps last
  last_keeps sized sent = record {
    stands = subst (λ es. StandsFor es last.set) (sym last_history) (subst (StandsFor longer) (sym last_set) made.stands);
    run = subst (λ es. IsRun (setup_in last) es) (sym last_history) (subst (λ (s : SetState). IsRun s.setup longer) (sym last_set) made.run);
    handed = omega (arith, keeps.handed, last_handed);
    sized = sized ∙ sym (ap (λ (s : Setup). s.replicas) last_setup);
    sent = subst (λ (s : Setup). AreSent s last.history.items last.sent.items) (sym last_setup)
        (subst (λ es. AreSent (setup_in old) es last.sent.items) (sym (last_history ∙ ap (λ (es : List Entry). es ++ entry ∷ []) history)) sent);
    zeros = last_zeros ∙ keeps.zeros ∙ sym (ap zeros last_setup);
    book = λ yes. subst (λ es. IsBookOf (setup_in last) es last.book) (sym last_history)
        (subst (λ (book : BookState). IsBookOf (setup_in last) longer book) (sym last_book)
        (subst (λ (s : SetState). IsBookOf s.setup longer mid.book) (sym last_set) (made.book (prints ∙ sym last_prints ∙ yes))));
  }

  -- and is the one that is due
  pub enters_one : length last.sent.items ≡ (setup_in old).replicas
      → AreSent (setup_in old) (old.history.items ++ entry ∷ []) last.sent.items
      → (replica : ℕ) (does : List Entry → ℕ → Act)
      → entry ≡ entry_of old.history.items replica old.handed (does (part_of old.history.items replica) (moment_at (part_of old.history.items replica) old.handed))
      → Enters old last (enters (played_in old) replica does) text text'
  enters_one sized sent replica does is = record {
    goes = record {
      keeps = last_keeps sized sent;
      setup = last_setup;
      played = played_is;
      prints = last_prints;
    };
    made = entry ∷ [];
    history = ap (λ (e : Entry). old.history.items ++ e ∷ []) (sym is);
    text = λ yes. enter.text (prints ∙ yes) ∙ same_text;
  }
    where
      end : Played
      end = enters (played_in old) replica does

      played_is : played_in last ≡ end
      played_is =
          ap₂ (λ (es : List Entry) (h : ℕ). let p : Played = record { history = es; handed = h } in p)
          (last_history ∙ ap (λ (es : List Entry). es ++ entry ∷ []) history) last_handed
          ∙ ap (λ (e : Entry). let p : Played = record { history = old.history.items ++ e ∷ []; handed = old.handed } in p) is

      same_text : text ++ entries_text (setup_in mid) mid.history.items (entry ∷ []) ≡ text ++ entries_text (setup_in old) old.history.items (entry ∷ [])
      same_text =
          ap (λ (s : Setup). text ++ entries_text s mid.history.items (entry ∷ [])) same
          ∙ ap (λ (es : List Entry). text ++ entries_text (setup_in old) es (entry ∷ [])) history

-- An entry that sends nothing is entered, and all messages are at hand.
pub enters_quiet : (old mid entered last : Stage) (keeps : Keeps old) (entry : Entry) (text text' : List ℕ) (replica : ℕ) (does : List Entry → ℕ → Act)
    → setup_in mid ≡ setup_in old
    → mid.history.items ≡ old.history.items
    → mid.handed ≡ old.handed
    → mid.zeros ≡ old.zeros
    → mid.prints ≡ old.prints
    → last ≡ record entered { sent = last.sent }
    → last.sent.items ≡ old.sent.items
    → sent_by entry ≡ None
    → entry ≡ entry_of old.history.items replica old.handed (does (part_of old.history.items replica) (moment_at (part_of old.history.items replica) old.handed))
    → IsMade mid entry
    → Entered mid entered entry text text'
    → Enters old last (enters (played_in old) replica does) text text'
enters_quiet old mid entered last keeps entry text text' replica does same history handed none prints last_is sent quiet is made enter =
    enters_one old mid entered last keeps entry text text' same history handed none prints made enter last_is
    (ap length sent ∙ keeps.sized)
    (subst (AreSent (setup_in old) (old.history.items ++ entry ∷ [])) (sym sent) (sent_stay old.history.items entry (setup_in old) old.sent.items keeps.sent quiet))
    replica does is

-- and where nothing was sent before either
pub enters_alone : (old mid new : Stage) (keeps : Keeps old) (entry : Entry) (text text' : List ℕ) (replica : ℕ) (does : List Entry → ℕ → Act)
    → setup_in mid ≡ setup_in old
    → mid ≡ record old { set = mid.set; book = mid.book; calling = mid.calling }
    → sent_by entry ≡ None
    → entry ≡ entry_of old.history.items replica old.handed (does (part_of old.history.items replica) (moment_at (part_of old.history.items replica) old.handed))
    → IsMade mid entry
    → Entered mid new entry text text'
    → Enters old new (enters (played_in old) replica does) text text'
enters_alone old mid new keeps entry text text' replica does same mid_is quiet is made enter =
    enters_quiet old mid new new keeps entry text text' replica does same
    (ap (λ (s : Stage). s.history.items) mid_is) (ap (λ (s : Stage). s.handed) mid_is) (ap (λ (s : Stage). s.zeros) mid_is) (ap (λ (s : Stage). s.prints) mid_is)
    refl (ap (λ (s : Stage). s.sent.items) enter.stage ∙ ap (λ (s : Stage). s.sent.items) mid_is) quiet is made enter

-- and where what was sent is dated, so that all messages are still at hand
pub enters_dated : (old mid last : Stage) (keeps : Keeps old) (entry : Entry) (text text' : List ℕ) (replica : ℕ) (does : List Entry → ℕ → Act)
    → setup_in mid ≡ setup_in old
    → mid ≡ record old { set = mid.set; sent = mid.sent }
    → length mid.sent.items ≡ length old.sent.items
    → AreSent (setup_in old) old.history.items mid.sent.items
    → sent_by entry ≡ None
    → entry ≡ entry_of old.history.items replica old.handed (does (part_of old.history.items replica) (moment_at (part_of old.history.items replica) old.handed))
    → IsMade mid entry
    → Entered mid last entry text text'
    → Enters old last (enters (played_in old) replica does) text text'
enters_dated old mid last keeps entry text text' replica does same mid_is sized sent quiet is made enter =
    let last_sent : last.sent.items ≡ mid.sent.items = ap (λ (s : Stage). s.sent.items) enter.stage in
    enters_one old mid last last keeps entry text text' same
    (ap (λ (s : Stage). s.history.items) mid_is) (ap (λ (s : Stage). s.handed) mid_is) (ap (λ (s : Stage). s.zeros) mid_is) (ap (λ (s : Stage). s.prints) mid_is)
    made enter refl
    (ap length last_sent ∙ sized ∙ keeps.sized)
    (subst (AreSent (setup_in old) (old.history.items ++ entry ∷ [])) (sym last_sent) (sent_stay old.history.items entry (setup_in old) mid.sent.items sent quiet))
    replica does is

-- A call that was refused leaves all as it was.
pub same_set : (old : Stage) (set : SetState)
    → set ≡ old.set
    → Keeps old
    → GoesOnTo old (record old { set = set }) (played_in old)
same_set old set same keeps =
    subst (λ (s : SetState). GoesOnTo old (record old { set = s }) (played_in old)) (sym same)
    (record { keeps = keeps; setup = refl; played = refl; prints = refl })
