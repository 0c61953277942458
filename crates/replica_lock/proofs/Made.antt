-- What a session has seen after an entry that is no call.
use Rattle.std.proofs.Common.{◌≡◌, ℕ, ◌+◌, Bool, false, cond, List, [], ◌∷◌, ◌++◌, filter, refl, sym, ap, ◌∙◌, subst}
use Rattle.std.proofs.lemmas.List.{append-nil, same_from_push}
use Rattle.std.proofs.lemmas.List.Elements.{filter-append}
use Rattle.tact_base.specs.Setup.{Setup, IsSetup}
use Rattle.run_model.specs.Histories.{part_of, calls_in, calls_of, is_call_of, moment_at}
use Rattle.run_model.specs.Runs.{IsRun, IsLawful}
use Rattle.run_model.specs.declared.entry.Act.{Act}
use Rattle.run_model.specs.declared.entry.Entry.{Entry}
use Rattle.run_model.proofs.PartLemmas.{part_of-push_same}
use Rattle.run_model.proofs.PrefixLemmas.{EachAfter-last}
use Rattle.run_promises.proofs.Kept.{IsKept-run}
use Rattle.locked_replica.specs.Locks.{HasEntered, LockedView, entry_in, part_in}
use Rattle.replica_lock.specs.Sessions.{SessionView, HasMade, entry_after}
use Rattle.replica_lock.proofs.Seeing.{calls_of-same}

-- with one more entry that is no call of the client
calls_of-quiet : (front : List Entry) (session : SessionView) (moment : ℕ) (done : Act)
    → is_call_of session.client done ≡ false
    → calls_of (front ++ entry_after session front moment done ∷ []) session.replica session.client ≡ calls_of front session.replica session.client
calls_of-quiet front session moment done quiet =
    let entry = entry_after session front moment done in
    let test = λ (e : Entry). is_call_of session.client e.act in
    ap (filter test) (part_of-push_same front entry session.replica refl)
    ∙ filter-append test (part_of front session.replica) (entry ∷ [])
    ∙ ap (λ (b : Bool). calls_of front session.replica session.client ++ cond b (entry ∷ []) []) quiet
    ∙ append-nil (calls_of front session.replica session.client)

module _ (setup : Setup) (sound : IsSetup setup) (before after : LockedView) (old new : SessionView) (moment : ℕ) (done : Act)
    (of_setup : setup ≡ before.core.setup) (replica : old.replica ≡ before.core.replica)
    (entered : HasEntered before after old.seen (entry_in before moment done))
    (value : new ≡ record old { made = old.made + 1; seen = after.clerk.seen }) where
  part_is : part_of entered.front old.replica ≡ part_in before
  part_is = ap (part_of entered.front) replica ∙ entered.part

  spelt : entry_in before moment done ≡ entry_after old entered.front moment done
  spelt =
      sym (ap (λ r. let e : Entry = record { replica = r; moment = moment_at (part_of entered.front old.replica) moment; act = done } in e) replica
      ∙ ap (λ p. let e : Entry = record { replica = before.core.replica; moment = moment_at p moment; act = done } in e) part_is)

  seen_is : new.seen ≡ entered.front ++ entry_after old entered.front moment done ∷ []
  seen_is = ap (λ (s : SessionView). s.seen) value ∙ entered.seen ∙ ap (λ (e : Entry). entered.front ++ e ∷ []) spelt

  pub HasMade-entered : (old.doubt ≡ false → old.calls ≡ calls_in (part_in before) old.client)
      → (old.doubt ≡ false → calls_in (part_of old.seen old.replica) old.client ≡ old.calls)
      → is_call_of old.client done ≡ false
      → HasMade setup old new moment done
  HasMade-entered calls known quiet =
      let front = entered.front in
      let entry = entry_after old front moment done in
      let run : IsRun setup new.seen = subst (λ (s : SessionView). IsRun setup s.seen) (sym value) (subst (λ s. IsRun s after.clerk.seen) (sym of_setup) entered.run) in
      let lawful = EachAfter-last (IsLawful setup) front entry (subst (IsRun setup) seen_is run) in
      record {
        front = front;
        seen = seen_is;
        told = entered.told;
        due = lawful.due;
        calls = λ certain.
            let same = calls_of-same old.seen front old.replica old.client entered.told (known certain ∙ calls certain ∙ ap (λ p. calls_in p old.client) (sym part_is)) in
            ap (λ (s : SessionView). calls_of s.seen s.replica s.client) value
            ∙ ap (λ h. calls_of h old.replica old.client) (entered.seen ∙ ap (λ (e : Entry). front ++ e ∷ []) spelt)
            ∙ calls_of-quiet front old moment done quiet
            ∙ sym same;
        run = run;
        promised = IsKept-run setup new.seen sound run;
        counts = value ∙ ap (λ h. record old { made = old.made + 1; seen = h }) (ap (λ (s : SessionView). s.seen) (sym value));
      }

  -- the part before the entry is the one that stood behind the lock
  pub HasMade-part : (made : HasMade setup old new moment done) → part_of made.front old.replica ≡ part_in before
  HasMade-part made =
      ap (λ h. part_of h old.replica) (same_from_push made.front entered.front (entry_after old made.front moment done)
      (entry_after old entered.front moment done) (sym made.seen ∙ seen_is)).0 ∙ part_is
