-- An entry that changes neither writes nor budgets: the replica stands for its part with the entry, whatever it counts.
use Rattle.std.proofs.Common.{◌≡◌, ℕ, ◌≤◌, false, List, [], ◌∷◌, ◌++◌, length, None, refl, sym, ap, ◌∙◌, arith}
use Rattle.tact_base.specs.declared.limits.TheConstants.{CLIENTS, MOMENT_MAX}
use Rattle.run_model.specs.Histories.{taken_by_act}
use Rattle.run_model.specs.Loans.{lent_by_act, returned_by_act}
use Rattle.run_model.specs.Missing.{granted_by, used_by}
use Rattle.run_model.specs.OwnWrites.{accepted_by}
use Rattle.run_model.specs.Runs.{IsDue, FitsIfTaken}
use Rattle.run_model.specs.declared.entry.Act.{Act}
use Rattle.run_model.specs.declared.entry.Act.TheVariants as act
use Rattle.run_model.specs.declared.entry.Entry.{Entry}
use Rattle.run_model.proofs.PartLemmas.{sent_in-push_none, calls_in-push}
use Rattle.replica_core.specs.States.{Core, CountsKept, HasPlaces, entered, is_full}
use Rattle.replica_core.specs.Stands.{Stands}
use Rattle.replica_core.proofs.StandsAfterEntry.{AreCountsReady, Stands-entered}
use Rattle.replica_core.proofs.DueEntries.{entry_of, is_due, goes_on, has_grown}
use Rattle.replica_core.proofs.QuietEntries.{AreWritesReady-quiet, weights-same, reserved-same, lent-same, returned-same, BudgetsStand-further}

-- it accepts and takes no write, reserves and uses nothing, and moves no loan
pub record IsQuiet (done : Act) : Type 0 where
  pub accepts : (replica moment : ℕ) → accepted_by replica moment done ≡ None
  pub takes : taken_by_act done ≡ None
  pub grants : (conit : ℕ) → granted_by conit done ≡ 0
  pub uses : (conit : ℕ) → used_by conit done ≡ 0
  pub lends : (peer conit : ℕ) → lent_by_act peer conit done ≡ 0
  pub gives : (peer conit : ℕ) → returned_by_act peer conit done ≡ 0

module _ (part : List Entry) (core : Core) (stands : Stands part core) (free : is_full core ≡ false) (places : HasPlaces core) (handed : ℕ) (handed_in : handed ≤ MOMENT_MAX) where
  pub Stands-quiet : (done : Act) (counts : CountsKept)
      → IsDue core.setup part (entry_of core.replica part handed done)
      → FitsIfTaken core.setup core.replica part done
      → IsQuiet done
      → length counts.calls ≡ CLIENTS
      → AreCountsReady part (entry_of core.replica part handed done) counts
      → Stands (part ++ entry_of core.replica part handed done ∷ []) (entered (record core { counts = counts }) handed)
  Stands-quiet done counts due fits quiet sized ready =
      let entry = entry_of core.replica part handed done in
      let counted : Core = record core { counts = counts } in
      let placed : HasPlaces counted =
      record { among = places.among; bases_sized = places.bases_sized; logs_sized = places.logs_sized; covers_sized = places.covers_sized; known_sized = places.known_sized; calls_sized = sized } in
      Stands-entered part entry counted handed
      (record {
        before = stands.is_part;
        is_part = goes_on part core stands free places.among handed handed_in done due fits;
        grows = has_grown part core stands free places.among handed handed_in done due;
        writes = AreWritesReady-quiet part entry counted stands.writes placed (quiet.accepts core.replica entry.moment) quiet.takes;
        budgets =
            let kept = core.budgets in
            let before = stands.budgets in
            BudgetsStand-further core.setup core.replica part entry kept before quiet.takes kept.weights kept.reserved kept.lent kept.returned
            (weights-same core.setup core.replica part entry kept before quiet.takes (quiet.accepts core.replica entry.moment))
            (reserved-same core.setup core.replica part entry kept before quiet.takes quiet.grants quiet.uses)
            (lent-same core.setup core.replica part entry kept before quiet.takes quiet.lends)
            (returned-same core.setup core.replica part entry kept before quiet.takes quiet.gives);
        counts = ready;
      }) refl placed quiet.takes

  -- a restart leaves all but the counts
  pub Stands-restarted : Stands (part ++ entry_of core.replica part handed act.Restart ∷ []) (entered core handed)
  Stands-restarted =
      let entry = entry_of core.replica part handed act.Restart in
      Stands-quiet act.Restart core.counts (is_due part core stands free places.among handed handed_in act.Restart tt tt) tt
      (record { accepts = λ replica moment. refl; takes = refl; grants = λ conit. refl; uses = λ conit. refl; lends = λ peer conit. refl; gives = λ peer conit. refl })
      places.calls_sized
      (record {
        calls = λ client within. stands.counts.calls client within ∙ sym (calls_in-push part entry client ∙ omega arith);
        sends = stands.counts.sends ∙ sym (ap length (sent_in-push_none part entry refl));
        count = stands.counts.count;
        last = stands.counts.last;
      })
