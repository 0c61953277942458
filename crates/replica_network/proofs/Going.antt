-- What is kept of the replicas of a setup goes on to be kept, with each entry that they make.
use Rattle.std.proofs.Common.{◌≡◌, ℕ, ◌<◌, ◌||◌, Bool, false, List, [], ◌∷◌, ◌++◌, length, map, replicate, None, Some, refl, sym, ap, ap₂, ◌∙◌, subst, arith}
use Rattle.std.proofs.lemmas.Bool.{lt-leb}
use Rattle.std.proofs.lemmas.List.FromFn.{length-range_with_len}
use Rattle.std.proofs.lemmas.Simd.{splat_is_map}
use Rattle.tact_base.specs.Setup.{IsSetup, Setup, replicas_of}
use Rattle.tact_base.specs.declared.limits.TheConstants.{HISTORY_MAX, STAMP_MAX}
use Rattle.run_model.specs.Histories.{moment_at, part_of, sent_by_act, sent_in}
use Rattle.run_model.specs.Runs.{IsLawful, IsRun, WasSent}
use Rattle.run_model.specs.ScriptRuns.{zeros}
use Rattle.run_model.specs.declared.entry.Act.{Act}
use Rattle.run_model.specs.declared.entry.Entry.{Entry}
use Rattle.run_model.specs.declared.entry.Message.{Message}
use Rattle.run_model.proofs.ClockBound.{clock-run}
use Rattle.run_model.proofs.PartLemmas.{length-mine}
use Rattle.run_model.proofs.PrefixLemmas.{EachAfter-nil}
use Rattle.replica_core.specs.States.{Core, is_full}
use Rattle.replica_core.specs.Stands.{IsFaultOf}
use Rattle.replica_core.specs.declared.fault.CoreFault.{CoreFault}
use Rattle.replica_core.specs.declared.fault.CoreFault.TheVariants as fault
use Rattle.replica_set.specs.Sets.{HoldsAt, IsAt, SetState, StandsFor, entry_of, with_act}
use Rattle.replica_set.proofs.StandingRuns.{core_there, run_goes_on}
use Rattle.replica_network.specs.Keeping.{Keeps, message_at}
use Rattle.replica_network.specs.Networks.{NetworkState}
use Rattle.replica_network.proofs.SendPlaces.{sends_more, sends_same}

-- the state that contracts see, by its parts
abbrev pub state_of : SetState → List Entry → NetworkState
state_of set entries = record { setup = set.setup; entries = entries }

-- replicas that did nothing
pub keeps_none : (set : SetState) (setup : Setup) (entries : List Entry) (sends firsts : List ℕ)
    → IsSetup setup
    → set.setup ≡ setup
    → StandsFor [] set
    → entries ≡ []
    → sends ≡ []
    → firsts ≡ replicate setup.replicas 0
    → Keeps set entries sends firsts
keeps_none set setup entries sends firsts good same stands nothing none are = record {
  good = subst IsSetup (sym same) good;
  stands = subst (λ (es : List Entry). StandsFor es set) (sym nothing) stands;
  run = subst (IsRun set.setup) (sym nothing) (EachAfter-nil (IsLawful set.setup));
  sends = ap (map (message_at entries)) none ∙ ap (λ (es : List Entry). map Some (sent_in es)) (sym nothing);
  zeros = are ∙ splat_is_map (replicas_of setup) setup.replicas 0 (length-range_with_len 0 setup.replicas) ∙ ap zeros (sym same);
}

-- So much is kept.
module _ (set : SetState) (entries : List Entry) (sends firsts : List ℕ) (keeps : Keeps set entries sends firsts) where
  -- where few entries were made no replica is full, so a fault is want of memory
  not_full : (replica : ℕ) (core : Core)
      → length entries < HISTORY_MAX
      → IsAt set replica core
      → is_full core ≡ false
  not_full replica core few here =
      let stands = keeps.stands.parts replica core here in
      let count : core.counts.count < HISTORY_MAX = omega (arith, stands.counts.count, length-mine entries replica, few) in
      let below : core.writes.clock < STAMP_MAX = omega (arith, stands.writes.clock, clock-run set.setup entries keeps.run replica, few) in
      ap₂ (λ (a b : Bool). a || b) (lt-leb HISTORY_MAX core.counts.count count) (lt-leb STAMP_MAX core.writes.clock below)

  pub only_memory : (replica : ℕ) (told : CoreFault)
      → length entries < HISTORY_MAX
      → replica < set.setup.replicas
      → HoldsAt set replica (λ core. IsFaultOf core told)
      → told ≡ fault.NoMemory
  only_memory replica told few among is =
      let there = core_there set replica keeps.stands.is_set among in
      go told there.0 (not_full replica there.0 few there.1) (is there.0 there.1)
    where
      go : (told : CoreFault) (core : Core) → is_full core ≡ false → IsFaultOf core told → told ≡ fault.NoMemory
      go fault.NoMemory core free is = refl
      go (fault.Full count last) core free is = cc

  -- One more entry of a replica was made, and all stand for it.
  module _ (new : SetState) (after : List Entry) (replica moment : ℕ) (done : Act) (same : new.setup ≡ set.setup) (among : replica < set.setup.replicas)
      (stands : StandsFor (with_act entries replica moment done) new) (was_sent : WasSent entries done) (after_is : after ≡ with_act entries replica moment done) where
    keeps_more : (places : List ℕ)
        → map (message_at (with_act entries replica moment done)) places ≡ map Some (sent_in (with_act entries replica moment done))
        → Keeps new after places firsts
    keeps_more places are =
        let inside : replica < new.setup.replicas = omega (arith, among, ap (λ (s : Setup). s.replicas) same) in
        let before : IsRun new.setup entries = subst (λ s. IsRun s entries) (sym same) keeps.run in
        subst (λ (es : List Entry). Keeps new es places firsts) (sym after_is)
        (record {
          good = subst IsSetup (sym same) keeps.good;
          stands = stands;
          run = run_goes_on entries (entry_of entries replica moment done) new stands inside before was_sent;
          sends = are;
          zeros = keeps.zeros ∙ ap zeros (sym same);
        })

    -- where it sends nothing, and where it sends
    pub keeps_quiet : sent_by_act done ≡ None → Keeps new after sends firsts
    keeps_quiet none = keeps_more sends (sends_same entries (entry_of entries replica moment done) sends none keeps.sends)

    pub keeps_sending : (message : Message) (places : List ℕ)
        → sent_by_act done ≡ Some message
        → places ≡ sends ++ length entries ∷ []
        → Keeps new after places firsts
    keeps_sending message places some are =
        subst (λ (ps : List ℕ). Keeps new after ps firsts) (sym are)
        (keeps_more (sends ++ length entries ∷ []) (sends_more entries (entry_of entries replica moment done) sends message some keeps.sends))

-- the entries with one that was put at their end
pub with_one : (entries before after : List Entry) (replica moment at : ℕ) (done due : Act)
    → before ≡ entries
    → at ≡ moment_at (part_of entries replica) moment
    → done ≡ due
    → after ≡ before ++ record { replica = replica; moment = at; act = done } ∷ []
    → after ≡ with_act entries replica moment due
with_one entries before after replica moment at done due room at_is done_is put =
    put
    ∙ ap (λ (es : List Entry). es ++ record { replica = replica; moment = at; act = done } ∷ []) room
    ∙ ap₂ (λ (m : ℕ) (a : Act). let one : Entry = record { replica = replica; moment = m; act = a } in entries ++ one ∷ []) at_is done_is

-- and so much is seen of it
pub seen_as : (set new : SetState) (entries after : List Entry)
    → new.setup ≡ set.setup
    → after ≡ entries
    → state_of new after ≡ state_of set entries
seen_as set new entries after same is = ap₂ (λ (s : Setup) (es : List Entry). let one : NetworkState = record { setup = s; entries = es } in one) same is
