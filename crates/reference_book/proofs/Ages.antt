-- What a replica hasn't seen, as the book of a history has it, and how old the oldest of it is.
use Rattle.std.proofs.Common.{◌≡◌, ℕ, ◌-◌, ◌<◌, ◌==◌, Bool, true, false, not, cond, List, [], ◌∷◌, ◌++◌, length, get_or, drop, filter, flat_map, All, Option, refl, sym, ap, ap₂, ◌∙◌, subst, ⊎_elim, arith}
use Rattle.std.specs.List.{range_with_len}
use Rattle.std.specs.Option.{option_map_or}
use Rattle.std.proofs.lemmas.Bool.{ne_eqb, cases_eq, false≢true}
use Rattle.std.proofs.lemmas.List.{drop_all}
use Rattle.std.proofs.lemmas.List.FromFn.{length-map-range_with_len}
use Rattle.std.proofs.Math.Seq.{drop-append_seam}
use Rattle.tact_base.proofs.ListLemmas.{All-range, flat_map_agree, get_or-map_range}
use Rattle.tact_base.specs.Setup.{Setup, replicas_of}
use Rattle.tact_base.specs.declared.write.Write.{Write}
use Rattle.run_model.specs.Histories.{part_of}
use Rattle.run_model.specs.OwnWrites.{own}
use Rattle.run_model.specs.Reference.{unseen, unseen_by, age}
use Rattle.run_model.specs.Runs.{IsRun}
use Rattle.run_model.specs.Taking.{log_of}
use Rattle.run_model.specs.declared.entry.Entry.{Entry}
use Rattle.run_model.proofs.Accepted.{log_of-same}
use Rattle.run_model.proofs.Sound.{Sound}
use Rattle.run_model.proofs.SoundRuns.{Sound-run}
use Rattle.run_promises.proofs.NumErrors.{own-is_log_and_unseen}
use Rattle.replica_core.specs.Stands.{Stands}
use Rattle.replica_core.specs.States.{Core, log_at}
use Rattle.reference_book.specs.Books.{BookState, IsBookOf, HaveRisingMoments, IsLeast, log_in, moments_of, unseen_in}
use Rattle.reference_book.proofs.Histories.{length-logs, log_in-is}
use Rattle.reference_book.proofs.Least.{age_from-least}

-- what gives nothing may be left out
flat_map-left_out : {A : Type 0} (f : ℕ → List A) (p : ℕ → Bool) (xs : List ℕ)
    → ((x : ℕ) → p x ≡ false → f x ≡ [])
    → flat_map f xs ≡ flat_map f (filter p xs)
flat_map-left_out f p [] none = refl
flat_map-left_out {A} f p (x ∷ xs) none = go (p x) refl (flat_map-left_out f p xs none)
  where
    go : (yes : Bool)
        → p x ≡ yes
        → flat_map f xs ≡ flat_map f (filter p xs)
        → f x ++ flat_map f xs ≡ flat_map f (cond yes (x ∷ filter p xs) (filter p xs))
    go true is rest = ap (λ (ys : List A). f x ++ ys) rest
    go false is rest = ap (λ (ys : List A). ys ++ flat_map f xs) (none x is) ∙ rest

module _ (history : List Entry) (book : BookState) (core : Core) (run : IsRun core.setup history) (is : IsBookOf core.setup history book) (stands : Stands (part_of history core.replica) core) where
  abbrev setup : Setup
  setup = core.setup

  abbrev replica : ℕ
  replica = core.replica

  sound : Sound setup history
  sound = Sound-run setup history run

  -- each origin accepted its writes at rising moments
  pub moments_rise : All HaveRisingMoments book.logs
  moments_rise =
      let owns = λ (origin : ℕ). own (part_of history origin) in
      subst (All HaveRisingMoments) (sym is.logs)
      (λ k d within.
      subst HaveRisingMoments (sym (get_or-map_range owns setup.replicas k d (omega (arith, within, length-map-range_with_len owns 0 setup.replicas)))) (sound.own k).moments)

  own_rest : (origin : ℕ)
      → drop (length (log_of replica (part_of history replica) origin)) (own (part_of history origin)) ≡ unseen history origin replica
  own_rest origin =
      let log = log_of replica (part_of history replica) origin in
      ap (drop (length log)) (own-is_log_and_unseen setup history sound replica origin) ∙ drop-append_seam log (unseen history origin replica)

  unseen_at : (origin : ℕ)
      → origin < setup.replicas
      → drop (length (log_at core origin)) (log_in book origin) ≡ unseen history origin replica
  unseen_at origin within =
      let logs = log_of replica (part_of history replica) in
      let has : log_at core origin ≡ logs origin = ap (λ (ls : List (List Write)). get_or ls origin []) stands.writes.logs ∙ get_or-map_range logs setup.replicas origin [] within in
      ap₂ (λ (n : ℕ) (ws : List Write). drop n ws) (ap length has) (log_in-is setup history book is origin within) ∙ own_rest origin

  -- of its own writes it has seen all
  own_unseen : (origin : ℕ) → not (origin == replica) ≡ false → unseen history origin replica ≡ []
  own_unseen origin itself = ⊎_elim
      (λ (same : origin ≡ replica).
      subst (λ (o : ℕ). unseen history o replica ≡ []) (sym same)
      (sym (own_rest replica) ∙ drop_all (length (log_of replica (part_of history replica) replica)) (own (part_of history replica))
      (omega (arith, ap length (log_of-same replica (part_of history replica))))))
      (λ (other : origin ≡ replica → ⊥). absurd (false≢true (sym itself ∙ ap not (ne_eqb origin replica other))))
      (cases_eq origin replica)

  pub unseen_in-is : unseen_in book core ≡ unseen_by setup history replica
  unseen_in-is =
      let held = λ (origin : ℕ). drop (length (log_at core origin)) (log_in book origin) in
      let missed = λ (origin : ℕ). unseen history origin replica in
      ap (λ (n : ℕ). flat_map held (range_with_len 0 n)) (length-logs setup history book is)
      ∙ flat_map_agree held missed (replicas_of setup) (All-range (λ origin. held origin ≡ missed origin) 0 setup.replicas (λ origin low high. unseen_at origin (omega (arith, high))))
      ∙ flat_map-left_out missed (λ origin. not (origin == replica)) (replicas_of setup) own_unseen

  pub age-is : (moment : ℕ) (oldest : Option ℕ)
      → IsLeast (moments_of (unseen_in book core)) oldest
      → option_map_or (λ earliest. moment - earliest) oldest 0 ≡ age setup history replica moment
  age-is moment oldest least =
      sym (age_from-least moment (moments_of (unseen_by setup history replica)) oldest (subst (λ (ws : List Write). IsLeast (moments_of ws) oldest) unseen_in-is least))
