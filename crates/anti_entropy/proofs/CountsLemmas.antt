-- Lists of counts that are those of a replica say what the model says of it.
use Rattle.std.proofs.Common.{◌≡◌, ◌≢◌, ℕ, ◌<◌, ◌↔◌, Bool, IsTrue, List, length, map, slice_index, SomeIndex, refl, ap, ◌∙◌, arith}
use Rattle.std.specs.List.{range_with_len}
use Rattle.std.proofs.lemmas.List.FromFn.{length-map-range_with_len}
use Rattle.tact_base.proofs.ListLemmas.{get_or-map_range, map_range_agree}
use Rattle.tact_base.specs.Counts.{first_index}
use Rattle.tact_base.specs.Setup.{Setup, replicas_of}
use Rattle.run_model.specs.Taking.{have, known}
use Rattle.run_model.specs.Messages.{first_for}
use Rattle.run_model.specs.ScriptRuns.{zeros}
use Rattle.run_model.specs.declared.entry.Entry.{Entry}
use Rattle.anti_entropy.specs.Counts.{AreCountsOf, IsBehind, firsts_of}

module _ (setup : Setup) (replica : ℕ) (part : List Entry) (peer : ℕ) (haves peer_haves : List ℕ) (are : AreCountsOf setup replica part peer haves peer_haves) where
  length-haves : length haves ≡ setup.replicas
  length-haves = ap length are.has ∙ length-map-range_with_len (have replica part) 0 setup.replicas

  slice_index-haves : (origin : ℕ)
      → origin < setup.replicas
      → slice_index haves origin ≡ have replica part origin
  slice_index-haves origin within = ap (λ (counts : List ℕ). slice_index counts origin) are.has ∙ get_or-map_range (have replica part) setup.replicas origin 0 within

  slice_index-peer_haves : (origin : ℕ)
      → origin < setup.replicas
      → slice_index peer_haves origin ≡ known part peer origin
  slice_index-peer_haves origin within = ap (λ (counts : List ℕ). slice_index counts origin) are.knows ∙ get_or-map_range (known part peer) setup.replicas origin 0 within

  -- where the writes of an origin begin, as the model has it where zeros are given
  first_index-first_for : (origin : ℕ)
      → origin < setup.replicas
      → first_index peer origin (slice_index haves origin) (slice_index peer_haves origin) 0 ≡ first_for replica part peer (zeros setup) origin
  first_index-first_for origin within =
      let given : slice_index (zeros setup) origin ≡ 0 = get_or-map_range (λ (o : ℕ). 0) setup.replicas origin 0 within in
      rw (slice_index-haves origin within, slice_index-peer_haves origin within, given) refl

  pub firsts_of-first_for : firsts_of haves peer_haves peer ≡ map (first_for replica part peer (zeros setup)) (replicas_of setup)
  firsts_of-first_for =
      let first : ℕ → ℕ = λ origin. first_index peer origin (slice_index haves origin) (slice_index peer_haves origin) 0 in
      ap (λ n. map first (range_with_len 0 n)) length-haves
      ∙ map_range_agree first (first_for replica part peer (zeros setup)) setup.replicas first_index-first_for

  -- a fact that says whether the lists have more says whether the peer is behind
  pub behind-counts : (is : Bool)
      → (IsTrue is ↔ SomeIndex haves (λ origin. (origin ≢ peer) × (slice_index peer_haves origin < slice_index haves origin)))
      → (IsTrue is ↔ IsBehind setup replica part peer)
  behind-counts is due = (
    λ yes.
        let (origin, within, (other, more)) = due.0 yes in
        let among : origin < setup.replicas = omega (arith, length-haves) in
        (origin, among, other, rw (← slice_index-peer_haves origin among, ← slice_index-haves origin among) more),
    λ (origin, among, other, more).
        let within : origin < length haves = omega (arith, length-haves) in
        due.1 (origin, within, (other, rw (slice_index-peer_haves origin among, slice_index-haves origin among) more)),
  )
