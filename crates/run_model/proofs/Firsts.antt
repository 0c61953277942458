-- The firsts that a message has ask for the same message.
use Rattle.std.proofs.Common.{◌≡◌, ℕ, ◌<◌, ◌==◌, min, max, Bool, true, false, cond, slice_index, length, List, take, drop, map, All, refl, ap, ap₂, arith}
use Rattle.tact_base.proofs.ListLemmas.{All-range, map_agree, flat_map_agree, get_or-map_range}
use Rattle.tact_base.specs.declared.limits.TheConstants.{MESSAGE_WRITES}
use Rattle.tact_base.specs.declared.write.Write.{Write}
use Rattle.tact_base.specs.Setup.{Setup, replicas_of, conits_of}
use Rattle.run_model.specs.Histories.{sent_in}
use Rattle.run_model.specs.Taking.{log_of, have, covers_of, known}
use Rattle.run_model.specs.Loans.{lent, returned}
use Rattle.run_model.specs.Messages.{first_for, message_of}
use Rattle.run_model.specs.declared.entry.Entry.{Entry}

-- What a replica sends to another, where these firsts are given.
module _ (setup : Setup) (replica : ℕ) (part : List Entry) (to : ℕ) (given : List ℕ) where
  abbrev firsts : List ℕ
  firsts = map (first_for replica part to given) (replicas_of setup)

  first_again : (origin : ℕ)
      → origin < setup.replicas
      → first_for replica part to given origin ≡ first_for replica part to firsts origin
  first_again origin within = go (origin == to) (get_or-map_range (first_for replica part to given) setup.replicas origin 0 within)
    where
      go : (own : Bool)
          → slice_index firsts origin ≡ cond own (have replica part origin) (min (have replica part origin) (max (slice_index given origin) (known part to origin)))
          → cond own (have replica part origin) (min (have replica part origin) (max (slice_index given origin) (known part to origin)))
          ≡ cond own (have replica part origin) (min (have replica part origin) (max (slice_index firsts origin) (known part to origin)))
      go true is = refl
      go false is = omega (arith, is)

  pub message_again : (at : ℕ)
      → message_of setup replica part at to given ≡ message_of setup replica part at to firsts
  message_again at =
      let same : All (λ origin. first_for replica part to given origin ≡ first_for replica part to firsts origin) (replicas_of setup) =
      All-range (λ origin. first_for replica part to given origin ≡ first_for replica part to firsts origin) 0 setup.replicas (λ origin low high. first_again origin (omega (arith, high))) in
      let onward = λ (given : List ℕ) (origin : ℕ). drop (first_for replica part to given origin) (log_of replica part origin) in
      let same_onward : All (λ origin. onward given origin ≡ onward firsts origin) (replicas_of setup) =
      All-range (λ origin. onward given origin ≡ onward firsts origin) 0 setup.replicas (λ origin low high. ap (λ k. drop k (log_of replica part origin)) (first_again origin (omega (arith, high)))) in
      ap₂ (λ (firsts : List ℕ) (writes : List Write). record {
        from = replica;
        to = to;
        number = length (sent_in part);
        haves = map (have replica part) (replicas_of setup);
        covers = covers_of setup replica part at;
        firsts = firsts;
        writes = writes;
        lent = map (lent setup replica part to) (conits_of setup);
        returned = map (returned part to) (conits_of setup);
      })
      (map_agree (first_for replica part to given) (first_for replica part to firsts) (replicas_of setup) same)
      (ap (take MESSAGE_WRITES) (flat_map_agree (onward given) (onward firsts) (replicas_of setup) same_onward))
