-- The firsts that a sent message tells, against those that the rule of sending makes of them.
use Rattle.std.proofs.Common.{◌≡◌, ℕ, ◌<◌, List, length, Some, refl, sym, ap, ap₂, ◌∙◌, arith}
use Rattle.std.specs.Prelude.{slice_index}
use Rattle.std.proofs.lemmas.List.FromFn.{length-map-range_with_len}
use Rattle.tact_base.proofs.ListLemmas.{get_or-map_range}
use Rattle.tact_base.specs.Setup.{Setup}
use Rattle.run_model.specs.Histories.{part_of}
use Rattle.run_model.specs.Messages.{first_for, message_of}
use Rattle.run_model.specs.declared.cause.Cause.TheVariants as cause
use Rattle.run_model.specs.declared.entry.Entry.{Entry}
use Rattle.run_model.specs.declared.entry.Message.{Message}
use Rattle.run_record.specs.declared.short.ShortAct.TheVariants as told
use Rattle.run_check.specs.declared.refusal.At.{At}
use Rattle.run_check.specs.Causes.{Fails}
use Rattle.run_check.specs.Checking.{IsApart, short_at}
use Rattle.run_check.proofs.NoFailure.{same_parts}

-- A message that a replica sends where firsts are told.
module _ (setup : Setup) (history : List Entry) (at : At) (to number : ℕ) (firsts : List ℕ) (moment : ℕ) (message : Message)
    (is : message ≡ message_of setup at.replica (part_of history at.replica) moment to firsts) where
  abbrev rule : ℕ → ℕ
  rule = first_for at.replica (part_of history at.replica) to firsts

  pub firsts_sized : length message.firsts ≡ setup.replicas
  firsts_sized = ap (λ (m : Message). length m.firsts) is ∙ length-map-range_with_len rule 0 setup.replicas

  first_is : (origin : ℕ) → origin < setup.replicas → slice_index message.firsts origin ≡ rule origin
  first_is origin within = ap (λ (m : Message). slice_index m.firsts origin) is ∙ get_or-map_range rule setup.replicas origin 0 within

  pub first_fails : (origin one other : ℕ)
      → length firsts ≡ setup.replicas
      → IsApart firsts message.firsts origin one other
      → Fails setup history (short_at at (told.Send to number firsts)) (cause.First origin one other)
  first_fails origin one other sized apart =
      let within : origin < setup.replicas = omega (arith, apart.within, sized) in (
        within,
        (ap₂ (λ (a b : ℕ). Some (a, b)) (sym apart.here) (sym (apart.there ∙ first_is origin within)), apart.apart),
        λ earlier one other before found.
            same_parts _ (slice_index firsts earlier) (rule earlier) one other
            (apart.before earlier before ∙ first_is earlier (omega (arith, before, within))) refl found,
      )
