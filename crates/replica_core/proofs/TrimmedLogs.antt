-- Logs of which some writes are given up, origin by origin.
use Rattle.std.proofs.Common.{◌≡◌, ℕ, ◌+◌, ◌<◌, ◌≤◌, max, List, length, get_or, set, refl, sym, ap, ◌∙◌, ⊎_elim, le_trans, le_of_eq, get_or-set_same, get_or-set_other, arith}
use Rattle.std.proofs.lemmas.Bool.{cases_eq, cases_lt}
use Rattle.std.proofs.lemmas.List.{length-set}
use Rattle.tact_base.specs.declared.write.Write.{Write}
use Rattle.write_log.specs.Logs.{LogState, base_of, room_of}
use Rattle.replica_core.specs.Dropped.{past_of}

-- of each origin below a bound the writes up to the last of those that are gone
pub record AreTrimmed (old new : LogState) (gone : List Write) (bound : ℕ) : Type 0 where
  pub logs : new.logs ≡ old.logs
  pub sized : length new.bases ≡ length old.bases
  pub done : (origin : ℕ) → origin < bound → base_of new origin ≡ max (base_of old origin) (past_of gone origin)
  pub rest : (origin : ℕ) → bound ≤ origin → base_of new origin ≡ base_of old origin
  pub room : (origin : ℕ) → room_of old origin ≤ room_of new origin

pub AreTrimmed-none : (old : LogState) (gone : List Write) → AreTrimmed old old gone 0
AreTrimmed-none old gone = record {
  logs = refl;
  sized = refl;
  done = λ origin within. absurd (omega (arith, within));
  rest = λ origin past. refl;
  room = λ origin. omega arith;
}

-- and of the next
pub AreTrimmed-next : (old before after : LogState) (gone : List Write) (bound : ℕ)
    → bound < length old.bases
    → AreTrimmed old before gone bound
    → after.logs ≡ before.logs
    → after.bases ≡ set before.bases bound (max (base_of before bound) (past_of gone bound))
    → room_of before bound ≤ room_of after bound
    → ((other : ℕ) → (other ≡ bound → ⊥) → room_of after other ≡ room_of before other)
    → AreTrimmed old after gone (bound + 1)
AreTrimmed-next old before after gone bound within trimmed logs bases room others = record {
  logs = logs ∙ trimmed.logs;
  sized = ap length bases ∙ length-set before.bases bound raised ∙ trimmed.sized;
  done = λ origin low. ⊎_elim (λ (earlier : origin < bound). other origin (λ same. absurd (omega (arith, earlier, same))) ∙ trimmed.done origin earlier)
      (λ (late : bound ≤ origin).
      let same : origin ≡ bound = omega (arith, low, late) in
      rw same (here ∙ ap (λ n. max n (past_of gone bound)) (trimmed.rest bound (omega arith))))
      (cases_lt origin bound);
  rest = λ origin past. other origin (λ same. absurd (omega (arith, past, same))) ∙ trimmed.rest origin (omega (arith, past));
  room = λ origin. ⊎_elim (λ (same : origin ≡ bound). rw same (le_trans (trimmed.room bound) room))
      (λ (differ : origin ≡ bound → ⊥). le_trans (trimmed.room origin) (le_of_eq (sym (others origin differ)))) (cases_eq origin bound);
}
  where
    raised : ℕ
    raised = max (base_of before bound) (past_of gone bound)

    here : base_of after bound ≡ raised
    here = ap (λ (ns : List ℕ). get_or ns bound 0) bases ∙ get_or-set_same before.bases bound raised 0 (omega (arith, within, trimmed.sized))

    other : (origin : ℕ) → (origin ≡ bound → ⊥) → base_of after origin ≡ base_of before origin
    other origin differ = ap (λ (ns : List ℕ). get_or ns origin 0) bases ∙ get_or-set_other before.bases bound origin raised 0 differ
