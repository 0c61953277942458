-- What a part goes on to: its own writes go on with later ones, and its clock, its moments and its logs don't fall.
use Rattle.std.proofs.Common.{◌≡◌, ℕ, ◌<◌, ◌≤◌, List, [], ◌∷◌, ◌++◌, length, All, Option, None, Some, refl, sym, ap, ◌∙◌, ⊎_elim, le_of_eq, le_trans, arith}
use Rattle.std.specs.List.{cons_option}
use Rattle.std.proofs.lemmas.Bool.{cases_eq}
use Rattle.std.proofs.lemmas.List.{append-nil, append_assoc, length-append}
use Rattle.std.proofs.lemmas.List.Elements.{All-nil, All-append, All-weaker}
use Rattle.tact_base.proofs.ListLemmas.{All-one}
use Rattle.tact_base.specs.declared.write.Write.{Write}
use Rattle.tact_base.specs.Setup.{Setup}
use Rattle.run_model.specs.Histories.{part_of, last_moment}
use Rattle.run_model.specs.OwnWrites.{own}
use Rattle.run_model.specs.Taking.{OriginState, origin_state, told_first, told_writes, have, clock}
use Rattle.run_model.specs.Runs.{IsDue}
use Rattle.run_model.specs.declared.entry.Entry.{Entry}
use Rattle.run_model.specs.declared.entry.Message.{Message}
use Rattle.run_model.proofs.PartLemmas.{accepted_in, part_of-push_cases, taken_by, own-push, last_moment-push, origin_state-push_none, origin_state-push_some}
use Rattle.run_model.proofs.Accepted.{IsNext, log_of-same, log_of-other, accepted_is_next}
use Rattle.tact_base.proofs.LogsLemmas.{log_after-le}
use Rattle.run_model.proofs.ClockLemmas.{clock-le-push}

-- a write that a part may accept later
pub record IsLater (part : List Entry) (write : Write) : Type 0 where
  pub index : length (own part) ≤ write.index
  pub stamp : clock part < write.stamp
  pub moment : last_moment part ≤ write.moment

-- what a part of a replica goes on to
pub record Grows (replica : ℕ) (before after : List Entry) : Type 0 where
  pub new : List Write
  pub own : own after ≡ own before ++ new
  pub later : All (IsLater before) new
  pub clock : clock before ≤ clock after
  pub last : last_moment before ≤ last_moment after
  pub have : (origin : ℕ) → have replica before origin ≤ have replica after origin

-- a log that is kept doesn't get shorter
origin_state-le-push : (part : List Entry) (entry : Entry) (origin : ℕ)
    → length (origin_state part origin).log ≤ length (origin_state (part ++ entry ∷ []) origin).log
origin_state-le-push part entry origin = go (taken_by entry) refl
  where
    go : (taken : Option Message)
        → taken_by entry ≡ taken
        → length (origin_state part origin).log ≤ length (origin_state (part ++ entry ∷ []) origin).log
    go None none = le_of_eq (sym (ap (λ (kept : OriginState). length kept.log) (origin_state-push_none part entry origin none)))
    go (Some message) some =
        le_trans (log_after-le (origin_state part origin).log (told_first message origin) (told_writes message origin))
        (le_of_eq (sym (ap (λ (kept : OriginState). length kept.log) (origin_state-push_some part entry origin message some))))

pub Grows-refl : (replica : ℕ) (part : List Entry) → Grows replica part part
Grows-refl replica part = record {
  new = [];
  own = sym (append-nil (own part));
  later = All-nil (IsLater part);
  clock = omega arith;
  last = omega arith;
  have = λ origin. omega arith;
}

pub Grows-trans : (replica : ℕ) (one two three : List Entry)
    → Grows replica one two
    → Grows replica two three
    → Grows replica one three
Grows-trans replica one two three first second = record {
  new = first.new ++ second.new;
  own = second.own ∙ ap (λ writes. writes ++ second.new) first.own ∙ append_assoc (own one) first.new second.new;
  later =
      All-append (IsLater one) first.new second.new first.later
      (All-weaker (IsLater two) (IsLater one) (λ write later. record {
        index = omega (arith, ap length first.own, length-append (own one) first.new, later.index);
        stamp = omega (arith, first.clock, later.stamp);
        moment = omega (arith, first.last, later.moment);
      }) second.new second.later);
  clock = omega (arith, first.clock, second.clock);
  last = omega (arith, first.last, second.last);
  have = λ origin. omega (arith, first.have origin, second.have origin);
}

module _ (setup : Setup) (part : List Entry) (entry : Entry) (due : IsDue setup part entry) where
  next_is_later : (write : Write)
      → IsNext entry.replica part entry.moment write
      → IsLater part write
  next_is_later write next = record {
    index = le_of_eq (sym next.index);
    stamp = omega (arith, next.stamp);
    moment = omega (arith, next.moment, due.moment);
  }

  new_is_later : (accepted : Option Write)
      → accepted_in entry ≡ accepted
      → All (IsLater part) (cons_option accepted [])
  new_is_later None none = All-nil (IsLater part)
  new_is_later (Some write) some = All-one (IsLater part) write (next_is_later write (accepted_is_next setup part entry write due some))

  have-le-push : (origin : ℕ)
      → have entry.replica part origin ≤ have entry.replica (part ++ entry ∷ []) origin
  have-le-push origin = ⊎_elim
      (λ (same : origin ≡ entry.replica).
      rw (same, log_of-same entry.replica part, log_of-same entry.replica (part ++ entry ∷ []), own-push part entry)
      (omega (arith, length-append (own part) (cons_option (accepted_in entry) []))))
      (λ (other : origin ≡ entry.replica → ⊥).
      rw (log_of-other entry.replica part origin other, log_of-other entry.replica (part ++ entry ∷ []) origin other)
      (origin_state-le-push part entry origin))
      (cases_eq origin entry.replica)

  pub Grows-push : Grows entry.replica part (part ++ entry ∷ [])
  Grows-push = record {
    new = cons_option (accepted_in entry) [];
    own = own-push part entry;
    later = new_is_later (accepted_in entry) refl;
    clock = clock-le-push part entry;
    last = omega (arith, last_moment-push part entry, due.moment);
    have = have-le-push;
  }

-- After an entry that is due after the part of its replica, each part has grown, the others by nothing.
pub Grows-history : (setup : Setup) (history : List Entry) (entry : Entry)
    → IsDue setup (part_of history entry.replica) entry
    → (replica : ℕ)
    → Grows replica (part_of history replica) (part_of (history ++ entry ∷ []) replica)
Grows-history setup history entry due =
    part_of-push_cases history entry (λ replica part. Grows replica (part_of history replica) part) (Grows-push setup (part_of history entry.replica) entry due)
    (λ replica. Grows-refl replica (part_of history replica))
