-- Every run is sound, and so is each history that it begins with; its parts grow from there.
use Rattle.std.proofs.Common.{◌≡◌, ℕ, ◌≤◌, List, [], ◌∷◌, ◌++◌, sym, subst, arith}
use Rattle.std.proofs.lemmas.List.{append-nil, append_assoc}
use Rattle.std.proofs.lemmas.List.Elements.{All-nil}
use Rattle.tact_base.proofs.ListLemmas.{from_right}
use Rattle.tact_base.specs.declared.write.Write.{Write}
use Rattle.tact_base.specs.Setup.{Setup}
use Rattle.run_model.specs.Histories.{part_of, IsPrefix}
use Rattle.run_model.specs.Runs.{IsLawful, IsRun}
use Rattle.run_model.specs.declared.entry.Entry.{Entry}
use Rattle.run_model.proofs.PrefixLemmas.{IsPrefix-nil, IsPrefix-append, EachAfter-last}
use Rattle.run_model.proofs.RunInduction.{IsRun-prefix, over_runs}
use Rattle.run_model.proofs.Growth.{Grows, Grows-refl, Grows-trans, Grows-history}
use Rattle.run_model.proofs.Sound.{AreNumbered, IsNumbered, IsSoundMessage, Sound}
use Rattle.run_model.proofs.SoundKeeping.{Vouches-empty}
use Rattle.run_model.proofs.SoundStep.{Sound-push}

AreNumbered-nil : (replica : ℕ) → AreNumbered replica []
AreNumbered-nil replica = record {
  origins = All-nil (λ (write : Write). write.origin ≡ replica);
  indices = λ place d within. absurd (omega arith);
  stamps = λ one other d before within. absurd (omega arith);
  moments = λ one other d before within. absurd (omega arith);
  stamps_least = All-nil (λ (write : Write). 1 ≤ write.stamp);
}

pub IsNumbered-nil : (replica : ℕ) → IsNumbered replica []
IsNumbered-nil replica = record {
  writes = AreNumbered-nil replica;
  stamps_most = All-nil (λ (write : Write). write.stamp ≤ 0);
  moments_most = All-nil (λ (write : Write). write.moment ≤ 0);
}

-- the empty history
pub Sound-nil : (setup : Setup) → Sound setup []
Sound-nil setup = record {
  own = IsNumbered-nil;
  kept = λ replica origin. record {
    log = IsPrefix-nil [];
    stamps = All-nil (λ (write : Write). write.stamp ≤ 0);
    cover = Vouches-empty origin [] (IsNumbered-nil origin);
    count = omega arith;
  };
  known = λ replica peer origin. omega arith;
  sent = λ replica. All-nil (IsSoundMessage [] replica);
  numbers = λ replica place d within. absurd (omega arith);
}

pub Sound-run : (setup : Setup) (history : List Entry) → IsRun setup history → Sound setup history
Sound-run setup =
    over_runs setup (Sound setup) (Sound-nil setup) (λ before entry run lawful sound. Sound-push setup before entry sound lawful)

pub Sound-prefix : (setup : Setup) (front history : List Entry)
    → IsRun setup history
    → IsPrefix front history
    → Sound setup front
Sound-prefix setup front history run prefix = Sound-run setup front (IsRun-prefix setup front history prefix run)

-- each part grows from where a prefix leaves it
Grows-onward : (setup : Setup) (front rest : List Entry)
    → IsRun setup (front ++ rest)
    → (replica : ℕ)
    → Grows replica (part_of front replica) (part_of (front ++ rest) replica)
Grows-onward setup front rest = from_right (λ rest. IsRun setup (front ++ rest) → (replica : ℕ) → Grows replica (part_of front replica) (part_of (front ++ rest) replica))
    (λ run replica. rw (append-nil front) (Grows-refl replica (part_of front replica)))
    (λ rest entry grows run replica.
    let whole : IsRun setup ((front ++ rest) ++ entry ∷ []) = subst (IsRun setup) (sym (append_assoc front rest (entry ∷ []))) run in
    let before : IsRun setup (front ++ rest) = IsRun-prefix setup (front ++ rest) ((front ++ rest) ++ entry ∷ []) (IsPrefix-append (front ++ rest) (entry ∷ [])) whole in
    let lawful : IsLawful setup (front ++ rest) entry = EachAfter-last (IsLawful setup) (front ++ rest) entry whole in
    subst (λ history. Grows replica (part_of front replica) (part_of history replica)) (append_assoc front rest (entry ∷ []))
    (Grows-trans replica (part_of front replica) (part_of (front ++ rest) replica) (part_of ((front ++ rest) ++ entry ∷ []) replica) (grows before replica)
    (Grows-history setup (front ++ rest) entry lawful.due replica)))
    rest

pub Grows-run : (setup : Setup) (front history : List Entry)
    → IsRun setup history
    → IsPrefix front history
    → (replica : ℕ)
    → Grows replica (part_of front replica) (part_of history replica)
Grows-run setup front history run (rest, is) replica =
    subst (λ whole. Grows replica (part_of front replica) (part_of whole replica)) (sym is) (Grows-onward setup front rest (subst (IsRun setup) is run) replica)
