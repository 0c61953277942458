-- A seat that took in a note and then looked.
use Rattle.std.proofs.Common.{◌≡◌, ℕ, ◌<◌, List, [], ◌∷◌, ◌++◌, All, sym, ap, ◌∙◌, subst}
use Rattle.std.proofs.lemmas.List.{append-nil}
use Rattle.std.proofs.lemmas.List.Elements.{All-head, All-tail}
use Rattle.tact_base.specs.Setup.{Setup}
use Rattle.run_model.specs.Histories.{IsPrefix}
use Rattle.run_model.specs.declared.entry.Entry.{Entry}
use Rattle.run_history.specs.declared.view.Part.{Part}
use Rattle.run_history.specs.declared.view.View.{View}
use Rattle.run_history.specs.Steps.{part_with, first_pairs, IsClerk, IsNote, IsLooked, joined, Meets}
use Rattle.run_history.specs.Ticks.{drawn_by, entries_of}
use Rattle.run_history.proofs.TickLemmas.{entries_of-drawn_by}

pub meets : (setup : Setup) (before other : View) (found : ℕ) (after : View)
    → IsLooked setup (joined before other) found after → Meets setup before other after
meets setup before other found after looked =
    let IsFront : List Entry → Type 0 = λ old. IsPrefix old after.seen in
    let olds = before.olds ++ other.olds in
    record {
      first = All-head IsFront before.seen (other.seen ∷ olds) looked.fronts;
      second = All-head IsFront other.seen olds (All-tail IsFront before.seen (other.seen ∷ olds) looked.fronts);
      run = looked.run;
    }

module _ (setup : Setup) (before other : View) (found : ℕ) (after : View) (note : IsNote other)
    (looked : IsLooked setup (joined before other) found after) where
  both_parts : before.parts ++ other.parts ≡ before.parts
  both_parts = ap (λ parts. before.parts ++ parts) note.none ∙ append-nil before.parts

  pub parts_after : after.parts ≡ before.parts
  parts_after = ap (λ (view : View). view.parts) looked.is ∙ both_parts

  pub clerk_among : (replica : ℕ) → IsClerk replica before → replica < setup.replicas
  clerk_among replica clerk =
      let IsAmong : Part → Type 0 = λ part. part.replica < setup.replicas in
      All-head IsAmong (part_with replica (first_pairs before.parts)) [] (subst (All IsAmong) (both_parts ∙ clerk.part) looked.among)

  pub clerk_after : (replica : ℕ) → IsClerk replica before → IsClerk replica after
  clerk_after replica clerk =
      let IsDrawnPart : Part → Type 0 = λ part. part.pairs ≡ drawn_by after.seen part.replica in
      let pairs = first_pairs before.parts in
      let pairs_after : first_pairs after.parts ≡ pairs = ap first_pairs parts_after in
      let drawn : pairs ≡ drawn_by after.seen replica =
      All-head IsDrawnPart (part_with replica pairs) [] (subst (All IsDrawnPart) (both_parts ∙ clerk.part) looked.parts) in
      record {
        closed = ap (λ (view : View). view.opens) looked.is ∙ clerk.closed;
        part = parts_after ∙ clerk.part ∙ ap (λ pairs. part_with replica pairs ∷ []) (sym pairs_after);
        own = sym (entries_of-drawn_by after.seen replica) ∙ ap entries_of (sym drawn ∙ sym pairs_after);
      }
