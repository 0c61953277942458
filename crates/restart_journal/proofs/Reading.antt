-- The pieces that were read so far are those of the stored entries.
use Rattle.std.proofs.Common.{◌≡◌, ℕ, suc, ◌+◌, ◌<◌, ◌≤◌, List, [], ◌∷◌, ◌++◌, length, get_or, map, take, drop, All, None, Option, Some, refl, sym, ap, subst, subst₂, ◌∙◌, arith}
use Rattle.std.specs.List.{slice_get}
use Rattle.std.proofs.lemmas.List.{take-append-drop, drop_more, take_all, map-append}
use Rattle.std.proofs.lemmas.List.Elements.{All-append}
use Rattle.std.proofs.lemmas.Option.{slice_get_within}
use Rattle.tact_base.proofs.ListLemmas.{All-one}
use Rattle.tact_base.specs.declared.limits.TheConstants.{HISTORY_MAX}
use Rattle.tact_base.specs.Setup.{Setup, IsSetup}
use Rattle.run_model.specs.Runs.{IsPart}
use Rattle.run_model.specs.declared.entry.Act.{Act}
use Rattle.run_model.specs.declared.entry.Act.TheVariants as act
use Rattle.run_model.specs.declared.entry.Entry.{Entry}
use Rattle.restart_journal.specs.declared.recovered.Recovered.{Recovered}
use Rattle.restart_journal.specs.Pieces.{CanBePut, HasSmallReply, IsSpellable, piece_bytes}
use Rattle.restart_journal.specs.Recovery.{IsBadAfter, IsJournalOf, IsForeignAt, IsFullAt}
use Rattle.restart_journal.specs.Steps.{IsInStep, HasStored, HasRead}
use Rattle.restart_journal.proofs.PieceLists.{take_one_more, ends_before}

abbrev pub CanBeSpelled : Entry → Type 0
CanBeSpelled entry = IsSpellable entry.act

-- ---- each stored entry has a piece

small_reply : (done : Act) → IsSpellable done → HasSmallReply done
small_reply (act.Call client number request reply) can = can.1
small_reply (act.Send message) can = tt
small_reply (act.Take message) can = tt
small_reply (act.Lend to conit amount) can = tt
small_reply (act.Back owner conit amount) can = tt
small_reply act.Restart can = tt

pub can_be_put : (setup : Setup) (replica : ℕ) (entries : List Entry)
    → IsSetup setup
    → IsPart setup replica entries
    → All CanBeSpelled entries
    → All CanBePut entries
can_be_put setup replica entries good part can k d within =
    let may = part (take k entries) (drop (k + 1) entries) (get_or entries k d) (sym (take-append-drop k entries) ∙ ap (λ rest. take k entries ++ rest) (drop_more entries k d within)) in
    record { setup = setup; good = good; in_range = may.1.in_range; names = small_reply (get_or entries k d).act (can k d within) }

-- ---- one piece more

module _ (old new : Recovered) (piece : List ℕ) (read : HasRead old new piece) where
  pub spellable_then : All CanBeSpelled old.stored → All CanBeSpelled new.stored
  spellable_then can =
      subst (All CanBeSpelled) (sym read.stored.stored) (All-append CanBeSpelled old.stored (read.entry ∷ []) can (All-one CanBeSpelled read.entry read.piece.spellable))

  pub spelled_then : (pieces : List (List ℕ)) (place : ℕ)
      → slice_get pieces place ≡ Some piece
      → take place pieces ≡ map piece_bytes old.stored
      → take (place + 1) pieces ≡ map piece_bytes new.stored
  spelled_then pieces place there so_far =
      let next : place + 1 ≡ suc place = omega arith in
      let last : piece ∷ [] ≡ map piece_bytes (read.entry ∷ []) = ap (λ p. p ∷ []) read.piece.spelled in
      ap (λ n. take n pieces) next ∙ take_one_more pieces place piece there ∙ ap (λ front. front ++ piece ∷ []) so_far
      ∙ ap (λ end. map piece_bytes old.stored ++ end) last ∙ sym (map-append piece_bytes old.stored (read.entry ∷ [])) ∙ ap (map piece_bytes) (sym read.stored.stored)

-- ---- what is answered

module _ (setup : Setup) (replica : ℕ) (made : Recovered) (of_setup : made.replica.core.setup ≡ setup) (of_replica : made.replica.core.replica ≡ replica)
    (in_step : IsInStep made) (can : All CanBeSpelled made.stored) (pieces : List (List ℕ)) where
  pub its_part : IsPart setup replica made.stored
  its_part = subst₂ (λ s r. IsPart s r made.stored) of_setup of_replica in_step.is_part

  journal_so_far : (place : ℕ)
      → take place pieces ≡ map piece_bytes made.stored
      → IsJournalOf setup replica (take place pieces) made.stored
  journal_so_far place so_far = record { part = its_part; spelled = so_far; spellable = can }

  -- all are read
  pub whole_journal : (place : ℕ)
      → take place pieces ≡ map piece_bytes made.stored
      → None ≡ slice_get pieces place
      → IsJournalOf setup replica pieces made.stored
  whole_journal place so_far none =
      let all : take place pieces ≡ pieces = take_all place pieces (ends_before pieces place (sym none)) in
      subst (λ ps. IsJournalOf setup replica ps made.stored) all (journal_so_far place so_far)

  -- one is bad
  pub foreign_there : (place : ℕ) (piece : List ℕ)
      → place < HISTORY_MAX
      → take place pieces ≡ map piece_bytes made.stored
      → Some piece ≡ slice_get pieces place
      → IsBadAfter made.replica.core.setup made.replica.core.replica made.stored piece
      → IsForeignAt setup replica pieces place
  foreign_there place piece few so_far there bad = record {
    few = few;
    before = made.stored;
    good = journal_so_far place so_far;
    piece = piece;
    there = sym there;
    bad = subst₂ (λ s r. IsBadAfter s r made.stored piece) of_setup of_replica bad;
  }

  -- they are too many
  pub full_there : (piece : List ℕ)
      → take HISTORY_MAX pieces ≡ map piece_bytes made.stored
      → Some piece ≡ slice_get pieces HISTORY_MAX
      → IsFullAt setup replica pieces HISTORY_MAX
  full_there piece so_far there = record {
    last = refl;
    before = made.stored;
    good = journal_so_far HISTORY_MAX so_far;
    more = slice_get_within pieces HISTORY_MAX piece (sym there);
  }
