-- A table of writes that grows, and the writes of spans of it.
use Rattle.std.proofs.Common.{◌≡◌, ℕ, ◌-◌, ◌≤◌, List, [], ◌∷◌, ◌++◌, length, take, drop, min, refl, sym, ap, ap₂, ◌∙◌, arith}
use Rattle.std.specs.List.{between, flat_map, All}
use Rattle.std.proofs.lemmas.List.{append_assoc, length-take, take_all, take-take, take-append-drop, flat_map_more}
use Rattle.std.proofs.lemmas.List.Elements.{All-nil, All-head, All-tail, All-weaker, All-push}
use Rattle.std.proofs.lemmas.Slice.{between_is}
use Rattle.tact_base.specs.declared.write.Write.{Write}
use Rattle.run_check.specs.declared.kept.Span.{Span}
use Rattle.run_check.specs.Keeping.{of_origin, writes_of, IsSpanIn, IsSpanOf, HasGrown}

-- A list begins with what it was.
module _ {A : Type 0} (before after : List A) (begins : take (length before) after ≡ before) where
  pub is_longer : length before ≤ length after
  is_longer =
      let same : min (length before) (length after) ≡ length before = sym (length-take (length before) after) ∙ ap length begins in
      omega (arith, same)

  pub between_stays : (first past : ℕ) → past ≤ length before → between first past after ≡ between first past before
  between_stays first past within =
      between_is after first past
      ∙ ap (drop first)
      (sym (take-take past (length before) after within)
      ∙ ap (take past) begins)
      ∙ sym (between_is before first past)

-- a table that is as it was
pub grown_same : (written : List (List Write)) → HasGrown written written
grown_same written = record {
  sized = refl;
  begins = λ origin. take_all (length (of_origin written origin)) (of_origin written origin) (omega arith);
}

-- a table grew, and then again
pub grown_then : (one two three : List (List Write))
    → HasGrown one two
    → HasGrown two three
    → HasGrown one three
grown_then one two three first next = record {
  sized = next.sized ∙ first.sized;
  begins = λ origin.
      sym (take-take (length (of_origin one origin)) (length (of_origin two origin)) (of_origin three origin)
      (is_longer (of_origin one origin) (of_origin two origin) (first.begins origin)))
      ∙ ap (take (length (of_origin one origin))) (next.begins origin)
      ∙ first.begins origin;
}

-- ---- spans

-- what stands in a span of a table stands there in one that grew
module _ (before after : List (List Write)) (grown : HasGrown before after) where
  pub span_stays : (span : Span) → IsSpanIn before span → IsSpanIn after span
  span_stays span is =
      let longer = is_longer (of_origin before span.origin) (of_origin after span.origin) (grown.begins span.origin) in
      record {
        origin = omega (arith, is.origin, grown.sized);
        order = is.order;
        past = omega (arith, is.past, longer);
      }

  pub writes_of_stay : (span : Span) → IsSpanIn before span → writes_of after span ≡ writes_of before span
  writes_of_stay span is =
      between_stays (of_origin before span.origin) (of_origin after span.origin) (grown.begins span.origin) span.first span.past is.past

  pub spans_stay : (spans : List Span) → All (IsSpanIn before) spans → All (IsSpanIn after) spans
  spans_stay spans all = All-weaker (IsSpanIn before) (IsSpanIn after) span_stays spans all

  pub writes_stay : (spans : List Span)
      → All (IsSpanIn before) spans
      → flat_map (writes_of after) spans ≡ flat_map (writes_of before) spans
  writes_stay [] all = refl
  writes_stay (span ∷ spans) all =
      ap₂ (λ (one rest : List Write). one ++ rest)
      (writes_of_stay span (All-head (IsSpanIn before) span spans all))
      (writes_stay spans (All-tail (IsSpanIn before) span spans all))

-- The spans of the first of these writes, in a table that grew since the first of them, and the rest of the writes.
pub record AreSpansUpTo (before after : List (List Write)) (spans : List Span) (rest writes : List Write) : Type 0 where
  pub grown : HasGrown before after
  pub within : All (IsSpanIn after) spans
  pub told : flat_map (writes_of after) spans ++ rest ≡ writes

pub none_yet : (written : List (List Write)) (writes : List Write) → AreSpansUpTo written written [] writes writes
none_yet written writes = record {
  grown = grown_same written;
  within = All-nil (IsSpanIn written);
  told = refl;
}

pub one_more : (before now after : List (List Write)) (spans : List Span) (rest writes : List Write) (span : Span)
    → AreSpansUpTo before now spans rest writes
    → HasGrown now after
    → IsSpanOf after rest span
    → AreSpansUpTo before after (spans ++ span ∷ []) (drop (span.past - span.first) rest) writes
one_more before now after spans rest writes span so_far grown is =
    let count = span.past - span.first in
    record {
      grown = grown_then before now after so_far.grown grown;
      within = All-push (IsSpanIn after) spans span (spans_stay now after grown spans so_far.within) is.within;
      told =
          ap (λ (front : List Write). front ++ drop count rest)
          (sym (flat_map_more (writes_of after) [] spans span)
          ∙ ap₂ (λ (front one : List Write). front ++ one) (writes_stay now after grown spans so_far.within) is.told)
          ∙ append_assoc (flat_map (writes_of now) spans) (take count rest) (drop count rest)
          ∙ ap (λ (back : List Write). flat_map (writes_of now) spans ++ back) (take-append-drop count rest)
          ∙ so_far.told;
    }
