-- A text without foul bytes has good lines.
use Rattle.std.proofs.Common.{◌≡◌, ℕ, Bool, true, false, not, ◌&&◌, ◌||◌, ◌==◌, cond, List, [], ◌∷◌, refl}
use Rattle.std.specs.List.{list_any}
use Rattle.std.specs.Prelude.{All}
use Rattle.std.proofs.lemmas.List.Elements.{All-nil, All-cons, All-head, All-tail}
use Rattle.run_record.specs.Lines.{is_bad_byte}
use Rattle.run_record.specs.Splitting.{with_front, raw_lines}
use Rattle.script_text.specs.GoodLines.{IsGood, is_foul}

pub not_true : (b : Bool) → not b ≡ true → b ≡ false
not_true true is = cc
not_true false is = refl

good_byte : (byte : ℕ) (piece : List ℕ) → is_bad_byte byte ≡ false → IsGood piece → IsGood (byte ∷ piece)
good_byte byte piece good rest = rw (good, rest) refl

front_is_good : (byte : ℕ) (pieces : List (List ℕ))
    → is_bad_byte byte ≡ false
    → All IsGood pieces
    → All IsGood (with_front byte pieces)
front_is_good byte [] good each = All-cons IsGood (byte ∷ []) [] (good_byte byte [] good refl) each
front_is_good byte (piece ∷ pieces) good each =
    All-cons IsGood (byte ∷ piece) pieces (good_byte byte piece good (All-head IsGood piece pieces each)) (All-tail IsGood piece pieces each)

-- a byte that isn't foul ends a line or is good
either_of : (bad feed rest : Bool)
    → ((bad && not feed) || rest) ≡ false
    → (rest ≡ false) × (feed ≡ false → bad ≡ false)
either_of true true rest none = (none, λ apart. cc)
either_of true false rest none = cc
either_of false feed rest none = (none, λ apart. refl)

pub lines_are_good : (text : List ℕ) → list_any is_foul text ≡ false → All IsGood (raw_lines text)
lines_are_good [] none = All-nil IsGood
lines_are_good (byte ∷ bytes) none =
    let both = either_of (is_bad_byte byte) (byte == 10) (list_any is_foul bytes) none in
    go (byte == 10) both.1 (lines_are_good bytes both.0)
  where
    go : (feed : Bool)
        → (feed ≡ false → is_bad_byte byte ≡ false)
        → All IsGood (raw_lines bytes)
        → All IsGood (cond feed ([] ∷ raw_lines bytes) (with_front byte (raw_lines bytes)))
    go true good each = All-cons IsGood [] (raw_lines bytes) refl each
    go false good each = front_is_good byte (raw_lines bytes) (good refl) each
