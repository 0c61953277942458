-- What keys hold after operations that aren't applied.
use Rattle.std.proofs.Common.{◌≡◌, ℕ, zero, suc, ◌+◌, ◌<◌, Bool, true, false, ◌==◌, List, [], ◌∷◌, ◌++◌, length, get_or, take, unwrap_or}
use Rattle.std.proofs.Common.{refl, sym, ap, ◌∙◌, arith}
use Rattle.std.proofs.Common.{ap₂}
use Rattle.std.proofs.lemmas.Bool.{eqb-true}
use Rattle.std.proofs.lemmas.List.{get_or-map, get_or-take, length-map, map-append, take-map, take_more}
use Rattle.tact_base.proofs.ListLemmas.{fold-push}
use Rattle.tact_base.specs.Images.{Image, after_op, image_from}
use Rattle.tact_base.specs.declared.write.Op.{Op}
use Rattle.rollback_apply.specs.Keys.{first_key, second_key, key_values, value_among}
use Rattle.rollback_apply.specs.Lagging.{afters_of}
use Rattle.rollback_apply.specs.Layers.{ops_in}
use Rattle.rollback_apply.specs.declared.keys.KeyValues.{KeyValues}
use Rattle.rollback_apply.specs.declared.layers.Layer.{Layer}
use Rattle.rollback_apply.proofs.ImageLemmas.{op_in, after_op-unnamed}

-- of joined lists
pub afters_of-append : (image : Image) (front rest : List Op)
    → afters_of image (front ++ rest) ≡ afters_of image front ++ afters_of (image_from image front) rest
afters_of-append image [] rest = refl
afters_of-append image (op ∷ front) rest =
    ap (λ (afters : List KeyValues). key_values (after_op image op) op ∷ afters) (afters_of-append (after_op image op) front rest)

pub length-afters_of : (image : Image) (ops : List Op) → length (afters_of image ops) ≡ length ops
length-afters_of image [] = refl
length-afters_of image (op ∷ ops) = let rest = length-afters_of (after_op image op) ops in grind arith

-- of the operation at a place
pub afters_of-at : (image : Image) (ops : List Op) (at : ℕ) (d : Op) (e : KeyValues)
    → at < length ops
    → get_or (afters_of image ops) at e ≡ key_values (after_op (image_from image (take at ops)) (get_or ops at d)) (get_or ops at d)
afters_of-at image [] at d e within = absurd (omega (arith, within))
afters_of-at image (op ∷ ops) zero d e within = refl
afters_of-at image (op ∷ ops) (suc at) d e within = afters_of-at (after_op image op) ops at d e (omega (arith, within))

-- what a key holds after an operation: what is told of it where it is named, and else what it held
pub after_op-told : (image : Image) (op : Op) (key : ℕ)
    → unwrap_or (value_among (key_values (after_op image op) op) op key) (image key) ≡ after_op image op key
after_op-told image op key = at (key == first_key op) (key == second_key op) refl refl where
  at : (first last : Bool) → (key == first_key op) ≡ first → (key == second_key op) ≡ last
      → unwrap_or (value_among (key_values (after_op image op) op) op key) (image key) ≡ after_op image op key
  at true last is_first is_last = rw is_first (ap (after_op image op) (sym (eqb-true key (first_key op) is_first)))
  at false true is_first is_last = rw (is_first, is_last) (ap (after_op image op) (sym (eqb-true key (second_key op) is_last)))
  at false false is_first is_last = rw (is_first, is_last) (sym (after_op-unnamed image op key (rw (is_first, is_last) refl)))

-- one operation more, of layers whose operations they are
pub ops_in-more : (layers : List Layer) (at : ℕ) (d : Layer)
    → at < length layers
    → ops_in (take (at + 1) layers) ≡ ops_in (take at layers) ++ (get_or layers at d).op ∷ []
ops_in-more layers at d within =
    ap ops_in (take_more layers at d within) ∙ map-append op_in (take at layers) (get_or layers at d ∷ [])

-- what is told of the operation at a place
pub told-at : (base : Image) (late : List Layer) (after : List KeyValues) (at : ℕ) (d : Layer) (e : KeyValues)
    → at < length late
    → take (length late) after ≡ afters_of base (ops_in late)
    → let op = (get_or late at d).op in
    get_or after at e ≡ key_values (after_op (image_from base (ops_in (take at late))) op) op
told-at base late after at d e within told =
    let ops = ops_in late in
    let is : get_or ops at d.op ≡ (get_or late at d).op = get_or-map op_in late at d d.op within in
    sym (get_or-take (length late) after at e within)
    ∙ ap (λ (afters : List KeyValues). get_or afters at e) told
    ∙ afters_of-at base ops at d.op e (omega (arith, within, length-map late op_in))
    ∙ ap₂ (λ (front : List Op) (op : Op). key_values (after_op (image_from base front) op) op) (take-map op_in at late) is

-- what a key holds after one operation more
pub told-more : (base : Image) (late : List Layer) (after : List KeyValues) (at key : ℕ) (d : Layer) (e : KeyValues)
    → at < length late
    → take (length late) after ≡ afters_of base (ops_in late)
    → unwrap_or (value_among (get_or after at e) (get_or late at d).op key) (image_from base (ops_in (take at late)) key)
    ≡ image_from base (ops_in (take (at + 1) late)) key
told-more base late after at key d e within told =
    let op = (get_or late at d).op in
    let now = image_from base (ops_in (take at late)) in
    ap (λ (values : KeyValues). unwrap_or (value_among values op key) (now key)) (told-at base late after at d e within told)
    ∙ after_op-told now op key
    ∙ sym (ap (λ (image : Image). image key) (fold-push after_op base (ops_in (take at late)) op))
    ∙ ap (λ (ops : List Op). image_from base ops key) (sym (ops_in-more late at d within))

-- one more is told
pub tells-more : (base : Image) (late : List Layer) (told : List KeyValues) (at : ℕ) (d : Layer) (values : KeyValues)
    → at < length late
    → told ≡ afters_of base (ops_in (take at late))
    → (let op = (get_or late at d).op in key_values (after_op (image_from base (ops_in (take at late))) op) op ≡ values)
    → told ++ values ∷ [] ≡ afters_of base (ops_in (take (at + 1) late))
tells-more base late told at d values within is last =
    let op = (get_or late at d).op in
    let ops = ops_in (take at late) in
    ap₂ (λ (front : List KeyValues) (value : KeyValues). front ++ value ∷ []) is (sym last)
    ∙ sym (afters_of-append base ops (op ∷ []))
    ∙ ap (afters_of base) (sym (ops_in-more late at d within))
