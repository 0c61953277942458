-- What operations do to an image, key by key, and how the layers that are kept follow them.
use Rattle.std.proofs.Common.{◌≡◌, ℕ, zero, suc, pos, ◌+ℤ◌, ◌-ℤ◌, ◌-◌, ◌+◌, ◌<◌, ◌≤◌, Bool, true, false, ◌==◌}
use Rattle.std.proofs.Common.{if◌then◌else◌, nat_le, slice_get, List, [], ◌∷◌, ◌++◌, length, get_or, take, drop, insert, set}
use Rattle.std.proofs.Common.{Option, Some, None, refl, sym, ap, ap₂, ◌∙◌, ◌*◌, map, arith}
use Rattle.std.specs.List.{sum_by}
use Rattle.std.proofs.lemmas.Bool.{or_parts, eqb-true, le-leb}
use Rattle.std.proofs.lemmas.List.{get_or-map, get_or-take, same_from_push, take_all, take_more, take_more_set, take-append-drop, take-append-le, take-map, drop-map, map-append, length-map, length-take}
use Rattle.std.proofs.lemmas.List.Elements.{All-get_or, All-take, All-weaker}
use Rattle.std.proofs.lemmas.List.Sums.{fold-append, sum_by-append, sum_by-cons, sum_by-le-sum_by}
use Rattle.std.specs.Option.{option_map_or}
use Rattle.std.specs.Vec.{vec_capacity}
use Rattle.std.proofs.Math.Seq.{drop-append_seam, drop-cons, take-add}
use Rattle.tact_base.proofs.ListLemmas.{fold-push}
use Rattle.tact_base.specs.Images.{Image, capped, with_value, shift_acts, after_op, image_from}
use Rattle.tact_base.specs.declared.write.Op.{Op}
use Rattle.tact_base.specs.declared.write.Write.{Write}
use Rattle.tact_base.specs.declared.write.Op.TheVariants.{Put, Add, Shift}
use Rattle.rollback_apply.specs.Image.{ImageState, base_of, value_before, AreJoined}
use Rattle.rollback_apply.specs.Keys.{first_key, second_key, names, key_values, with_key_values, value_among, undos_of}
use Rattle.rollback_apply.specs.Current.{CurrentState, place_of, holds, lacking, Extends, KeepPlaces}
use Rattle.rollback_apply.specs.Layers.{ops_in, wanted, all_wanted, ArePlaced, HasMemory, HasPlaces, SetsKeys, IsApplied}
use Rattle.rollback_apply.specs.declared.keys.KeyValues.{KeyValues}
use Rattle.rollback_apply.specs.declared.layers.Layer.{Layer}
use Rattle.rollback_apply.specs.declared.layers.Layers.{Layers}
use Rattle.rollback_apply.specs.declared.layers.Places.{Places}

-- the front of a longer front
pub take-within : {A : Type 0} (n at : ℕ) (xs : List A) → n ≤ at → take n (take at xs) ≡ take n xs
take-within zero at xs within = refl
take-within (suc n) zero xs within = absurd (omega (arith, within))
take-within (suc n) (suc at) [] within = refl
take-within (suc n) (suc at) (x ∷ xs) within = ap (λ rest. x ∷ rest) (take-within n at xs (omega (arith, within)))

-- images that agree at each key are one
pub same_image : (f g : Image) → ((key : ℕ) → f key ≡ g key) → f ≡ g
same_image f g same = λ i key. same key i

-- an operation leaves the keys that it doesn't name
pub after_op-unnamed : (image : Image) (op : Op) (key : ℕ)
    → names op key ≡ false
    → after_op image op key ≡ image key
after_op-unnamed image (Put named value) key other =
    let apart : (key == named) ≡ false = (or_parts _ _ other).0 in
    rw apart refl
after_op-unnamed image (Add named delta) key other =
    let apart : (key == named) ≡ false = (or_parts _ _ other).0 in
    rw apart refl
after_op-unnamed image (Shift from to amount) key other =
    let apart_from : (key == from) ≡ false = (or_parts _ _ other).0 in
    let apart_to : (key == to) ≡ false = (or_parts _ _ other).1 in
    let shifted : Image = with_value (with_value image from (image from -ℤ pos amount)) to (capped (image to +ℤ pos amount)) in
    elim (shift_acts image from to amount) as (λ acts. (if acts then shifted else image) key ≡ image key) [
      | true ↦ rw (apart_to, apart_from) refl
      | false ↦ refl
    ]

-- an image with the values that another one has at the keys of an operation is that one, where both agree elsewhere
pub with_key_values-other : (old new : Image) (op : Op)
    → ((key : ℕ) → names op key ≡ false → old key ≡ new key)
    → (key : ℕ)
    → with_key_values old op (key_values new op) key ≡ new key
with_key_values-other old new op elsewhere key = at (key == second_key op) (key == first_key op) refl refl where
  at : (last first : Bool) → (key == second_key op) ≡ last → (key == first_key op) ≡ first
      → with_key_values old op (key_values new op) key ≡ new key
  at true first is_last is_first = rw is_last (ap new (sym (eqb-true key (second_key op) is_last)))
  at false true is_last is_first = rw (is_last, is_first) (ap new (sym (eqb-true key (first_key op) is_first)))
  at false false is_last is_first = rw (is_last, is_first) (elsewhere key (rw (is_first, is_last) refl))

-- the undos of joined lists
pub undos_of-append : (image : Image) (front rest : List Op)
    → undos_of image (front ++ rest) ≡ undos_of image front ++ undos_of (image_from image front) rest
undos_of-append image [] rest = refl
undos_of-append image (op ∷ front) rest =
    ap (λ undos. key_values image op ∷ undos) (undos_of-append (after_op image op) front rest)

pub length-undos_of : (image : Image) (ops : List Op) → length (undos_of image ops) ≡ length ops
length-undos_of image [] = refl
length-undos_of image (op ∷ ops) = let rest = length-undos_of (after_op image op) ops in grind arith

-- the places of the keys of an operation stay
pub has_places-stay : (old new : CurrentState) (places : Places) (op : Op)
    → KeepPlaces old new
    → HasPlaces old places op
    → HasPlaces new places op
has_places-stay old new places op stay has = record {
  first = stay (first_key op) places.first has.first;
  second = stay (second_key op) places.second has.second;
}

-- and so do those of each layer
pub are_placed-stay : (old new : CurrentState) (layers : List Layer)
    → KeepPlaces old new
    → ArePlaced old layers
    → ArePlaced new layers
are_placed-stay old new layers stay all =
    All-weaker (λ (layer : Layer). HasPlaces old layer.places layer.op) (λ (layer : Layer). HasPlaces new layer.places layer.op)
    (λ layer has. has_places-stay old new layer.places layer.op stay has) layers all

-- the same places are the places of the same keys
pub same-places : (old new : CurrentState) → new.places ≡ old.places → KeepPlaces old new
same-places old new same key place there = rw same there

-- keys that get places, where they hold what they held, change nothing
pub applied-more : (base : Image) (old new : CurrentState) (layers : List Layer)
    → Extends old new
    → IsApplied base old layers
    → IsApplied base new layers
applied-more base old new layers more applied = record {
  undone = applied.undone;
  fold = λ key. more.holds key ∙ applied.fold key;
}

abbrev pub held_of : Layer → KeyValues
held_of layer = layer.held

abbrev pub op_of : Write → Op
op_of write = write.op

abbrev pub op_in : Layer → Op
op_in layer = layer.op

-- one operation more
pub applied-push : (base : Image) (old new : CurrentState) (layers : List Layer) (layer : Layer) (values : KeyValues)
    → IsApplied base old layers
    → layer.held ≡ key_values (holds old) layer.op
    → ((image : Image) → key_values image layer.op ≡ layer.held → key_values (after_op image layer.op) layer.op ≡ values)
    → SetsKeys old new layer.op values
    → IsApplied base new (layers ++ layer ∷ [])
applied-push base old new layers layer values applied held after sets =
    let op = layer.op in
    let ops = ops_in layers in
    let now = image_from base ops in
    let same : holds old ≡ now = same_image (holds old) now applied.fold in
    let held_is : layer.held ≡ key_values now op = held ∙ ap (λ image. key_values image op) same in
    let values_are : key_values (after_op now op) op ≡ values = after now (sym held_is) in
    let all : ops_in (layers ++ layer ∷ []) ≡ ops ++ op ∷ [] = map-append op_in layers (layer ∷ []) in
    record {
      undone =
          map-append held_of layers (layer ∷ [])
          ∙ ap (λ first. first ++ layer.held ∷ []) applied.undone
          ∙ ap (λ last. undos_of base ops ++ last ∷ []) held_is
          ∙ sym (undos_of-append base ops (op ∷ []))
          ∙ ap (undos_of base) (sym all);
      fold = λ key.
          sets key
          ∙ ap (λ image. with_key_values image op values key) same
          ∙ ap (λ last. with_key_values now op last key) (sym values_are)
          ∙ with_key_values-other now (after_op now op) op (λ other apart. sym (after_op-unnamed now op other apart)) key
          ∙ sym (ap (λ (image : Image). image key) (fold-push after_op base ops op))
          ∙ ap (λ done. image_from base done key) (sym all);
    }

-- one operation less
pub applied-pop : (base : Image) (old new : CurrentState) (layers : List Layer) (layer : Layer)
    → IsApplied base old (layers ++ layer ∷ [])
    → SetsKeys old new layer.op layer.held
    → IsApplied base new layers
applied-pop base old new layers layer applied sets =
    let op = layer.op in
    let ops = ops_in layers in
    let now = image_from base ops in
    let all : ops_in (layers ++ layer ∷ []) ≡ ops ++ op ∷ [] = map-append op_in layers (layer ∷ []) in
    let same : holds old ≡ after_op now op =
    same_image (holds old) (image_from base (ops_in (layers ++ layer ∷ []))) applied.fold
    ∙ ap (image_from base) all ∙ fold-push after_op base ops op in
    let both =
    same_from_push (map held_of layers) (undos_of base ops) layer.held (key_values now op)
    (sym (map-append held_of layers (layer ∷ [])) ∙ applied.undone ∙ ap (undos_of base) all ∙ undos_of-append base ops (op ∷ [])) in
    record {
      undone = both.0;
      fold = λ key.
          sets key
          ∙ ap (λ image. with_key_values image op layer.held key) same
          ∙ ap (λ last. with_key_values (after_op now op) op last key) both.1
          ∙ with_key_values-other (after_op now op) now op (after_op-unnamed now op) key;
    }

-- the keys of one of the first layers have their places
pub places-of : (current : CurrentState) (layers : List Layer) (count at : ℕ) (layer d : Layer)
    → at < count
    → at < length layers
    → layer ≡ get_or layers at d
    → ArePlaced current (take count layers)
    → HasPlaces current layer.places layer.op
places-of current layers count at layer d before within is placed =
    let here : at < length (take count layers) = omega (arith, before, within, length-take count layers) in
    rw (is ∙ sym (get_or-take count layers at d before))
    (All-get_or (λ (layer : Layer). HasPlaces current layer.places layer.op) (take count layers) at d here placed)

-- and those of fewer have them too
pub placed-fewer : (current : CurrentState) (layers : List Layer) (few many : ℕ)
    → few ≤ many
    → ArePlaced current (take many layers)
    → ArePlaced current (take few layers)
placed-fewer current layers few many within placed =
    rw (← take-within few many layers within)
    (All-take (λ (layer : Layer). HasPlaces current layer.places layer.op) few (take many layers) placed)

-- the layer at a place, the last that is applied, is undone
pub undone-at : (base : Image) (old new : CurrentState) (layers : List Layer) (at : ℕ) (layer d : Layer)
    → at < length layers
    → layer ≡ get_or layers at d
    → IsApplied base old (take (at + 1) layers)
    → SetsKeys old new layer.op layer.held
    → IsApplied base new (take at layers)
undone-at base old new layers at layer d within is applied sets =
    applied-pop base old new (take at layers) layer
    (rw (take_more layers at d within ∙ ap (λ (last : Layer). take at layers ++ last ∷ []) (sym is)) at applied) sets

-- the layer at a place is put there with what its keys hold, and applied after those before it
pub applied-at : (base : Image) (old new : CurrentState) (layers : List Layer) (at : ℕ) (layer : Layer) (values : KeyValues)
    → at < length layers
    → IsApplied base old (take at layers)
    → layer.held ≡ key_values (holds old) layer.op
    → ((image : Image) → key_values image layer.op ≡ layer.held → key_values (after_op image layer.op) layer.op ≡ values)
    → SetsKeys old new layer.op values
    → IsApplied base new (take (at + 1) (set layers at layer))
applied-at base old new layers at layer values within applied held after sets =
    rw (take_more_set layers at layer within)
    (applied-push base old new (take at layers) layer values applied held after sets)

-- the first operations are committed
pub applied-settle : (base settled : Image) (current : CurrentState) (front rest : List Layer)
    → IsApplied base current (front ++ rest)
    → settled ≡ image_from base (ops_in front)
    → IsApplied settled current rest
applied-settle base settled current front rest applied is =
    let first = undos_of base (ops_in front) in
    let last = undos_of (image_from base (ops_in front)) (ops_in rest) in
    let all : ops_in (front ++ rest) ≡ ops_in front ++ ops_in rest = map-append op_in front rest in
    let count : length (map held_of front) ≡ length first =
    length-map front held_of ∙ sym (length-map front op_in) ∙ sym (length-undos_of base (ops_in front)) in
    let joined : map held_of front ++ map held_of rest ≡ first ++ last =
    sym (map-append held_of front rest) ∙ applied.undone ∙ ap (undos_of base) all ∙ undos_of-append base (ops_in front) (ops_in rest) in
    record {
      undone =
          sym (drop-append_seam (map held_of front) (map held_of rest))
          ∙ ap₂ drop count joined
          ∙ drop-append_seam first last
          ∙ ap (λ image. undos_of image (ops_in rest)) (sym is);
      fold = λ key.
          applied.fold key
          ∙ ap (λ done. image_from base done key) all
          ∙ ap (λ (image : Image). image key) (fold-append after_op base (ops_in front) (ops_in rest))
          ∙ ap (λ image. image_from image (ops_in rest) key) (sym is);
    }

-- keys that have places want no more than before
lacking-stays : (old new : CurrentState) (key : ℕ) → KeepPlaces old new → lacking new key ≤ lacking old key
lacking-stays old new key stay = at (place_of old key) refl where
  at : (found : Option ℕ) → place_of old key ≡ found → lacking new key ≤ lacking old key
  at None none = rw none (one (place_of new key)) where
    one : (found : Option ℕ) → option_map_or (λ place. 0) found 1 ≤ 1
    one None = omega arith
    one (Some place) = omega arith
  at (Some place) some = rw (some, stay key place some) (omega arith)

pub wanted-stays : (old new : CurrentState) (op : Op) → KeepPlaces old new → wanted new op ≤ wanted old op
wanted-stays old new op stay =
    omega (arith, lacking-stays old new (first_key op) stay, lacking-stays old new (second_key op) stay)

pub all_wanted-stays : (old new : CurrentState) (ops : List Op) → KeepPlaces old new → all_wanted new ops ≤ all_wanted old ops
all_wanted-stays old new ops stay = sum_by-le-sum_by (wanted new) (wanted old) ops (λ op. wanted-stays old new op stay)

-- keys that have their places want none
pub placed-wants : (current : CurrentState) (places : Places) (op : Op) → HasPlaces current places op → wanted current op ≡ 0
placed-wants current places op has =
    let first : lacking current (first_key op) ≡ 0 = rw has.first refl in
    let second : lacking current (second_key op) ≡ 0 = rw has.second refl in
    omega (arith, first, second)

-- the keys of any want at most two
pub few_wanted-one : (current : CurrentState) (op : Op) → wanted current op ≤ 2
few_wanted-one current op = omega (arith, few (first_key op), few (second_key op)) where
  few : (key : ℕ) → lacking current key ≤ 1
  few key = at (place_of current key) where
    at : (found : Option ℕ) → option_map_or (λ place. 0) found 1 ≤ 1
    at None = omega arith
    at (Some place) = omega arith

pub few_wanted : (current : CurrentState) (ops : List Op) → all_wanted current ops ≤ 2 * length ops
few_wanted current [] = omega arith
few_wanted current (op ∷ ops) =
    let all : all_wanted current (op ∷ ops) ≡ wanted current op + all_wanted current ops = sum_by-cons (wanted current) op ops in
    omega (arith, all, few_wanted-one current op, few_wanted current ops)

-- one that is put among others wants what it wants alone
pub wanted-insert : (current : CurrentState) (ops : List Op) (at : ℕ) (op : Op)
    → all_wanted current (insert ops at op) ≡ all_wanted current ops + wanted current op
wanted-insert current ops at op =
    omega (
      arith,
      sum_by-append (wanted current) (take at ops) (op ∷ drop at ops),
      sum_by-cons (wanted current) op (drop at ops),
      sum_by-append (wanted current) (take at ops) (drop at ops),
      ap (all_wanted current) (take-append-drop at ops),
    )

-- what the operations behind a place want, where those before it are the same and all want so much more
pub wanted-behind : (current : CurrentState) (old new : List Op) (at more : ℕ)
    → take at new ≡ take at old
    → all_wanted current new ≡ all_wanted current old + more
    → all_wanted current (drop at new) ≡ all_wanted current (drop at old) + more
wanted-behind current old new at more front all =
    omega (arith, all, parted old, parted new, ap (all_wanted current) front) where
      parted : (ops : List Op) → all_wanted current ops ≡ all_wanted current (take at ops) + all_wanted current (drop at ops)
      parted ops =
          ap (all_wanted current) (sym (take-append-drop at ops)) ∙ sum_by-append (wanted current) (take at ops) (drop at ops)

-- what those from a place on want
pub wanted-from : (current : CurrentState) (layers : List Layer) (at : ℕ) (layer d : Layer)
    → at < length layers
    → layer ≡ get_or layers at d
    → all_wanted current (ops_in (drop at layers)) ≡ wanted current layer.op + all_wanted current (ops_in (drop (at + 1) layers))
wanted-from current layers at layer d within is =
    let one_more : suc at ≡ at + 1 = omega arith in
    let rest : drop at layers ≡ layer ∷ drop (at + 1) layers =
    drop-cons layers at d within ∙ ap₂ (λ (layer : Layer) (count : ℕ). layer ∷ drop count layers) (sym is) one_more in
    ap (λ (rest : List Layer). all_wanted current (ops_in rest)) rest
    ∙ sum_by-cons (wanted current) layer.op (ops_in (drop (at + 1) layers))

-- memory for so many operations is memory for fewer
pub memory-fewer : (layers : Layers) (applied more fewer : ℕ)
    → fewer ≤ more
    → HasMemory layers applied more
    → HasMemory layers applied fewer
memory-fewer layers applied more fewer within has = record {
  listed = omega (arith, within, has.listed);
  keys = omega (arith, within, has.keys);
}

-- and it stays where there is as much room, and keys keep their places
pub memory-stays : (old new : Layers) (applied count : ℕ)
    → new.tentative.items ≡ old.tentative.items
    → vec_capacity old.tentative ≤ vec_capacity new.tentative
    → Extends old.current new.current
    → old.current.spare ≤ new.current.spare
    → HasMemory old applied count
    → HasMemory new applied count
memory-stays old new applied count same more extends spare has = record {
  listed = omega (arith, has.listed, more, ap length same);
  keys = omega (
    arith,
    has.keys,
    spare,
    all_wanted-stays old.current new.current (ops_in (drop applied old.tentative.items)) extends.places,
    ap (λ (layers : List Layer). all_wanted new.current (ops_in (drop applied layers))) same,
  );
}

-- operations that are put among others are as many as both
pub joined_length : (ops new all : List Op) → AreJoined ops new all → length all ≡ length ops + length new
joined_length ops new all joined = omega (arith, joined (λ op. 1), ones ops, ones new, ones all) where
  ones : (ops : List Op) → sum_by (λ (op : Op). 1) ops ≡ length ops
  ones [] = refl
  ones (op ∷ ops) =
      omega (arith, sum_by-cons (λ (op : Op). 1) op ops, ones ops)

-- what keys hold after more operations than are applied
pub held-behind : (base : Image) (current : CurrentState) (layers : List Layer) (applied more key : ℕ)
    → IsApplied base current (take applied layers)
    → image_from (holds current) (ops_in (take more (drop applied layers))) key
    ≡ image_from base (ops_in (take (applied + more) layers)) key
held-behind base current layers applied more key is =
    let front = ops_in (take applied layers) in
    let rest = ops_in (take more (drop applied layers)) in
    ap (λ (image : Image). image_from image rest key) (same_image (holds current) (image_from base front) is.fold)
    ∙ sym (ap (λ (image : Image). image key) (fold-append after_op base front rest))
    ∙ ap (λ (ops : List Op). image_from base ops key)
    (sym (ap ops_in (take-add applied more layers) ∙ map-append op_in (take applied layers) (take more (drop applied layers))))

-- one more item at a place of a list
module _ {A : Type 0} where
  take-insert : (xs : List A) (at : ℕ) (x : A) → at ≤ length xs → take at (insert xs at x) ≡ take at xs
  take-insert xs at x within =
      let whole : at ≤ length (take at xs) = omega (arith, length-take at xs, within) in
      take-append-le at (take at xs) (x ∷ drop at xs) whole ∙ take_all at (take at xs) (omega (arith, length-take at xs))

  pub take-insert-le : (xs : List A) (n at : ℕ) (x : A) → n ≤ at → at ≤ length xs → take n (insert xs at x) ≡ take n xs
  take-insert-le xs n at x before within =
      sym (take-within n at (insert xs at x) before) ∙ ap (take n) (take-insert xs at x within) ∙ take-within n at xs before

pub map-insert : {A B : Type 0} (f : A → B) (xs : List A) (at : ℕ) (x : A) → map f (insert xs at x) ≡ insert (map f xs) at (f x)
map-insert {A} {B} f xs at x =
    map-append f (take at xs) (x ∷ drop at xs)
    ∙ ap₂ (λ (front rest : List B). front ++ f x ∷ rest) (sym (take-map f at xs)) (sym (drop-map f at xs))

-- the undo at a place has what the keys of the operation there held before it
undos_of-at : (image : Image) (ops : List Op) (at : ℕ) (d : Op) (e : KeyValues)
    → at < length ops
    → get_or (undos_of image ops) at e ≡ key_values (image_from image (take at ops)) (get_or ops at d)
undos_of-at image [] at d e within = absurd (omega (arith, within))
undos_of-at image (op ∷ ops) zero d e within = refl
undos_of-at image (op ∷ ops) (suc at) d e within = undos_of-at (after_op image op) ops at d e (omega (arith, within))

-- and so has the layer there, where so many are applied
pub held-at : (base : Image) (current : CurrentState) (layers : List Layer) (at applied : ℕ) (d : Layer)
    → at < applied
    → at < length layers
    → IsApplied base current (take applied layers)
    → (get_or layers at d).held ≡ key_values (image_from base (ops_in (take at layers))) (get_or layers at d).op
held-at base current layers at applied d before within is =
    let front = take applied layers in
    let ops = ops_in front in
    let here : at < length front = omega (arith, before, within, length-take applied layers) in
    let same : get_or front at d ≡ get_or layers at d = get_or-take applied layers at d before in
    let op_is : get_or ops at d.op ≡ (get_or layers at d).op =
    get_or-map op_in front at d d.op here ∙ ap op_in same in
    let front_is : take at ops ≡ ops_in (take at layers) =
    take-map op_in at front ∙ ap ops_in (take-within at applied layers (omega (arith, before))) in
    ap held_of (sym same)
    ∙ sym (get_or-map held_of front at d d.held here)
    ∙ ap (λ (undos : List KeyValues). get_or undos at d.held) is.undone
    ∙ undos_of-at base ops at d.op d.held (omega (arith, here, length-map front op_in))
    ∙ ap₂ (λ (before : List Op) (op : Op). key_values (image_from base before) op) front_is op_is

-- what a key held before the operation at a place, where this is tentative, is told by what its keys held
pub value_before-tentative : (state : ImageState) (place key : ℕ) (op : Op) (held : KeyValues)
    → state.committed ≤ place
    → slice_get state.ops (place - state.committed) ≡ Some op
    → held ≡ key_values (image_from (base_of state) (take (place - state.committed) state.ops)) op
    → value_among held op key ≡ value_before state place key
value_before-tentative state place key op held tentative there is =
    let before = image_from (base_of state) (take (place - state.committed) state.ops) in
    let above : nat_le state.committed place ≡ true = le-leb state.committed place tentative in
    rw (above, there) (among before is (key == first_key op) (key == second_key op) refl refl) where
      among : (before : Image) → held ≡ key_values before op
          → (first last : Bool)
          → (key == first_key op) ≡ first
          → (key == second_key op) ≡ last
          → value_among held op key ≡ (if names op key then Some (before key) else None)
      among before is true last is_first is_last =
          rw is_first (ap (λ values. Some values.first) is ∙ ap (λ named. Some (before named)) (sym (eqb-true key (first_key op) is_first)))
      among before is false true is_first is_last =
          rw (is_first, is_last) (ap (λ values. Some values.second) is ∙ ap (λ named. Some (before named)) (sym (eqb-true key (second_key op) is_last)))
      among before is false false is_first is_last = rw (is_first, is_last) refl
