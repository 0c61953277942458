-- The image of writes in order, as they are committed and as more are put in.
use Rattle.std.proofs.Common.{◌≡◌, ℕ, ◌+◌, ◌-◌, ◌≤◌, true, false, if◌then◌else◌, List, [], ◌∷◌, ◌++◌, length, take, drop, insert, refl, sym, ap, ap₂, ◌∙◌, arith}
use Rattle.std.proofs.lemmas.List.{append_assoc, length-append, length-map, length-take-le, map-append, drop-drop, drop-map, drop-take, take-append-drop, take-map}
use Rattle.std.proofs.lemmas.List.Sums.{fold-append, sum_by-append, sum_by-cons}
use Rattle.std.proofs.lemmas.List.Sorted.{sum_by-IsPermutation}
use Rattle.std.specs.List.{sum_by}
use Rattle.std.proofs.Math.Seq.{take-append_seam, drop-append_seam}
use Rattle.tact_base.proofs.CommitLemmas.{committed_to-tentative_past, committed_to_prefix}
use Rattle.tact_base.specs.Images.{Image, after_op, empty_image, image_of, image_from, ops_of}
use Rattle.tact_base.proofs.OrderLemmas.{IsPermutation-in_order, IsSortedByPlace, IsSortedByPlace-with_write}
use Rattle.tact_base.specs.WriteOrder.{write_cmp, comes_before, with_write, in_order, committed_to, tentative_past}
use Rattle.commit_order.specs.Batches.{with_writes}
use Rattle.tact_base.specs.declared.write.Op.{Op}
use Rattle.tact_base.specs.declared.write.Write.{Write}
use Rattle.std.specs.List.Sorted.{IsSorted}
use Rattle.rollback_apply.specs.Image.{ImageState, base_of, value_in, AreJoined}
use Rattle.rollback_apply.proofs.ImageLemmas.{same_image}
use Rattle.replica_core.specs.Seen.{HasImage}

abbrev pub op_of : Write → Op
op_of write = write.op

-- Writes in order.
module _ (seen : List Write) (sorted : IsSorted write_cmp seen) (point : ℕ) where
  abbrev early : List Write
  early = committed_to point seen

  abbrev late : List Write
  late = tentative_past point seen

  parts : early ++ late ≡ seen
  parts = committed_to-tentative_past point seen sorted

  pub late-rest : late ≡ drop (length early) seen
  late-rest = sym (drop-append_seam early late) ∙ ap (drop (length early)) parts

  -- what their image has for a key
  pub value_in-image : (image : ImageState)
      → HasImage seen point image
      → (key : ℕ)
      → value_in image key ≡ image_of (ops_of seen) key
  value_in-image image has key =
      ap₂ (λ (base : Image) (ops : List Op). image_from base ops key) (same_image (base_of image) (image_of (ops_of early)) has.base) has.ops
      ∙ ap (λ (i : Image). i key) (sym (fold-append after_op empty_image (ops_of early) (ops_of late)))
      ∙ ap (λ (ops : List Op). image_of ops key) (sym (map-append op_of early late) ∙ ap ops_of parts)

  -- up to a later point
  module _ (later : ℕ) (rises : point ≤ later) where
    abbrev more : List Write
    more = (committed_to_prefix point later seen rises sorted).0

    grown : committed_to later seen ≡ early ++ more
    grown = (committed_to_prefix point later seen rises sorted).1

    abbrev left : List Write
    left = tentative_past later seen

    split : late ≡ more ++ left
    split =
        late-rest
        ∙ ap (drop (length early)) (sym (committed_to-tentative_past later seen sorted) ∙ ap (λ (front : List Write). front ++ left) grown ∙ append_assoc early more left)
        ∙ drop-append_seam early (more ++ left)

    count_is : length (committed_to later seen) ≡ length early + length more
    count_is = ap length grown ∙ length-append early more

    pub committed-rises : length early ≤ length (committed_to later seen)
    committed-rises = omega (arith, count_is)

    pub committed-within : length (committed_to later seen) ≤ length early + length late
    committed-within = omega (arith, count_is, ap length split, length-append more left)

    pub HasImage-committed : (image after : ImageState)
        → HasImage seen point image
        → (let going = length (committed_to later seen) - image.committed in
        after.committed ≡ length (committed_to later seen)
        → ((key : ℕ) → base_of after key ≡ image_from (base_of image) (take going image.ops) key)
        → after.ops ≡ drop going image.ops
        → HasImage seen later after)
    HasImage-committed image after has is_count is_base is_ops =
        let going = length (committed_to later seen) - image.committed in
        let all : image.ops ≡ ops_of more ++ ops_of left = has.ops ∙ ap ops_of split ∙ map-append op_of more left in
        let many : going ≡ length (ops_of more) = omega (arith, count_is, has.committed, length-map more op_of) in
        let gone : take going image.ops ≡ ops_of more = ap₂ take many all ∙ take-append_seam (ops_of more) (ops_of left) in
        let kept : drop going image.ops ≡ ops_of left = ap₂ drop many all ∙ drop-append_seam (ops_of more) (ops_of left) in
        record {
          committed = is_count;
          base = λ key.
              is_base key
              ∙ ap₂ (λ (base : Image) (ops : List Op). image_from base ops key) (same_image (base_of image) (image_of (ops_of early)) has.base) gone
              ∙ ap (λ (i : Image). i key) (sym (fold-append after_op empty_image (ops_of early) (ops_of more)))
              ∙ ap (λ (ops : List Op). image_of ops key) (sym (map-append op_of early more) ∙ ap ops_of (sym grown));
          ops = is_ops ∙ kept;
        }

-- Writes in order before and after more are put in, none of them among what is committed: up to a place nothing moves.
module _ (seen more : List Write) (sorted : IsSorted write_cmp seen) (sorted_more : IsSorted write_cmp more) (point place : ℕ)
    (same : committed_to point more ≡ committed_to point seen) (stays : take place more ≡ take place seen) where
  pub late-stays : length (committed_to point seen) ≤ place
      → (let front = place - length (committed_to point seen) in
      take front (tentative_past point seen) ≡ take front (tentative_past point more))
  late-stays past =
      let count = length (committed_to point seen) in
      let front = place - count in
      let whole : place ≡ count + front = omega (arith, past) in
      let of_seen : take front (tentative_past point seen) ≡ drop count (take place seen) =
      ap (take front) (late-rest seen sorted point) ∙ sym (drop-take count front seen) ∙ ap (λ (n : ℕ). drop count (take n seen)) (sym whole) in
      let of_more : take front (tentative_past point more) ≡ drop count (take place more) =
      ap (take front) (late-rest more sorted_more point ∙ ap (λ (ws : List Write). drop (length ws) more) same) ∙ sym (drop-take count front more)
      ∙ ap (λ (n : ℕ). drop count (take n more)) (sym whole) in
      of_seen ∙ ap (drop count) (sym stays) ∙ sym of_more

  -- where one write alone is put in at the place, its operation is put in among the tentative ones
  pub late-alone : (write : Write)
      → more ≡ insert seen place write
      → length (committed_to point seen) ≤ place
      → place ≤ length seen
      → ops_of (tentative_past point more) ≡ insert (ops_of (tentative_past point seen)) (place - length (committed_to point seen)) write.op
  late-alone write is past within =
      let count = length (committed_to point seen) in
      let front = place - count in
      let of_seen = tentative_past point seen in
      let of_more = tentative_past point more in
      let whole : count + front ≡ place = omega (arith, past) in
      let put : List Write = take place seen ++ write ∷ drop place seen in
      let rest_seen : drop front of_seen ≡ drop place seen =
      ap (drop front) (late-rest seen sorted point) ∙ drop-drop front count seen ∙ ap (λ (n : ℕ). drop n seen) whole in
      let behind : drop place put ≡ write ∷ drop place seen =
      ap (λ (n : ℕ). drop n put) (sym (length-take-le place seen within)) ∙ drop-append_seam (take place seen) (write ∷ drop place seen) in
      let rest_more : drop front of_more ≡ write ∷ drop place seen =
      ap (drop front) (late-rest more sorted_more point ∙ ap (λ (ws : List Write). drop (length ws) more) same)
      ∙ drop-drop front count more ∙ ap (λ (n : ℕ). drop n more) whole ∙ ap (drop place) is ∙ behind in
      ap ops_of (sym (take-append-drop front of_more))
      ∙ map-append op_of (take front of_more) (drop front of_more)
      ∙ ap₂ (λ (before rest : List Write). ops_of before ++ ops_of rest) (sym (late-stays past)) rest_more
      ∙ ap₂ (λ (before rest : List Op). before ++ write.op ∷ rest) (sym (take-map op_of front of_seen))
      (ap ops_of (sym rest_seen) ∙ sym (drop-map op_of front of_seen))

  pub HasImage-admitted : (image after : ImageState)
      → HasImage seen point image
      → after.committed ≡ image.committed
      → ((key : ℕ) → base_of after key ≡ base_of image key)
      → after.ops ≡ ops_of (tentative_past point more)
      → HasImage more point after
  HasImage-admitted image after has same_count same_base is_ops = record {
    committed = same_count ∙ has.committed ∙ ap length (sym same);
    base = λ key. same_base key ∙ has.base key ∙ ap (λ (ws : List Write). image_of (ops_of ws) key) (sym same);
    ops = is_ops;
  }

-- what operations of writes sum up to
sum_by-ops : (amount : Op → ℕ) (writes : List Write) → sum_by amount (ops_of writes) ≡ sum_by (λ (write : Write). amount write.op) writes
sum_by-ops amount [] = refl
sum_by-ops amount (write ∷ writes) = omega (
  arith,
  sum_by-cons amount write.op (ops_of writes),
  sum_by-cons (λ (write : Write). amount write.op) write writes,
  sum_by-ops amount writes,
)

-- the operations of the tentative writes are joined by those of more writes that are put in, none of them among what is
-- committed
pub tentative-joined : (seen writes more : List Write) (sorted : IsSorted write_cmp seen) (sorted_more : IsSorted write_cmp more) (point : ℕ)
    → more ≡ in_order (seen ++ writes)
    → committed_to point more ≡ committed_to point seen
    → AreJoined (ops_of (tentative_past point seen)) (ops_of writes) (ops_of (tentative_past point more))
tentative-joined seen writes more sorted sorted_more point is same amount =
    let of_write : Write → ℕ = λ write. amount write.op in
    let total : List Write → ℕ = sum_by of_write in
    omega (
      arith,
      sum_by-ops amount (tentative_past point seen),
      sum_by-ops amount (tentative_past point more),
      sum_by-ops amount writes,
      ap total is,
      sum_by-IsPermutation of_write (seen ++ writes) (in_order (seen ++ writes)) (IsPermutation-in_order (seen ++ writes)),
      sum_by-append of_write seen writes,
      ap total (committed_to-tentative_past point seen sorted),
      sum_by-append of_write (committed_to point seen) (tentative_past point seen),
      ap total (committed_to-tentative_past point more sorted_more),
      sum_by-append of_write (committed_to point more) (tentative_past point more),
      ap total same,
    )

-- more writes put in leave the order, and make it longer by their number
pub sorted-with_writes : (writes held : List Write)
    → IsSortedByPlace held
    → IsSortedByPlace (with_writes writes held)
sorted-with_writes [] held sorted = sorted
sorted-with_writes (write ∷ writes) held sorted = sorted-with_writes writes (with_write write held) (IsSortedByPlace-with_write write held sorted)

length-with_write : (write : Write) (held : List Write) → length (with_write write held) ≡ length held + 1
length-with_write write [] = refl
length-with_write write (first ∷ held) =
    elim (comes_before write first) as (λ before. length (if before then write ∷ first ∷ held else first ∷ with_write write held) ≡ length (first ∷ held) + 1) [
      | true ↦ omega arith
      | false ↦ omega (arith, length-with_write write held)
    ]

pub length-with_writes : (writes held : List Write) → length (with_writes writes held) ≡ length held + length writes
length-with_writes [] held = omega arith
length-with_writes (write ∷ writes) held = omega (arith, length-with_writes writes (with_write write held), length-with_write write held)
