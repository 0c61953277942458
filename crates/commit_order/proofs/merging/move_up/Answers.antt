use Rattle.std.proofs.Common.{◌≡◌, ℕ, ◌+◌, ◌-◌, ◌≤◌, List, ◌++◌, length, take, drop, sym, ap, ap₂, ◌∙◌, arith}
use Rattle.std.proofs.lemmas.List.{append_assoc, drop-append-le, drop-drop, drop-take, drop_at, length-append, length-drop, length-take-le, take-append-drop, take-take, take_at}
use Rattle.commit_order.proofs.merging.move_up.Goals as goal

-- Those from a place on have moved up, and others haven't: the last of these go to where they end up, in front of them.
module _ {X : Type 0} (was now : List X) (start count end to by : ℕ) (piece : start + count ≡ end) (high : end ≤ to) (within : to + by ≤ length was) (long : length now ≡ length was) (front : take (end + by) now ≡ take (end + by) was) where
  abbrev put : List X
  put = take (start + by) now ++ (take count (drop start now) ++ drop (start + by + count) now)

  stays : (n : ℕ) → n ≤ end + by → take n now ≡ take n was
  stays n few = sym (take-take n (end + by) now few) ∙ (ap (take n) front ∙ take-take n (end + by) was few)

  first : length (take (start + by) now) ≡ start + by
  first = length-take-le (start + by) now (omega (arith, piece, high, within, long))

  long_still : length put ≡ length was
  long_still =
      let part : length (take count (drop start now)) ≡ count = length-take-le count (drop start now) (omega (arith, length-drop start now, piece, high, within, long)) in
      omega (
        arith,
        length-append (take (start + by) now) (take count (drop start now) ++ drop (start + by + count) now),
        length-append (take count (drop start now)) (drop (start + by + count) now),
        length-drop (start + by + count) now,
        first,
        part,
        piece,
        high,
        within,
        long,
      )

  still : take (start + by) put ≡ take (start + by) was
  still =
      take_at (take (start + by) now) (take count (drop start now) ++ drop (start + by + count) now) (start + by) first
      ∙ stays (start + by) (omega (arith, piece))

  goes : take count (drop start now) ≡ drop start (take end (take to was))
  goes =
      sym (drop-take start count now)
      ∙ (ap (λ n. drop start (take n now)) piece
      ∙ ap (drop start) (stays end (omega arith) ∙ sym (take-take end to was high)))

  joins : drop start (take end (take to was)) ++ drop end (take to was) ≡ drop start (take to was)
  joins =
      let long_to : length (take to was) ≡ to = length-take-le to was (omega (arith, within)) in
      sym (drop-append-le start (take end (take to was)) (drop end (take to was))
      (omega (arith, piece, length-take-le end (take to was) (omega (arith, high, long_to)))))
      ∙ ap (drop start) (take-append-drop end (take to was))

  moves : drop (end + by) now ≡ drop end (take to was) ++ drop (to + by) was
      → drop (start + by) put ≡ drop start (take to was) ++ drop (to + by) was
  moves moved =
      let next : start + by + count ≡ end + by = omega (arith, piece) in
      drop_at (take (start + by) now) (take count (drop start now) ++ drop (start + by + count) now) (start + by) first
      ∙ (ap₂ (λ (l m : List X). l ++ m) goes (ap (λ n. drop n now) next ∙ moved)
      ∙ (sym (append_assoc (drop start (take end (take to was))) (drop end (take to was)) (drop (to + by) was))
      ∙ ap (λ (l : List X). l ++ drop (to + by) was) joins))

  -- what is put on the far side of the place that they go to, from the near side
  is_put : (near far others : List X)
      → count ≤ by
      → near ≡ take (start + by) now
      → far ≡ drop (start + by) now
      → others ≡ take count (drop start near) ++ drop count far
      → near ++ others ≡ put
  is_put near far others few near_is far_is others_is =
      ap₂ (λ (l m : List X). l ++ m) near_is
      (others_is
      ∙ ap₂ (λ (l m : List X). l ++ m)
      (ap (λ (l : List X). take count (drop start l)) near_is ∙ (ap (take count) (drop-take start by now) ∙ take-take count by (drop start now) few))
      (ap (drop count) far_is ∙ drop-drop count (start + by) now))

pub loop-end-preserved : goal.loop-end-preserved
loop-end-preserved c =
    let kept = c.loop-end.invariant in
    let was = c.args.items.now in
    let now = c.loop-end.items in
    let end = c.loop-end.end in
    let by = c.args.by in
    let count = c.min-count.result in
    let start = end - count in
    let few : count ≤ by = omega (arith, c.min.ensures, c.min-count.ensures) in
    let piece : start + count ≡ end = omega (arith, c.min.ensures, c.min-count.ensures) in
    let split = c.split_at_mut-front.ensures in
    let is = is_put was now start count end c.args.to by piece kept.high c.requires.places kept.length kept.front
    c.split_at_mut-front.result.0.now c.split_at_mut-front.result.1.now c.put_part.new.others few split.front split.back c.put_part.ensures in
    record {
      low = omega (arith, c.min.ensures, c.min-count.ensures, kept.low, c.loop-end-test.true);
      high = omega (arith, kept.high);
      length = ap length is ∙ long_still was now start count end c.args.to by piece kept.high c.requires.places kept.length kept.front;
      front = ap (take (start + by)) is ∙ still was now start count end c.args.to by piece kept.high c.requires.places kept.length kept.front;
      moved = ap (drop (start + by)) is ∙ moves was now start count end c.args.to by piece kept.high c.requires.places kept.length kept.front kept.moved;
    }
