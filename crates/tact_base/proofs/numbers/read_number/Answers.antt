use Rattle.std.proofs.Common.{rules, arith, ◌≡◌, ◌+◌, ◌*◌, ◌^◌, ◌<◌, ◌≤◌, ◌-◌, length, drop, take, true, false, get_or, sym, refl}
use Rattle.std.specs.List.{prefix_len}
use Rattle.std.specs.Char.{is_ascii_digit}
use Rattle.std.proofs.lemmas.List.{take_rest, length-take-le}
use Rattle.std.proofs.lemmas.List.Sums.{prefix_len-drop_yes}
use Rattle.tact_base.proofs.NumbersLemmas.{digits_more, digits_end, decimal_value-take_more, PassesAt-next}
use Rattle.tact_base.proofs.numbers.read_number.Goals as goal

pub returns-in-None : goal.returns-in-None
returns-in-None c =
    let rest = drop c.args.place.now c.args.bytes.now in
    let k = c.loop-byte.byte-index in
    let whole : take (length c.args.bytes.now - c.args.place.now) rest ≡ rest = take_rest c.args.bytes.now c.args.place.now in
    let within : k < length rest = rw whole at c.loop-byte-test.true in
    let digit : is_ascii_digit (get_or rest k 0) ≡ true = sym (rw whole at c.if-not-is_ascii_digit-2.ensures.value) in
    let large : 2 ^ 64 ≤ 10 * c.loop-byte.value + (get_or rest k 0 - 48) = rw whole at c.in-None.ensures in
    (k, PassesAt-next rest k within c.loop-byte.invariant.digits c.loop-byte.value digit c.loop-byte.invariant.so_far c.loop-byte.invariant.fits large, c.loop-byte.invariant.at, refl)

pub loop-byte-preserved : goal.loop-byte-preserved
loop-byte-preserved c =
    let rest = drop c.args.place.now c.args.bytes.now in
    let k = c.loop-byte.byte-index in
    let whole : take (length c.args.bytes.now - c.args.place.now) rest ≡ rest = take_rest c.args.bytes.now c.args.place.now in
    let within : k < length rest = rw whole at c.loop-byte-test.true in
    let digit : is_ascii_digit (get_or rest k 0) ≡ true = sym (rw whole at c.if-not-is_ascii_digit-2.ensures.value) in
    let value : c.in-Some.more ≡ 10 * c.loop-byte.value + (get_or rest k 0 - 48) = rw whole at c.in-Some.ensures in
    record {
      at = omega arith;
      digits = digits_more rest k within c.loop-byte.invariant.digits digit;
      fits = search rules;
      so_far = omega (arith, decimal_value-take_more rest k within);
    }

pub returns-then-not-is_ascii_digit-2 : goal.returns-then-not-is_ascii_digit-2
returns-then-not-is_ascii_digit-2 c =
    let rest = drop c.args.place.now c.args.bytes.now in
    let k = c.loop-byte.byte-index in
    let whole : take (length c.args.bytes.now - c.args.place.now) rest ≡ rest = take_rest c.args.bytes.now c.args.place.now in
    let within : k < length rest = rw whole at c.loop-byte-test.true in
    let other : is_ascii_digit (get_or rest k 0) ≡ false = sym (rw whole at c.if-not-is_ascii_digit-2.ensures.value) in
    let all : prefix_len is_ascii_digit rest ≡ k = digits_end rest k within c.loop-byte.invariant.digits other in
    let some = prefix_len-drop_yes is_ascii_digit c.args.bytes.now c.args.place.now 0 (omega arith) (sym c.if-not-is_ascii_digit.ensures.value) in
    let long : length (take k rest) ≡ k = length-take-le k rest (omega arith) in
    rw (all, long) (omega arith, rw (← c.loop-byte.invariant.so_far) c.loop-byte.invariant.fits, c.loop-byte.invariant.so_far, c.loop-byte.invariant.at)
