use Rattle.std.proofs.Common.{◌≡◌, ℕ, ◌+◌, ◌-◌, ◌<◌, ◌≤◌, ◌^◌, length, decimal, arith}
use Rattle.std.proofs.lemmas.Fmt.{decimal_digit, length-decimal-le}
use Rattle.std.proofs.lemmas.List.{drop-set}
use Rattle.run_model.proofs.backward.put_digits.Goals as goal

-- a u64 has at most twenty digits
short : (value : ℕ) → value < 2 ^ 64 → length (decimal value) ≤ 20
short value fits = length-decimal-le 20 value (omega arith) (omega (arith, fits)) fits

pub returns-then-value-lt10-clause-text : goal.returns-then-value-lt10-clause-text
returns-then-value-lt10-clause-text c =
    let place = c.args.start - 1 in
    let next : place + 1 ≡ c.args.start = omega (arith, c.requires.fits) in
    rw (decimal_digit c.args.value c.if-value-lt10.true, drop-set c.args.room.now place (48 + c.args.value) (omega arith), next)

pub write_digits-requires : goal.write_digits-requires
write_digits-requires c = (omega (arith, short c.args.value c.ranges.value.fits, c.requires.fits), omega arith)

pub returns-clause-start : goal.returns-clause-start
returns-clause-start c = omega (arith, short c.args.value c.ranges.value.fits, c.write_digits.ensures.start)
