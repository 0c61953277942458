use Rattle.std.proofs.Common.{ℕ, ◌<◌, ◌≤◌, ◌^◌, length, decimal, ap, arith}
use Rattle.std.proofs.lemmas.Fmt.{length-decimal-le}
use Rattle.tact_base.specs.Roomy.{Roomy}
use Rattle.tact_base.proofs.short_text.ShortText.put_number.Goals as goal

-- a u64 has at most twenty digits
short : (value : ℕ) → value < 2 ^ 64 → length (decimal value) ≤ 20
short value fits = length-decimal-le 20 value (omega arith) (omega (arith, fits)) fits

pub write_digits-self-inside-requires : goal.write_digits-self-inside-requires
write_digits-self-inside-requires c =
    let room = ap (λ (s : Roomy ℕ). s.room) c.self.view_is in
    (omega (arith, short c.args.value c.ranges.value.fits, c.requires, room), omega (arith, c.self.invariant.0, c.self.invariant.1))

pub returns-clause-room : goal.returns-clause-room
returns-clause-room c =
    let room = ap (λ (s : Roomy ℕ). s.room) c.self.view_is in
    omega (arith, short c.args.value c.ranges.value.fits, c.write_digits-self-inside.ensures.start, room)
