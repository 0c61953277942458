use Rattle.std.proofs.Common.{◌≡◌, ◌-◌, length, arith, sym}
use Rattle.tact_base.specs.Admission.{first_over_part}
use Rattle.access_gate.proofs.AdmissionLemmas.{first_over_part-is, first_over_part-within, first_over_part-passes}
use Rattle.access_gate.proofs.gate.first_over_part.Goals as goal

pub returns-then-out-parts-clause-holder : goal.returns-then-out-parts-clause-holder
returns-then-out-parts-clause-holder c =
    let parts : c.from-parts.result ≡ length c.args.outs.now - 1 = omega arith in
    sym (first_over_part-is c.args.outs.now c.args.num c.loop-holder.holder c.loop-holder-test.true
    (rw parts at c.loop-holder.invariant) (rw parts at c.if-out-parts.true))

pub unreachable-requires : goal.unreachable-requires
unreachable-requires c =
    let parts : c.from-parts.result ≡ length c.args.outs.now - 1 = omega arith in
    let within = first_over_part-within c.args.outs.now c.args.num (omega arith) c.requires.outs.1 c.requires.passed in
    let passed = first_over_part-passes c.args.outs.now c.args.num within in
    let none = rw parts at (c.loop-holder.invariant (first_over_part c.args.outs.now c.args.num) (omega arith)) in
    omega arith
