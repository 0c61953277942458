use Rattle.std.proofs.Common.{ℕ, ◌∷◌, [], ◌++◌, List, length, refl, ap, ap₂, ◌∙◌, arith}
use Rattle.std.proofs.lemmas.List.{length-map}
use Rattle.std.proofs.lemmas.List.FromFn.{length-range_with_len}
use Rattle.tact_base.specs.Setup.{replicas_of}
use Rattle.run_model.specs.declared.entry.Act.TheVariants as act
use Rattle.replica_network.specs.Keeping.{Keeps}
use Rattle.replica_network.specs.Networks.{NetworkState}
use Rattle.replica_network.proofs.Going.{keeps_sending, only_memory, with_one}
use Rattle.replica_network.proofs.network.Network.send.Goals as goal

pub send-requires-clause-firsts : goal.send-requires-clause-firsts
send-requires-clause-firsts c =
    let setup = c.self.inside.set.setup in
    ap length c.self.invariant.zeros ∙ length-map (replicas_of setup) (λ (origin : ℕ). 0) ∙ length-range_with_len 0 setup.replicas

pub want_of-requires : goal.want_of-requires
want_of-requires c =
    let old = c.self.inside in
    only_memory old.set old.entries.items old.sends.items old.zeros c.self.invariant c.args.from c.in-Err.fault
    (omega (arith, c.requires.few, ap (λ (s : NetworkState). length s.entries) c.self.view_is))
    (omega (arith, c.requires.from, ap (λ (s : NetworkState). s.setup.replicas) c.self.view_is))
    c.in-Err.ensures.fault

kept : (c : goal.After-push-2) → Keeps c.send.new.self c.push-2.new.self.items c.push.new.self.items c.self.inside.zeros
kept c =
    let old = c.self.inside in
    let entries = old.entries.items in
    let message = c.in-Ok.message in
    let stands = c.self.invariant.stands in
    keeps_sending old.set entries old.sends.items old.zeros c.self.invariant c.send.new.self c.push-2.new.self.items c.args.from c.args.moment (act.Send message)
    c.send.ensures.setup (omega (arith, c.requires.from, ap (λ (s : NetworkState). s.setup.replicas) c.self.view_is))
    (c.in-Ok.ensures.goes_on entries stands) tt
    (with_one entries c.reserve.new.self.items c.push-2.new.self.items c.args.from c.args.moment c.next_moment-at.result (act.Send message) (act.Send message)
    c.reserve.ensures.items (c.next_moment-at.ensures entries stands) refl c.push-2.ensures.items)
    message c.push.new.self.items refl
    (c.push.ensures.items ∙ ap₂ (λ (ss : List ℕ) (n : ℕ). ss ++ n ∷ []) c.reserve-2.ensures.items (ap length (c.items.ensures ∙ c.reserve.ensures.items)))

pub invariant_of-self-2 : goal.invariant_of-self-2
invariant_of-self-2 c = kept c

pub returns-clause-run : goal.returns-clause-run
returns-clause-run c = (kept c).run
