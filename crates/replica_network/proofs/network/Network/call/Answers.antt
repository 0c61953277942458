use Rattle.std.proofs.Common.{◌≡◌, length, refl, ap, ap₂, ◌∙◌, subst, arith}
use Rattle.run_model.specs.Histories.{calls_in, part_of}
use Rattle.run_model.specs.declared.call.Reply.{Reply}
use Rattle.run_model.specs.declared.call.Request.{Request}
use Rattle.run_model.specs.declared.entry.Act.{Act}
use Rattle.run_model.specs.declared.entry.Act.TheVariants as act
use Rattle.replica_set.specs.Sets.{with_act}
use Rattle.replica_network.specs.Keeping.{Keeps}
use Rattle.replica_network.specs.Networks.{NetworkState, after_call}
use Rattle.replica_network.proofs.Going.{keeps_quiet, only_memory, seen_as, state_of, with_one}
use Rattle.replica_network.proofs.network.Network.call.Goals as goal

pub want_of-requires : goal.want_of-requires
want_of-requires c =
    let old = c.self.inside in
    only_memory old.set old.entries.items old.sends.items old.zeros c.self.invariant c.args.replica c.in-Err.fault
    (omega (arith, c.requires.few, ap (λ (s : NetworkState). length s.entries) c.self.view_is))
    (omega (arith, c.requires.replica, ap (λ (s : NetworkState). s.setup.replicas) c.self.view_is))
    c.in-Err.ensures.fault

-- the act that is due there
abbrev done : goal.After-push → Act
done c = act.Call c.args.client (calls_in (part_of c.self.inside.entries.items c.args.replica) c.args.client) c.args.request.now c.in-Ok.reply

entries_are : (c : goal.After-push) → c.push.new.self.items ≡ with_act c.self.inside.entries.items c.args.replica c.args.moment (done c)
entries_are c =
    let entries = c.self.inside.entries.items in
    let client = c.args.client in
    let stands = c.self.invariant.stands in
    let here = stands.parts c.args.replica c.at.result.now.core c.at.ensures in
    let number : c.calls-number.result ≡ calls_in (part_of entries c.args.replica) client = c.calls-number.ensures ∙ here.counts.calls client c.requires.client in
    with_one entries c.reserve.new.self.items c.push.new.self.items c.args.replica c.args.moment c.next_moment-at.result
    (act.Call client c.calls-number.result c.copied_request.result c.copied_reply.result) (done c)
    c.reserve.ensures.items (c.next_moment-at.ensures entries stands)
    (ap₂ (λ (q : Request) (r : Reply). act.Call client c.calls-number.result q r) c.copied_request.ensures c.copied_reply.ensures
    ∙ ap (λ n. act.Call client n c.args.request.now c.in-Ok.reply) number)
    c.push.ensures.items

kept : (c : goal.After-push) → Keeps c.call.new.self c.push.new.self.items c.self.inside.sends.items c.self.inside.zeros
kept c =
    let old = c.self.inside in
    keeps_quiet old.set old.entries.items old.sends.items old.zeros c.self.invariant c.call.new.self c.push.new.self.items c.args.replica c.args.moment (done c)
    c.call.ensures.setup (omega (arith, c.requires.replica, ap (λ (s : NetworkState). s.setup.replicas) c.self.view_is))
    (c.in-Ok.ensures.goes_on old.entries.items c.self.invariant.stands) tt (entries_are c) refl

pub invariant_of-self-2 : goal.invariant_of-self-2
invariant_of-self-2 c = kept c

pub returns-clause-run : goal.returns-clause-run
returns-clause-run c = (kept c).run

pub returns-clause-made : goal.returns-clause-made
returns-clause-made c =
    let old = c.self.inside in
    let entries = old.entries.items in
    let calls_in_part = calls_in (part_of entries c.args.replica) c.args.client in
    subst (λ (s : NetworkState). state_of c.call.new.self c.push.new.self.items ≡ after_call s c.args.moment c.args.replica c.args.client c.args.request.now) c.self.view_is
    (seen_as old.set c.call.new.self (with_act entries c.args.replica c.args.moment (done c)) c.push.new.self.items c.call.ensures.setup (entries_are c)
    ∙ ap (λ (g : Reply). state_of old.set (with_act entries c.args.replica c.args.moment (act.Call c.args.client calls_in_part c.args.request.now g)))
    (c.in-Ok.ensures.due entries c.self.invariant.stands))
