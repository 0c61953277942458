use Rattle.std.proofs.Common.{◌≡◌, ◌<◌, List, length, Contains, Some, refl, sym, ap, ◌∙◌, arith}
use Rattle.std.specs.List.{slice_get}
use Rattle.run_model.specs.Histories.{part_of, sent_in}
use Rattle.run_model.specs.declared.entry.Act.TheVariants as act
use Rattle.run_model.specs.declared.entry.Entry.{Entry}
use Rattle.replica_set.proofs.SentMessages.{sent_message_fits}
use Rattle.replica_network.specs.Keeping.{Keeps}
use Rattle.replica_network.specs.Networks.{NetworkState}
use Rattle.replica_network.proofs.Going.{keeps_quiet, only_memory, with_one}
use Rattle.replica_network.proofs.SentOnes.{named_in_range, named_was_sent}
use Rattle.replica_network.proofs.network.Network.take.Goals as goal
use Rattle.replica_network.proofs.network.Network.take.Goals.{In_ok-message}

-- the message has the number, so it was sent, to a replica of the setup
named : (c : In_ok-message) → slice_get (sent_in c.self.inside.entries.items) c.args.number ≡ Some c.in_ok-message.message
named c = ap (λ (es : List Entry). slice_get (sent_in es) c.args.number) (sym (c.items.ensures ∙ c.reserve.ensures.items)) ∙ c.in_ok-message.ensures

was_sent : (c : In_ok-message) → Contains (sent_in (part_of c.self.inside.entries.items c.in_ok-message.message.from)) c.in_ok-message.message
was_sent c =
    let old = c.self.inside in
    let keeps = c.self.invariant in
    named_was_sent old.set.setup old.entries.items keeps.run old.sends.items keeps.sends c.args.number c.in_ok-message.message (named c)

among : (c : In_ok-message) → c.in_ok-message.message.to < c.self.inside.set.setup.replicas
among c =
    let old = c.self.inside in
    let keeps = c.self.invariant in
    (named_in_range old.set.setup old.entries.items keeps.run old.sends.items keeps.sends c.args.number c.in_ok-message.message (named c)).to

pub next_moment-at-requires : goal.next_moment-at-requires
next_moment-at-requires c = among (goal.at.next_moment-at-requires c).In_ok-message

pub take-requires-clause-replica : goal.take-requires-clause-replica
take-requires-clause-replica c = among (goal.at.take-requires-clause-replica c).In_ok-message

pub take-requires-clause-fits : goal.take-requires-clause-fits
take-requires-clause-fits c = λ core found free.
    let old = c.self.inside in
    let keeps = c.self.invariant in
    sent_message_fits old.entries.items old.set c.in_ok-message.message core keeps.stands keeps.run (was_sent (goal.at.take-requires-clause-fits c).In_ok-message) found free

pub want_of-requires : goal.want_of-requires
want_of-requires c =
    let old = c.self.inside in
    only_memory old.set old.entries.items old.sends.items old.zeros c.self.invariant c.in_ok-message.message.to c.in-Err.fault
    (omega (arith, c.requires.few, ap (λ (s : NetworkState). length s.entries) c.self.view_is))
    (among (goal.at.want_of-requires c).In_ok-message) c.in-Err.ensures.fault

kept : (c : goal.After-push)
    → c.in_ok-message.message.to < c.self.inside.set.setup.replicas
    → Contains (sent_in (part_of c.self.inside.entries.items c.in_ok-message.message.from)) c.in_ok-message.message
    → Keeps c.take.new.self c.push.new.self.items c.self.inside.sends.items c.self.inside.zeros
kept c to from =
    let old = c.self.inside in
    let entries = old.entries.items in
    let message = c.in_ok-message.message in
    let stands = c.self.invariant.stands in
    keeps_quiet old.set entries old.sends.items old.zeros c.self.invariant c.take.new.self c.push.new.self.items message.to c.args.moment (act.Take message)
    c.take.ensures.setup to (c.in_default.ensures.goes_on entries stands) from
    (with_one entries c.reserve.new.self.items c.push.new.self.items message.to c.args.moment c.next_moment-at.result (act.Take message) (act.Take message)
    c.reserve.ensures.items (c.next_moment-at.ensures entries stands) refl c.push.ensures.items)
    refl

pub invariant_of-self-2 : goal.invariant_of-self-2
invariant_of-self-2 c =
    let here = (goal.at.invariant_of-self-2 c).In_ok-message in
    kept c (among here) (was_sent here)

pub returns-clause-run : goal.returns-clause-run
returns-clause-run c =
    let here = (goal.at.returns-clause-run c).In_ok-message in
    (kept c (among here) (was_sent here)).run
