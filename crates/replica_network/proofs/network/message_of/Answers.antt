use Rattle.std.proofs.Common.{◌≡◌, get_or, Some, sym, ap, ◌∙◌, rules}
use Rattle.run_model.specs.declared.entry.Act.TheVariants as act
use Rattle.replica_network.proofs.SentOnes.{sender_at, sent_one}
use Rattle.replica_network.proofs.network.message_of.Goals as goal

pub bounds-entries-place : goal.bounds-entries-place
bounds-entries-place c =
    let it = sent_one c.args.entries.now c.args.sends.now c.args.number c.requires.sends c.requires.number in
    (sender_at c.args.entries.now (get_or c.args.sends.now c.args.number 0) it.0 it.1.there).within

pub offset_bounds-entries-place : goal.offset_bounds-entries-place
offset_bounds-entries-place c =
    let it = sent_one c.args.entries.now c.args.sends.now c.args.number c.requires.sends c.requires.number in
    let within = (sender_at c.args.entries.now (get_or c.args.sends.now c.args.number 0) it.0 it.1.there).within in
    search rules

pub unreachable-requires : goal.unreachable-requires
unreachable-requires c =
    let it = sent_one c.args.entries.now c.args.sends.now c.args.number c.requires.sends c.requires.number in
    let sender = sender_at c.args.entries.now (get_or c.args.sends.now c.args.number 0) it.0 it.1.there in
    c.in_default.not-Send it.0 (sender.sends c.index-entries-place.result)

pub returns : goal.returns
returns c =
    let it = sent_one c.args.entries.now c.args.sends.now c.args.number c.requires.sends c.requires.number in
    let sender = sender_at c.args.entries.now (get_or c.args.sends.now c.args.number 0) it.0 it.1.there in
    let held : act.Send c.in-Send.message ≡ act.Send it.0 = sym c.in-Send.is ∙ sender.sends c.index-entries-place.result in
    let same : it.0 ≡ c.in_ok-clone-in-Send.field-0 =
    let one : c.in-Send.message ≡ it.0 = cc in
    sym one ∙ sym c.in_ok-clone-in-Send.ensures.cases in
    it.1.named ∙ ap Some same
