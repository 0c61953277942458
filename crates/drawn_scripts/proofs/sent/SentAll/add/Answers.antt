use Rattle.std.proofs.Common.{length, ap, arith}
use Rattle.drawn_scripts.proofs.SentLemmas.{sent_from-le}
use Rattle.drawn_scripts.proofs.sent.SentAll.add.Goals as goal

pub overflow_add-self : goal.overflow_add-self
overflow_add-self c =
    omega (arith, c.requires.few, ap length c.self.view_is, c.self.invariant.each c.args.from c.requires.from, sent_from-le c.self.inside.messages c.args.from)
