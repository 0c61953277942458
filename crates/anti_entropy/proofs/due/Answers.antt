use Rattle.std.proofs.Common.{rules, true, false}
use Rattle.anti_entropy.proofs.CountsLemmas.{behind-counts}
use Rattle.anti_entropy.proofs.due.Goals as goal

pub returns-then-known-origin-clause-behind : goal.returns-then-known-origin-clause-behind
returns-then-known-origin-clause-behind c =
    λ setup replica part are. behind-counts setup replica part c.args.to c.args.haves.now c.args.known.now are true (search rules)

pub returns-clause-behind : goal.returns-clause-behind
returns-clause-behind c =
    λ setup replica part are. behind-counts setup replica part c.args.to c.args.haves.now c.args.known.now are false (search rules)
