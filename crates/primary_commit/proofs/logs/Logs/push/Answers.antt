use Rattle.primary_commit.proofs.LogLemmas.{items_more}
use Rattle.primary_commit.proofs.logs.Logs.push.Goals as goal

pub returns-clause-logs : goal.returns-clause-logs
returns-clause-logs c =
    items_more c.self.inside.logs.items c.args.i c.index_mut-log.result.now c.push.new.self c.index_mut-log.ensures.value c.args.self.now c.args.item
    c.self.inside.room c.self.view_is c.requires.origin c.push.ensures.items
