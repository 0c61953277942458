use Rattle.std.proofs.Common.{refl, rules}
use Rattle.run_check.proofs.Going.{messages_stay, refused}
use Rattle.run_check.proofs.check.Checker.judge_one.Goals as goal

pub returns-in-Err-clause-err : goal.returns-in-Err-clause-err
returns-in-Err-clause-err g c = search (rules, c.in-Err.ensures.err c.args.short.now.act)

pub returns-in-Call-clause-sent : goal.returns-in-Call-clause-sent
returns-in-Call-clause-sent g c =
    messages_stay c.args.self.now.set.setup g.history c.args.short.now _ c.in-Call.is c.judge_call.result
    c.args.self.now.set.setup.replicas c.args.self.now.sent c.judge_call.new.set refl c.requires.1.0 c.judge_call.ensures.ok

pub returns-in-Send-clause-err : goal.returns-in-Send-clause-err
returns-in-Send-clause-err g c =
    refused c.args.self.now.set.setup g.history c.args.short.now _ c.in-Send.is c.judge_send.result c.judge_send.ensures.err

pub returns-in-Take-clause-sent : goal.returns-in-Take-clause-sent
returns-in-Take-clause-sent g c =
    messages_stay c.args.self.now.set.setup g.history c.args.short.now _ c.in-Take.is c.judge_take.result
    c.args.self.now.set.setup.replicas c.args.self.now.sent c.judge_take.new.set refl c.requires.1.0 c.judge_take.ensures.ok

pub returns-in-Lend-clause-sent : goal.returns-in-Lend-clause-sent
returns-in-Lend-clause-sent g c =
    messages_stay c.args.self.now.set.setup g.history c.args.short.now _ c.in-Lend.is c.judge_lend.result
    c.args.self.now.set.setup.replicas c.args.self.now.sent c.judge_lend.new.set refl c.requires.1.0 c.judge_lend.ensures.ok

pub returns-in-Back-clause-sent : goal.returns-in-Back-clause-sent
returns-in-Back-clause-sent g c =
    messages_stay c.args.self.now.set.setup g.history c.args.short.now _ c.in-Back.is c.judge_back.result
    c.args.self.now.set.setup.replicas c.args.self.now.sent c.judge_back.new.set refl c.requires.1.0 c.judge_back.ensures.ok

pub returns-in-Back-clause-err : goal.returns-in-Back-clause-err
returns-in-Back-clause-err g c =
    refused c.args.self.now.set.setup g.history c.args.short.now _ c.in-Back.is c.judge_back.result c.judge_back.ensures.err

pub returns-in-Restart-clause-sent : goal.returns-in-Restart-clause-sent
returns-in-Restart-clause-sent g c =
    messages_stay c.args.self.now.set.setup g.history c.args.short.now _ c.in-Restart.is c.judge_restart.result
    c.args.self.now.set.setup.replicas c.args.self.now.sent c.judge_restart.new.set refl c.requires.1.0 c.judge_restart.ensures.ok
