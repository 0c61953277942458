use Rattle.run_check.proofs.judging.judge_take.Given as goal

abbrev pub ghost-take_sent : goal.ghost-take_sent
ghost-take_sent g a = g.history
