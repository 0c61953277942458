use Rattle.run_check.proofs.check.Checker.judge.Given as goal

abbrev pub ghost-judge_one : goal.ghost-judge_one
ghost-judge_one g a = g.history
