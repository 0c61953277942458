use Rattle.run_check.proofs.check.Checker.judge_one.Given as goal

abbrev pub ghost-test_time : goal.ghost-test_time
ghost-test_time g a = g.history

abbrev pub ghost-judge_call : goal.ghost-judge_call
ghost-judge_call g a = g.history

abbrev pub ghost-judge_send : goal.ghost-judge_send
ghost-judge_send g a = g.history

abbrev pub ghost-judge_take : goal.ghost-judge_take
ghost-judge_take g a = g.history

abbrev pub ghost-judge_lend : goal.ghost-judge_lend
ghost-judge_lend g a = g.history

abbrev pub ghost-judge_back : goal.ghost-judge_back
ghost-judge_back g a = g.history

abbrev pub ghost-judge_restart : goal.ghost-judge_restart
ghost-judge_restart g a = g.history
