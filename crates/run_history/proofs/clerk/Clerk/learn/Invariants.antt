use Rattle.run_history.proofs.clerk.Clerk.learn.Given as goal

-- the desk's setup
abbrev pub ghosts-learn_as : goal.ghosts-learn_as
ghosts-learn_as a = record { setup = a.table.now.shared.key }
