use Rattle.run_history.proofs.note.Note.look.Given as goal

-- the desk's setup
abbrev pub ghosts-look_as : goal.ghosts-look_as
ghosts-look_as a = record { setup = a.table.now.shared.key }
