use Rattle.run_history.proofs.note.Note.meet.Given as goal

-- the desk's setup
abbrev pub ghosts-meet_as : goal.ghosts-meet_as
ghosts-meet_as a = record { setup = a.table.now.shared.key }
