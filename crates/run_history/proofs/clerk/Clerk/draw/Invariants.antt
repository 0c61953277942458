use Rattle.run_history.proofs.clerk.Clerk.draw.Given as goal

-- the desk's setup, and the entry
abbrev pub ghosts-draw_as-T-Told : goal.ghosts-draw_as-T-Told
ghosts-draw_as-T-Told a = record { setup = a.table.now.shared.key }

abbrev pub ghosts-draw_as-E-ToldEntry : goal.ghosts-draw_as-E-ToldEntry
ghosts-draw_as-E-ToldEntry a = record { entry = a.entry.now }
