use Rattle.log_streams.proofs.one_log.made_of_file.Given as goal

-- The file that is stood for is the one at the path.
abbrev pub ghosts-made_at : goal.ghosts-made_at
ghosts-made_at g a = record { Gives = g.F.Files.Gives a.at.files.now a.at.path.now }
