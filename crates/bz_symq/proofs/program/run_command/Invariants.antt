use Rattle.bz_symq.proofs.program.run_command.Given as goal

-- the count is kept in the name of the blank that it is made of
abbrev pub ghosts-run_blank : goal.ghosts-run_blank
ghosts-run_blank g a = record { name = a.blank.name; parts = a.blank.parts }
