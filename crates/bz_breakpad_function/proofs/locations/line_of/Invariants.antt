use Rattle.bz_breakpad_function.proofs.locations.line_of.Given as goal

-- the count is kept in the name of the blank that it is made of
abbrev pub ghosts-line_covering : goal.ghosts-line_covering
ghosts-line_covering a = record { name = a.blank.name; parts = a.blank.parts }
