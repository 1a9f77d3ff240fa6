use Rattle.bz_breakpad_tests.proofs.holding.holds.Given as goal

abbrev pub ghosts-shows_all : goal.ghosts-shows_all
ghosts-shows_all a = record { name = a.blank.name; parts = a.blank.parts }
