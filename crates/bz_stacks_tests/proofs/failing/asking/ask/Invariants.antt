use Rattle.bz_stacks_tests.proofs.failing.asking.ask.Given as goal

-- the count is kept in the name of the blank that it is made of
abbrev pub ghosts-counted : goal.ghosts-counted
ghosts-counted a = record { name = a.blank.name; parts = a.blank.parts }

abbrev pub ghosts-looked_up : goal.ghosts-looked_up
ghosts-looked_up a = record { name = a.blank.name; parts = a.blank.parts }
