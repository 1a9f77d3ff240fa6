use Rattle.bz_symbolize_tests.proofs.asking.answers_asked.Given as goal

-- the count is kept in the name of the blank that it is made of
abbrev pub ghosts-answers_counted : goal.ghosts-answers_counted
ghosts-answers_counted a = record { name = a.blank.name; parts = a.blank.parts }

abbrev pub ghosts-looks_up : goal.ghosts-looks_up
ghosts-looks_up a = record { name = a.blank.name; parts = a.blank.parts }
