use Rattle.bz_symbolize_tests.proofs.many.answers_many.Given as goal

-- the count is kept in the name of the blank that it is made of
abbrev pub ghosts-answers_often : goal.ghosts-answers_often
ghosts-answers_often a = record { name = a.blank.name; parts = a.blank.parts }
