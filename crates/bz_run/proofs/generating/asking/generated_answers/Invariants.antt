use Rattle.bz_run.proofs.generating.asking.generated_answers.Given as goal

-- the count is kept in the name of the blank that it is made of
abbrev pub ghosts-answers_of : goal.ghosts-answers_of
ghosts-answers_of a = record { name = a.blank.name; parts = a.blank.parts }
