use Rattle.bz_lookups.proofs.held.Held.single.Given as goal

-- the count is kept in the name of the blank that it is made of
abbrev pub ghosts-answer_blank : goal.ghosts-answer_blank
ghosts-answer_blank a = record { name = a.blank.name; parts = a.blank.parts }
