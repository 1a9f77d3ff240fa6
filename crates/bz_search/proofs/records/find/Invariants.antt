use Rattle.bz_search.proofs.records.find.Given as goal

-- the count is kept in the name of the blank that it is made of
abbrev pub ghosts-find_blank : goal.ghosts-find_blank
ghosts-find_blank a a' = record { name = a'.blank.name; parts = a'.blank.parts }
