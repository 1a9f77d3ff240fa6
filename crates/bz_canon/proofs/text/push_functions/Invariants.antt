use Rattle.bz_canon.proofs.text.push_functions.Given as goal

-- the count is kept in the name of the blank that it is made of
abbrev pub ghosts-push_functions_blank : goal.ghosts-push_functions_blank
ghosts-push_functions_blank a = record { name = a.blank.name; parts = a.blank.parts }
