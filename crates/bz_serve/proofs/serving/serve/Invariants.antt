use Rattle.bz_serve.proofs.serving.serve.Given as goal

-- the count is kept in the name of the blank that it is made of
abbrev pub ghosts-serve_blank : goal.ghosts-serve_blank
ghosts-serve_blank g a = record { name = a.blank.name; parts = a.blank.parts }
