use Rattle.bz_stacks.proofs.asking.fold.Given as goal

-- the count is kept in the name of the blank that it is made of
abbrev pub ghosts-fold_blank : goal.ghosts-fold_blank
ghosts-fold_blank g a = record { name = a.blank.name; parts = a.blank.parts }
