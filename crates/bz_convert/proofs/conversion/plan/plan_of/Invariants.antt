use Rattle.bz_convert.proofs.conversion.plan.plan_of.Given as goal

-- the count is kept in the name of the blank that it is made of
abbrev pub ghosts-plan_blank : goal.ghosts-plan_blank
ghosts-plan_blank a = record { name = a.blank.name; parts = a.blank.parts }
