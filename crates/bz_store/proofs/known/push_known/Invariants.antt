use Rattle.bz_store.proofs.known.push_known.Given as goal

-- the count is kept in the name of the blank that it is made of
abbrev pub ghosts-push_batch_blank : goal.ghosts-push_batch_blank
ghosts-push_batch_blank a = record { name = a.blank.name; parts = a.blank.parts }
