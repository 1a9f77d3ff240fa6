use Rattle.bz_process_tests.proofs.symbolizer.step_holds.Given as goal

-- the count is kept in the name of the blank that it is made of
abbrev pub ghosts-counted_tells : goal.ghosts-counted_tells
ghosts-counted_tells g a = record { name = a.blank.name; parts = a.blank.parts }

abbrev pub ghosts-refuses_to_look_up : goal.ghosts-refuses_to_look_up
ghosts-refuses_to_look_up g a = record { name = a.blank.name; parts = a.blank.parts }
