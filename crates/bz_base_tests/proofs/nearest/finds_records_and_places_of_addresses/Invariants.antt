use Rattle.bz_base_tests.proofs.nearest.finds_records_and_places_of_addresses.Given as goal

abbrev pub ghosts-finds : goal.ghosts-finds
ghosts-finds g a = record { name = a.blank.name; parts = a.blank.parts }
