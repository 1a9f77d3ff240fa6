use Rattle.bz_proc.proofs.LineLemmas.{line_found, line_again}
use Rattle.bz_proc.proofs.MapsLemmas.{maps_found, maps_again}
use Rattle.bz_proc.proofs.laws.mappings_are_exact.Goals as goal

pub returns-clause-line : goal.returns-clause-line
returns-clause-line c line told = (line_found line told, line_again line told)

pub returns-clause-maps : goal.returns-clause-maps
returns-clause-maps c pid text mappings = (maps_found pid text mappings, maps_again pid text mappings)
