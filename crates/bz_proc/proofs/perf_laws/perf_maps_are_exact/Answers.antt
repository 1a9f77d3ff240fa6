use Rattle.bz_proc.proofs.PerfLineLemmas.{line_again, line_found}
use Rattle.bz_proc.proofs.PerfMapLemmas.{map_exact, map_refused, map_taken}
use Rattle.bz_proc.proofs.PerfNumberLemmas.{number_again, number_found}
use Rattle.bz_proc.proofs.perf_laws.perf_maps_are_exact.Goals as goal

pub returns-clause-number : goal.returns-clause-number
returns-clause-number c = λ text value. (number_found text value, number_again text value)

pub returns-clause-line : goal.returns-clause-line
returns-clause-line c = λ line f. (line_found line f, line_again line f)

pub returns-clause-map : goal.returns-clause-map
returns-clause-map c = map_exact

pub returns-clause-taken : goal.returns-clause-taken
returns-clause-taken c = map_taken

pub returns-clause-refused : goal.returns-clause-refused
returns-clause-refused c = map_refused
