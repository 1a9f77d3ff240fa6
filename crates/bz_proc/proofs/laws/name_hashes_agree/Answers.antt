use Rattle.std.proofs.Common.{rules}
use Rattle.std.specs.String.{string_bytes}
use Rattle.std.proofs.lemmas.Bool.{false≢true}
use Rattle.bz_proc.specs.declared.maps.PathName.TheVariants as names
use Rattle.bz_proc.proofs.NameOrderLemmas.{texts_fed, file_fed, component_fed}
use Rattle.bz_proc.proofs.laws.name_hashes_agree.Goals as goal

pub returns-clause-paths : goal.returns-clause-paths
returns-clause-paths c a b = search (texts_fed (string_bytes a.maps_file) (string_bytes a.symbolic_path) (string_bytes b.maps_file) (string_bytes b.symbolic_path), rules)

pub returns-clause-names : goal.returns-clause-names
returns-clause-names c (names.Path a) (names.Path b) = search (file_fed (string_bytes a.maps_file) (string_bytes a.symbolic_path) (string_bytes b.maps_file) (string_bytes b.symbolic_path), rules)
returns-clause-names c (names.Path a) (names.Component b) = (λ same. absurd (false≢true same), λ same. cc same)
returns-clause-names c (names.Component a) (names.Path b) = (λ same. absurd (false≢true same), λ same. cc same)
returns-clause-names c (names.Component a) (names.Component b) = search (component_fed (string_bytes a) (string_bytes b), rules)
