-- What was found at a path, as plain data.
use Rattle.bz_store.specs.Visits.{Found, Absent, Denied, Holds}
use Rattle.bz_store.specs.declared.found.FoundFile.{FoundFile}
use Rattle.bz_store.specs.declared.found.FoundFile.TheVariants as found

abbrev pub found_of : FoundFile → Found
found_of found.Absent = Absent
found_of found.Denied = Denied
found_of (found.Holds bytes) = Holds bytes.items
