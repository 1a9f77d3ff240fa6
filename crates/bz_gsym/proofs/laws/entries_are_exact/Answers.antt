use Rattle.bz_gsym.proofs.EntryLaws.{entries_are, are_entries}
use Rattle.bz_gsym.proofs.laws.entries_are_exact.Goals as goal

pub returns : goal.returns
returns c bytes entries = (are_entries entries bytes, entries_are entries bytes)
