-- The records that were found for the addresses of a batch.
use Rattle.std.specs.Prelude.{◌≡◌, ℕ, List, length, Some}
use Rattle.bz_breakpad.specs.Found.{AreRecordsFor, IsRecordFor}
use Rattle.bz_breakpad.specs.Reader.{table_in}
use Rattle.bz_breakpad.specs.Table.{Table}
use Rattle.bz_breakpad.specs.declared.found.FoundRecord.{FoundRecord}
use Rattle.bz_lookups.specs.Batch.{Version, BreakpadVersion, GsymVersion, ElfVersion}

-- there is one for each address, which is the record of the file's table that answers for it
pub record AreFound (bytes addrs : List ℕ) (records : List FoundRecord) : Type 0 where
  pub count : length records ≡ length addrs
  pub answer : (table : Table) → table_in bytes ≡ Some table → AreRecordsFor table addrs records

-- for addresses that a version answers: of formats other than Breakpad none are found beforehand
abbrev pub AreFoundIn : Version → List ℕ → List FoundRecord → Type 0
AreFoundIn (BreakpadVersion bytes) addrs records = AreFound bytes addrs records
AreFoundIn (GsymVersion bytes) addrs records = Unit {0}
AreFoundIn (ElfVersion path bytes kind) addrs records = Unit {0}

-- for an address alone
abbrev pub IsFoundIn : Version → ℕ → FoundRecord → Type 0
IsFoundIn (BreakpadVersion bytes) addr given = (table : Table) → table_in bytes ≡ Some table → IsRecordFor table addr given
IsFoundIn (GsymVersion bytes) addr given = Unit {0}
IsFoundIn (ElfVersion path bytes kind) addr given = Unit {0}
