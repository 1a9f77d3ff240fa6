-- The table that is read of the bytes is the one that the file says.
use Rattle.std.proofs.Common.{◌≡◌, ℕ, List, Some, option_map, ap, ◌∙◌}
use Rattle.bz_breakpad.specs.Grammar.{IsFile}
use Rattle.bz_breakpad.specs.Reader.{Reading, table_read, reading_in, table_in}
use Rattle.bz_breakpad.specs.Table.{Table}
use Rattle.bz_breakpad.proofs.GrammarLaws.{accepted_found, accepted_again}
use Rattle.bz_breakpad.proofs.Turns.{map_some}

-- what a reading tells
abbrev counted : Reading → Table × ℕ
counted reading = (table_read reading, reading.count)

-- bytes with a table are a Breakpad file that says it
pub table_found : (bytes : List ℕ) (table : Table) → table_in bytes ≡ Some table → IsFile bytes table
table_found bytes table is =
    let reading = map_some table_read (reading_in bytes) table is in
    let same = ap (λ t. Some (t, reading.0.count)) reading.2 in
    (reading.0.count, accepted_found bytes table reading.0.count (ap (option_map counted) reading.1 ∙ same))

-- and the table that a Breakpad file says is read of it
pub table_again : (bytes : List ℕ) (table : Table) → IsFile bytes table → table_in bytes ≡ Some table
table_again bytes table is =
    let reading = map_some counted (reading_in bytes) (table, is.0) (accepted_again bytes table is.0 is.1) in
    ap (option_map table_read) reading.1 ∙ ap (λ told. Some told.0) reading.2
