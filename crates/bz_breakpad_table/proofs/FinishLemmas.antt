-- A file that was read to its end: what is kept stands for its table.
use Rattle.std.proofs.Common.{◌≡◌, ℕ, List, ◌++◌, Some, None, option_map, refl, sym, ap, ◌∙◌}
use Rattle.bz_breakpad_lines.specs.Grammar.{Accepted}
use Rattle.bz_breakpad_table.specs.Kept.{FunctionsSoFar, IsNestedTable, TableFits, kept_table}
use Rattle.bz_breakpad_table.specs.Publics.{IsPublicTable}
use Rattle.bz_breakpad_table.specs.declared.publics.PublicTable.{PublicTable}
use Rattle.bz_breakpad_lines.specs.Reader.{Reading, counted_in, listed, table_read}
use Rattle.bz_breakpad_table.specs.Sorted.{IsKept, StandsFor, starts_of}
use Rattle.bz_breakpad_lines.specs.Table.{Table}
use Rattle.bz_breakpad_table.specs.Walked.{HasRead, IsFinished, IsFinishedAs, IsWalked}
use Rattle.bz_breakpad_table.specs.declared.functions.FunctionsReading.{FunctionsReading}
use Rattle.bz_breakpad_table.specs.declared.walk.Walk.{Walk}
use Rattle.bz_breakpad_table.specs.declared.types.KeptTable.{KeptTable}
use Rattle.bz_breakpad_lines.proofs.GrammarLaws.{accepted_found}

-- the records of a walk, once the last function is at its end
pub finished_as : (bytes : List ℕ) (walk : Walk) (ended : FunctionsReading) (reading : Reading) →
    (FunctionsSoFar bytes walk.kept.functions reading.closed reading.current → FunctionsSoFar bytes ended (reading.closed ++ listed reading.current) None) →
    IsWalked bytes walk reading →
    IsFinishedAs bytes (record {
      «module» = walk.kept.«module»;
      code = ended.table;
      files = walk.kept.files;
      origins = walk.kept.origins;
      publics = walk.kept.publics;
    }) reading
finished_as bytes walk ended reading closes walked =
    let kept = walked.so_far in
    let functions = closes kept.functions in
    record {
      is = record { functions = functions.closed_are; same = rw (kept.module_is.is, kept.files.are, kept.origins.are, kept.publics.are) refl };
      fits = record {
        module_fits = kept.module_is.fits;
        functions = functions.closed_fit;
        files = kept.files.fit;
        origins = kept.origins.fit;
        publics = kept.publics.fit;
      };
    }

-- what was read and sorted is kept of the bytes
pub kept_of : (bytes : List ℕ) (walk : Walk) (table sorted : KeptTable) (starts : List ℕ) (publics : PublicTable) → HasRead bytes walk → IsFinished bytes walk table →
    ((t : Table) → IsNestedTable t (kept_table bytes table) → TableFits bytes table → StandsFor bytes t sorted) →
    starts ≡ starts_of sorted.code → IsPublicTable sorted.publics.items publics → IsKept bytes sorted starts publics
kept_of bytes walk table sorted starts publics read finished sorts starts_are publics_are =
    let done = finished read.reading read.walked in
    record {
      table = table_read read.reading;
      read = ap (option_map table_read) read.is;
      stands = sorts (table_read read.reading) done.is done.fits;
      starts_are = starts_are;
      publics_are = publics_are;
    }

-- and the bytes are accepted, with the count of the walk
pub accepted_of : (bytes : List ℕ) (walk : Walk) → HasRead bytes walk →
    (table : Table) × (counted_in bytes ≡ Some (table, walk.count)) × Accepted bytes table walk.count
accepted_of bytes walk read =
    let table = table_read read.reading in
    let counted : counted_in bytes ≡ Some (table, walk.count)
    = ap (option_map (λ reading. (table_read reading, reading.count))) read.is ∙ ap (λ n. Some (table, n)) (sym read.walked.count_is) in
    (table, counted, accepted_found bytes table walk.count counted)
