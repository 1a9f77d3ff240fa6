-- What is read of the bytes is what the grammar says of them.
use Rattle.std.proofs.Common.{◌≡◌, ℕ, ◌<◌, false, List, [], ◌∷◌, length, Some, option_map, refl, sym, ap, subst, ◌∙◌, arith, length-append}
use Rattle.std.specs.List.{flat_map}
use Rattle.std.proofs.lemmas.Option.{none-some}
use Rattle.bz_base.specs.Bind.{◌>>=◌}
use Rattle.bz_base.specs.Byte.{line_feed}
use Rattle.bz_base.specs.Line.{ended, AreEnded, ended_lines}
use Rattle.bz_base.proofs.LineLemmas.{ended_found, ended_again}
use Rattle.bz_breakpad_lines.specs.Grammar.{Role, AreRoles, Accepted, records_of}
use Rattle.bz_breakpad_lines.specs.Reader.{Reading, nothing_read, lines_read, table_read, reading_in, counted_in}
use Rattle.bz_breakpad_lines.specs.Says.{table_of}
use Rattle.bz_breakpad_lines.specs.Table.{Table}
use Rattle.bz_breakpad_lines.specs.Contexts.{Record}
use Rattle.bz_breakpad_lines.specs.Contexts.Context.{Outside}
use Rattle.bz_breakpad_lines.proofs.FoldLaws.{folded, Follow, AreFolded, fold_found, fold_again}
use Rattle.bz_breakpad_lines.proofs.RoleLaws.{roles_exactly}
use Rattle.bz_breakpad_lines.proofs.TableLaws.{table_folded, folded_count}
use Rattle.bz_breakpad_lines.proofs.Turns.{bind_some, map_some}
use Rattle.bz_breakpad_lines.proofs.WalkLaws.{walked_exactly}

-- what a reading tells: its table, and how many records there are
abbrev counted : Reading → Table × ℕ
counted reading = (table_read reading, reading.count)

-- where no record but the first is a MODULE record, the fold tells the table that the records make,
-- and their number
fold_counted : (records : List Record) → Follow false records → counted (folded nothing_read records) ≡ (table_of records, length records)
fold_counted records follow =
    let count : (folded nothing_read records).count ≡ length records = omega (arith, folded_count records nothing_read) in
    ap (λ table. (table, (folded nothing_read records).count)) (table_folded records follow) ∙ ap (λ n. (table_of records, n)) count

-- bytes of lines have a line
some_lines : (b : ℕ) (bytes : List ℕ) (lines : List (List ℕ)) → AreEnded (b ∷ bytes) lines → 0 < length lines
some_lines b bytes [] are = absurd (omega (arith, ap length are.whole))
some_lines b bytes (line ∷ lines) are = omega arith

-- lines that have roles are a Breakpad file, and it says what is read of its records
lines_accepted : (bytes : List ℕ) (lines : List (List ℕ)) (roles : List Role) (reading : Reading) → 0 < length lines → AreEnded bytes lines →
    AreRoles [] lines roles → Follow false (records_of roles) → folded nothing_read (records_of roles) ≡ reading →
    Accepted bytes (table_read reading) reading.count
lines_accepted bytes lines roles reading some are roles_are follow is_fold =
    let told : counted reading ≡ (table_of (records_of roles), length (records_of roles))
    = ap counted (sym is_fold) ∙ fold_counted (records_of roles) follow in
    record {
      lines = lines;
      roles = roles;
      positive = some;
      are_lines = are;
      are_roles = roles_are;
      module_first = follow;
      says = ap (λ x. x.0) told;
      counts = ap (λ x. x.1) told;
    }

-- lines that are read are a Breakpad file
read_accepted : (bytes : List ℕ) (lines : List (List ℕ)) (reading : Reading) → 0 < length lines → AreEnded bytes lines →
    AreFolded Outside false nothing_read lines reading → Accepted bytes (table_read reading) reading.count
read_accepted bytes lines reading some are fold =
    let roles = (roles_exactly [] lines fold.records).0 ((walked_exactly Outside false lines fold.records).0 fold.walked) in
    let P : List Record → Type 0 = Follow false in
    let same : folded nothing_read (records_of roles.0) ≡ reading = ap (folded nothing_read) (sym roles.2) ∙ fold.is_fold in
    lines_accepted bytes lines roles.0 reading some are roles.1 (subst P roles.2 fold.follow) same

-- bytes that are read are a Breakpad file
pub accepted_found : (bytes : List ℕ) (table : Table) (count : ℕ) → counted_in bytes ≡ Some (table, count) → Accepted bytes table count
unfolding reading_in
accepted_found [] table count is = absurd (none-some (table, count) is)
accepted_found (b ∷ bytes) table count is =
    let reading = map_some counted (reading_in (b ∷ bytes)) (table, count) is in
    let lines = bind_some (ended_lines (b ∷ bytes)) (lines_read Outside false nothing_read) reading.0 reading.1 in
    let are = ended_found (b ∷ bytes) lines.0 lines.1 in
    let P : Table × ℕ → Type 0 = λ x. Accepted (b ∷ bytes) x.0 x.1 in
    subst P reading.2
    (read_accepted (b ∷ bytes) lines.0 reading.0 (some_lines b bytes lines.0 are) are (fold_found Outside false nothing_read lines.0 reading.0 lines.2))

-- bytes that are there are read line by line
reading_some : (bytes : List ℕ) → 0 < length bytes → reading_in bytes ≡ ended_lines bytes >>= lines_read Outside false nothing_read
unfolding reading_in
reading_some [] some = absurd (omega arith)
reading_some (b ∷ bytes) some = refl

-- a text of lines has bytes
text_some : (lines : List (List ℕ)) → 0 < length lines → 0 < length (flat_map ended lines)
text_some [] some = absurd (omega arith)
text_some (line ∷ lines) some = omega (arith, length-append (ended line) (flat_map ended lines), length-append line (line_feed ∷ []))

-- bytes that are a Breakpad file are read
pub accepted_again : (bytes : List ℕ) (table : Table) (count : ℕ) → Accepted bytes table count → counted_in bytes ≡ Some (table, count)
accepted_again bytes table count is =
    let records = records_of is.roles in
    let walks = (roles_exactly [] is.lines records).1 (is.roles, is.are_roles, refl) in
    let walked = (walked_exactly Outside false is.lines records).1 walks in
    let P : List ℕ → Type 0 = λ text. 0 < length text in
    let some = subst P (sym is.are_lines.whole) (text_some is.lines is.positive) in
    let read : reading_in bytes ≡ Some (folded nothing_read records)
    = reading_some bytes some
    ∙ ap (λ lines. lines >>= lines_read Outside false nothing_read) (ended_again bytes is.lines is.are_lines)
    ∙ fold_again Outside false nothing_read is.lines records walked is.module_first in
    ap (option_map counted) read
    ∙ ap (λ told. Some told) (fold_counted records is.module_first)
    ∙ ap (λ t. Some (t, length records)) (sym is.says)
    ∙ ap (λ n. Some (table, n)) (sym is.counts)
