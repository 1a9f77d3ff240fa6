-- The canonical form of a table, and its text.
-- Orders that answers don't ask for are the same in it: those of PUBLIC records and functions,
-- and of a function's lines and inlined calls. What is alike in an order stands as in the table.
use Rattle.std.specs.Prelude.{ℕ, List, map}
use Rattle.bz_base.specs.Sorting.{sorted}
use Rattle.bz_breakpad.specs.InOrder.{calls_in_order, lines_in_order, ordered_functions}
use Rattle.bz_breakpad_lines.specs.Printed.{printed}
use Rattle.bz_breakpad_lines.specs.Table.{Function, Table}

-- the function with its lines by start and size, and its inlined calls by depth and start
abbrev pub canon_function : Function → Function
canon_function f = record {
  start = f.start;
  size = f.size;
  parameter_size = f.parameter_size;
  name = f.name;
  lines = lines_in_order f;
  inlinees = calls_in_order f;
}

-- the table with its functions by start and size, and its PUBLIC records by address
abbrev pub canon : Table → Table
canon t = record {
  «module» = t.«module»;
  functions = ordered_functions (map canon_function t.functions);
  files = t.files;
  origins = t.origins;
  publics = sorted (λ p. p.start) (λ p. 0) t.publics;
}

-- the plainest text of that form
abbrev pub canonical_text : Table → List ℕ
canonical_text t = printed (canon t)
