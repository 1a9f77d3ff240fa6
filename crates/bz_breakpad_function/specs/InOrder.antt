-- Functions and their records, in the orders in which a program walks them.
-- What is alike in an order stands as in the file.
use Rattle.std.specs.Prelude.{◌≡◌, ℕ, List}
use Rattle.bz_base.specs.Sorting.{sorted}
use Rattle.bz_breakpad_function.specs.Indexed.{functions_in}
use Rattle.bz_breakpad_lines.specs.Table.{Function, Inlinee, SourceLine}
use Rattle.bz_breakpad_table.specs.LineRun.{HasLastFeed, IsLineRun, lines_in}

-- functions by start and size
abbrev pub ordered_functions : List Function → List Function
ordered_functions functions = sorted (λ f. f.start) (λ f. f.size) functions

-- those of a file
abbrev pub functions_in_order : List ℕ → List Function
functions_in_order bytes = ordered_functions (functions_in bytes)

-- the line records of a function, by start and size
abbrev pub lines_in_order : Function → List SourceLine
lines_in_order f = sorted (λ l. l.start) (λ l. l.size) f.lines

-- the inlined calls of a function, by depth and start
abbrev pub calls_in_order : Function → List Inlinee
calls_in_order f = sorted (λ i. i.depth) (λ i. i.start) f.inlinees

-- the lines of the text are these line records, each of which starts after the one before it.
-- The last one has its line feed
pub record IsTextOfLines (text : List ℕ) (lines : List SourceLine) : Type 0 where
  pub run : IsLineRun text
  pub ended : HasLastFeed text
  pub says : lines_in text ≡ lines
