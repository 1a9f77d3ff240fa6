-- What a Breakpad file says, in the terms of docs/symbol_files.md among Breakpad's sources.
-- Addresses are relative to the module's base, and sizes are in bytes.
use Rattle.std.specs.Prelude.{ℕ, List, Option}

-- a line record: where its code starts, the code's size, the line of the source, and the id of its file
pub record SourceLine : Type 0 where
  pub start : ℕ
  pub size : ℕ
  pub line : ℕ
  pub file : ℕ

-- a range of code where a call was inlined: how many calls it lies inside, where it starts,
-- and its size.
-- Then the call's line, the id of the call's file, and the id of the called function's name
pub record Inlinee : Type 0 where
  pub depth : ℕ
  pub start : ℕ
  pub size : ℕ
  pub call_line : ℕ
  pub call_file : ℕ
  pub origin : ℕ

-- a function: where it starts, its size, the size of its parameters, and its name.
-- Then its lines and its inlined calls, in the order of the file
pub record Function : Type 0 where
  pub start : ℕ
  pub size : ℕ
  pub parameter_size : ℕ
  pub name : List ℕ
  pub lines : List SourceLine
  pub inlinees : List Inlinee

-- a FILE or INLINE_ORIGIN record: an id and its name
pub record Named : Type 0 where
  pub id : ℕ
  pub name : List ℕ

-- a PUBLIC record: where the symbol starts, the size of its parameters, and its name
pub record PublicSymbol : Type 0 where
  pub start : ℕ
  pub parameter_size : ℕ
  pub name : List ℕ

-- the module's name, the functions, the names of files and of inlined functions by their ids,
-- and the PUBLIC records.
-- Functions and PUBLIC records stand in the order of the file,
-- and an id has the name in its last record
pub record Table : Type 0 where
  pub «module» : Option (List ℕ)
  pub functions : List Function
  pub files : List (ℕ × List ℕ)
  pub origins : List (ℕ × List ℕ)
  pub publics : List PublicSymbol
