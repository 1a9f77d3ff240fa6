-- What the generated text says: the table of its functions.
use Rattle.std.specs.Prelude.{ℕ, ◌+◌, zero, suc, List, [], ◌∷◌, ◌++◌, codes, decimal, Some}
use Rattle.bz_breakpad_lines.specs.Table.{Function, Table}
use Rattle.bz_canon.specs.Generated.{start_of}

-- function i has 48 bytes; a call is inlined in its first 8 bytes, and its lines have 16 and 32 bytes
abbrev pub generated_function : ℕ → Function
generated_function i = record {
  start = start_of i;
  size = 48;
  parameter_size = 0;
  name = codes "f" ++ decimal i;
  lines = record { start = start_of i; size = 16; line = i + 1; file = 0 } ∷ record { start = start_of i + 16; size = 32; line = i + 2; file = 0 } ∷ [];
  inlinees = record { depth = 0; start = start_of i; size = 8; call_line = 7; call_file = 0; origin = 0 } ∷ [];
}

-- so many functions, the last one first
abbrev pub generated_functions : ℕ → List Function
generated_functions zero = []
generated_functions (suc i) = generated_function i ∷ generated_functions i

abbrev pub generated_table : ℕ → Table
generated_table functions = record {
  «module» = Some (codes "gen");
  functions = generated_functions functions;
  files = (0, codes "gen.c") ∷ [];
  origins = (0, codes "g") ∷ [];
  publics = [];
}
