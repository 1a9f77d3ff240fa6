-- The keys by which functions are put in order: a key has a function's start and size,
-- and the function's index.
use Rattle.std.specs.Prelude.{◌≡◌, ◌+◌, ℕ, List, [], ◌∷◌, length}
use Rattle.bz_base.specs.Nearest.{IsTable}
use Rattle.bz_breakpad_table.specs.declared.types.FunctionKey.{FunctionKey}
use Rattle.bz_breakpad_table.specs.declared.types.KeptFunction.{KeptFunction}

-- the keys of functions in their order, of which the first has this index
abbrev pub keys_from : ℕ → List KeptFunction → List FunctionKey
keys_from index [] = []
keys_from index (f ∷ functions) =
    record { start = f.start; size = f.size; index = index } ∷ keys_from (index + 1) functions

-- the keys are those of the functions, in the order of start and size
pub record AreSortedKeys (functions : List KeptFunction) (keys : List FunctionKey) : Type 0 where
  pub table : IsTable (λ k. k.start) (λ k. k.size) (keys_from 0 functions) keys
  pub count : length keys ≡ length functions
