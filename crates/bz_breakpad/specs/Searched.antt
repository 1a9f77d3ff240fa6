-- What is searched for addresses, and what a search among functions leaves.
use Rattle.std.specs.Prelude.{◌≡◌, ◌≤◌, ◌<◌, ℕ, List, length, map, slice_index}
use Rattle.std.specs.List.{AllByRecursion}
use Rattle.bz_breakpad.specs.Found.{AreFunctionsFor, AreUncovered}
use Rattle.bz_breakpad.specs.Stands.{OfItsTable}
use Rattle.bz_breakpad.specs.declared.find.FoundFunctions.{FoundFunctions}
use Rattle.bz_breakpad.specs.declared.find.Searched.{Searched}
use Rattle.bz_breakpad_table.specs.Publics.{IsPublicTable}
use Rattle.bz_breakpad_table.specs.Sorted.{starts_of}
use Rattle.bz_breakpad_table.specs.declared.types.KeptTable.{KeptTable}

-- the starts are those of the functions that are kept, and the table of PUBLIC records is that of those
-- that are
pub record IsSearched (s : Searched) : Type 0 where
  pub starts : s.starts.now ≡ starts_of s.kept.now.code
  pub publics : IsPublicTable s.kept.now.publics.items s.publics.now

-- each address has the function that answers for it, or is left;
-- no function answers for those that are left
pub record AreFoundFunctions (kept : KeptTable) (addrs : List ℕ) (found : FoundFunctions) : Type 0 where
  pub functions : OfItsTable kept (λ table. AreFunctionsFor table addrs found.records.items found.left.items 0)
  pub count : length found.records.items ≡ length addrs
  pub within : AllByRecursion (λ index. index < length addrs) found.left.items
  pub uncovered : OfItsTable kept (λ table. AreUncovered table addrs found.left.items)
  pub addrs_left : found.left_addrs.items ≡ map (λ index. slice_index addrs index) found.left.items
  pub fewer : length found.left_addrs.items ≤ length addrs
