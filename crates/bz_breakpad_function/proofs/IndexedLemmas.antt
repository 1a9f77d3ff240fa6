-- The functions of a file by their indices: where they are kept.
use Rattle.std.proofs.Common.{◌≡◌, ℕ, ◌<◌, List, length, get_or, Option, Some, None, option_map, refl, sym, ap, subst, ◌∙◌}
use Rattle.std.specs.List.{slice_get, slice_index_or}
use Rattle.std.proofs.lemmas.Option.{get_or_from_slice_get, none-some, same_Some, slice_get-get_or, slice_get-map, slice_get_read, slice_get_within}
use Rattle.bz_breakpad_table.specs.Kept.{IsNested, kept_functions, function_seen}
use Rattle.bz_breakpad_table.specs.Search.{IsFunction}
use Rattle.bz_breakpad_table.specs.Sorted.{StandsFor}
use Rattle.bz_breakpad_function.specs.Indexed.{IsKeptFunction, function_in, functions_in, functions_of, no_function}
use Rattle.bz_breakpad_lines.specs.Reader.{table_in}
use Rattle.bz_breakpad_lines.specs.Table.{Function, Table}
use Rattle.bz_breakpad_table.specs.declared.types.KeptFunction.{KeptFunction}
use Rattle.bz_breakpad_table.specs.declared.types.KeptTable.{KeptTable}
use Rattle.bz_breakpad_table.proofs.KeptLemmas.{all_get}
use Rattle.bz_breakpad_table.proofs.NestedLemmas.{nested_get}

-- what a mapped option came from
pub some_of : {A B : Type 0} (f : A → B) (o : Option A) (y : B) → option_map f o ≡ Some y → (x : A) × (o ≡ Some x) × (f x ≡ y)
some_of f None y is = absurd (none-some y is)
some_of f (Some x) y is = (x, refl, same_Some (f x) y is)

module _ (bytes : List ℕ) (table : Table) (kept : KeptTable) (stands : StandsFor bytes table kept) (index : ℕ) (function : Function)
    (there : slice_get table.functions index ≡ Some function) where
  kept_there : (f : KeptFunction) × (slice_get kept.code.functions.items index ≡ Some f) × IsNested function (function_seen bytes kept.code f)
  kept_there =
      let k = nested_get table.functions (kept_functions bytes kept.code) stands.functions index function there in
      let f = some_of (function_seen bytes kept.code) (slice_get kept.code.functions.items index) k.0
      (sym (slice_get-map (function_seen bytes kept.code) kept.code.functions.items index) ∙ k.1) in
      (f.0, f.1, subst (IsNested function) (sym f.2) k.2)

  -- the function of the index is kept
  pub there_within : index < length kept.code.functions.items
  there_within = slice_get_within kept.code.functions.items index kept_there.0 kept_there.1

  module _ (f : KeptFunction) (read : f ≡ get_or kept.code.functions.items index f) where
    -- with its records in order
    pub nested_there : IsNested function (function_seen bytes kept.code f)
    nested_there =
        let at = slice_get_read kept.code.functions.items (length kept.code.functions.items) index f refl there_within read in
        subst (λ g. IsNested function (function_seen bytes kept.code g)) (same_Some kept_there.0 f (sym kept_there.1 ∙ at)) kept_there.2

    pub fits_there : IsFunction bytes kept.code f
    fits_there = subst (IsFunction bytes kept.code) (sym read) (all_get (IsFunction bytes kept.code) kept.code.functions.items index f stands.fits.functions there_within)

-- the function at an index of a file's list
pub function_is : (bytes : List ℕ) (table : Table) (index : ℕ) (f : Function) → table_in bytes ≡ Some table → slice_get table.functions index ≡ Some f → function_in bytes index ≡ f
unfolding function_in
function_is bytes table index f is there =
    ap (λ (o : Option Table). slice_index_or (functions_of o) index no_function) is ∙ get_or_from_slice_get table.functions index f no_function there

-- and it stands there
pub listed_in_file : (bytes : List ℕ) (index : ℕ) → index < length (functions_in bytes) → slice_get (functions_in bytes) index ≡ Some (function_in bytes index)
unfolding function_in
listed_in_file bytes index within = slice_get-get_or (functions_in bytes) index no_function within

-- a function of the file is kept so
pub kept_in_file : (bytes : List ℕ) (table : Table) (kept : KeptTable) → table_in bytes ≡ Some table → StandsFor bytes table kept → (index : ℕ) →
    index < length (functions_in bytes) → (f : KeptFunction) → f ≡ get_or kept.code.functions.items index f → IsKeptFunction bytes kept.code f index
kept_in_file bytes table kept is stands index within f read =
    let listed = subst (λ (o : Option Table). index < length (functions_of o)) is within in
    let function = get_or table.functions index no_function in
    let there = slice_get-get_or table.functions index no_function listed in
    record {
      nested =
          subst (λ (g : Function). IsNested g (function_seen bytes kept.code f)) (sym (function_is bytes table index function is there))
          (nested_there bytes table kept stands index function there f read);
      kept_as = fits_there bytes table kept stands index function there f read;
    }
