-- Functions that are found by their keys, which are put in order:
-- a key tells the file's function at its index.
use Rattle.std.proofs.Common.{◌≡◌, ℕ, suc, ◌+◌, ◌<◌, List, [], ◌∷◌, length, map, get_or, Option, Some, option_map, IfSome, refl, sym, subst, ap, ap₂, ◌∙◌, arith}
use Rattle.std.specs.List.{AllByRecursion, slice_get, slice_index_or}
use Rattle.std.proofs.lemmas.Option.{get_or_from_slice_get, slice_get-map, slice_get_read}
use Rattle.bz_base.specs.Nearest.{IsTable, nearest_covering}
use Rattle.bz_base.proofs.ViewLemmas.{covering_seen, table_seen}
use Rattle.bz_search.proofs.SortingLaws.{table_sorted}
use Rattle.bz_breakpad_table.specs.FunctionKeys.{AreSortedKeys, keys_from}
use Rattle.bz_breakpad_table.specs.Kept.{AreNested, kept_functions, function_seen}
use Rattle.bz_breakpad.specs.Plain.{function_at}
use Rattle.bz_breakpad_function.specs.InOrder.{ordered_functions}
use Rattle.bz_breakpad_lines.specs.Table.{Function}
use Rattle.bz_breakpad_table.specs.declared.types.FunctionKey.{FunctionKey}
use Rattle.bz_breakpad_table.specs.declared.types.FunctionTable.{FunctionTable}
use Rattle.bz_breakpad_table.specs.declared.types.KeptFunction.{KeptFunction}
use Rattle.bz_breakpad_table.proofs.KeptLemmas.{all_get}
use Rattle.bz_base.proofs.InTableLemmas.{all_in_table, nearest_one}

-- what stands at an index where no function does
abbrev absent : Function
absent = record { start = 0; size = 0; parameter_size = 0; name = []; lines = []; inlinees = [] }

-- the function at a key's index, with the key's start and size
abbrev pub told : List Function → FunctionKey → Function
told functions key = record (slice_index_or functions key.index absent) { start = key.start; size = key.size }

-- what a search among the keys in order finds is the key that is nearest
pub key_found : (functions : List KeptFunction) (keys lent : List FunctionKey) (addr : ℕ) (found : Option FunctionKey) → AreSortedKeys functions keys →
    lent ≡ keys →
    ((records : List FunctionKey) → IsTable (λ k. k.start) (λ k. k.size) records lent → found ≡ nearest_covering (λ k. k.start) (λ k. k.size) addr records) →
    found ≡ nearest_covering (λ k. k.start) (λ k. k.size) addr (keys_from 0 functions)
key_found functions keys lent addr found are same covering =
    covering (keys_from 0 functions)
    (subst (λ ks. IsTable (λ (k : FunctionKey). k.start) (λ k. k.size) (keys_from 0 functions) ks) (sym same) are.table)

-- The keys tell the functions, which are kept with their calls in order.
module _ (bytes : List ℕ) (code : FunctionTable) (functions : List Function) where
  tell_from : (index : ℕ) (fs : List Function) (kept : List KeptFunction) → AreNested fs (map (function_seen bytes code) kept) →
      ((i : ℕ) → slice_get functions (index + i) ≡ slice_get fs i) →
      (map (told functions) (keys_from index kept) ≡ fs) × AllByRecursion (λ k. slice_get functions k.index ≡ Some (told functions k)) (keys_from index kept)
  tell_from index [] [] are at = (refl, tt)
  tell_from index [] (k ∷ kept) are at = absurd are
  tell_from index (f ∷ fs) [] are at = absurd are
  tell_from index (f ∷ fs) (k ∷ kept) are at =
      let key : FunctionKey = record { start = k.start; size = k.size; index = index } in
      let first : index ≡ index + 0 = omega arith in
      let there : slice_get functions index ≡ Some f = ap (slice_get functions) first ∙ at 0 in
      let is : told functions key ≡ f
      = ap (λ (g : Function). record g { start = k.start; size = k.size }) (get_or_from_slice_get functions index f absent there)
      ∙ ap₂ (λ start size. record f { start = start; size = size }) (ap (λ (g : Function). g.start) are.0.same) (ap (λ (g : Function). g.size) are.0.same) in
      let more = tell_from (index + 1) fs kept are.1 (λ i. let next : index + 1 + i ≡ index + suc i = omega arith in ap (slice_get functions) next ∙ at (suc i)) in
      (ap₂ (λ g gs. g ∷ gs) is more.0, (there ∙ ap Some (sym is), more.1))

  told_starts : (keys : List FunctionKey) → map (λ (f : Function). f.start) (map (told functions) keys) ≡ map (λ k. k.start) keys
  told_starts [] = refl
  told_starts (k ∷ keys) = ap (λ more. k.start ∷ more) (told_starts keys)

  module _ (are : AreNested functions (kept_functions bytes code)) where
    -- the keys tell the functions, each the one at its index
    pub tell : (map (told functions) (keys_from 0 code.functions.items) ≡ functions)
        × AllByRecursion (λ k. slice_get functions k.index ≡ Some (told functions k)) (keys_from 0 code.functions.items)
    tell = tell_from 0 functions code.functions.items are (λ i. let same : 0 + i ≡ i = omega arith in ap (slice_get functions) same)

    -- the function of the key that is nearest is the one that answers
    pub answers_by_key : (addr : ℕ) →
        option_map (told functions) (nearest_covering (λ (k : FunctionKey). k.start) (λ k. k.size) addr (keys_from 0 code.functions.items)) ≡ function_at addr functions
    answers_by_key addr =
        covering_seen (λ (f : Function). f.start) (λ f. f.size) (told functions) addr (keys_from 0 code.functions.items)
        ∙ ap (function_at addr) tell.0

    -- and stands at the key's index
    pub key_tells : (addr : ℕ) (key : FunctionKey) →
        Some key ≡ nearest_covering (λ (k : FunctionKey). k.start) (λ k. k.size) addr (keys_from 0 code.functions.items) →
        slice_get functions key.index ≡ Some (told functions key)
    key_tells addr key is =
        subst (λ (o : Option FunctionKey). IfSome o (λ k. slice_get functions k.index ≡ Some (told functions k))) (sym is)
        (nearest_one (λ (k : FunctionKey). slice_get functions k.index ≡ Some (told functions k)) (λ (k : FunctionKey). k.start) (λ k. k.size) addr
        (keys_from 0 code.functions.items) tell.1)

    module _ (keys : List FunctionKey) (are_sorted : AreSortedKeys code.functions.items keys) where
      -- the keys in order tell the functions in order
      pub told_in_order : map (told functions) keys ≡ ordered_functions functions
      told_in_order =
          table_sorted (λ (f : Function). f.start) (λ f. f.size) functions (map (told functions) keys)
          (subst (λ (fs : List Function). IsTable (λ (f : Function). f.start) (λ f. f.size) fs (map (told functions) keys)) tell.0
          (table_seen (λ (f : Function). f.start) (λ f. f.size) (told functions) (keys_from 0 code.functions.items) keys are_sorted.table))

      -- each tells the function at its index
      pub all_tell : AllByRecursion (λ k. slice_get functions k.index ≡ Some (told functions k)) keys
      all_tell =
          all_in_table (λ (k : FunctionKey). slice_get functions k.index ≡ Some (told functions k)) (λ (k : FunctionKey). k.start) (λ k. k.size)
          (keys_from 0 code.functions.items) keys are_sorted.table tell.1

      module _ (index : ℕ) (key : FunctionKey) (within : index < length keys) (read : key ≡ get_or keys index key) where
        -- the one at an index tells the function at its own index
        pub tells_at : slice_get functions key.index ≡ Some (told functions key)
        tells_at =
            subst (λ (k : FunctionKey). slice_get functions k.index ≡ Some (told functions k)) (sym read)
            (all_get (λ (k : FunctionKey). slice_get functions k.index ≡ Some (told functions k)) keys index key all_tell within)

        -- which is the function at the index in order
        pub in_order_at : slice_get (ordered_functions functions) index ≡ Some (told functions key)
        in_order_at =
            ap (λ (fs : List Function). slice_get fs index) (sym told_in_order)
            ∙ slice_get-map (told functions) keys index
            ∙ ap (option_map (told functions)) (slice_get_read keys (length keys) index key refl within read)

    -- the keys have the functions' starts
    pub starts_told : map (λ (k : FunctionKey). k.start) (keys_from 0 code.functions.items) ≡ map (λ (f : Function). f.start) functions
    starts_told = sym (told_starts (keys_from 0 code.functions.items)) ∙ ap (map (λ (f : Function). f.start)) tell.0
