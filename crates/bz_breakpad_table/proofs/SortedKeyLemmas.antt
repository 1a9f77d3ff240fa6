-- The keys of functions, put in order.
use Rattle.std.proofs.Common.{◌≡◌, ℕ, suc, ◌+◌, List, [], ◌∷◌, length, refl, subst, ap, ◌∙◌}
use Rattle.bz_base.specs.Nearest.{IsTable}
use Rattle.bz_breakpad_table.specs.FunctionKeys.{AreSortedKeys, keys_from}
use Rattle.bz_breakpad_table.specs.declared.types.FunctionKey.{FunctionKey}
use Rattle.bz_breakpad_table.specs.declared.types.KeptFunction.{KeptFunction}

-- there are as many keys as functions
pub keys_count : (index : ℕ) (functions : List KeptFunction) → length (keys_from index functions) ≡ length functions
keys_count index [] = refl
keys_count index (f ∷ functions) = ap (λ n. suc n) (keys_count (index + 1) functions)

-- the keys of functions, put in order
pub sorted_keys_of : (functions : List KeptFunction) (keys sorted : List FunctionKey) → keys ≡ keys_from 0 functions →
    IsTable (λ k. k.start) (λ k. k.size) keys sorted → length sorted ≡ length keys → AreSortedKeys functions sorted
sorted_keys_of functions keys sorted are table count = record {
  table = subst (λ (ks : List FunctionKey). IsTable (λ (k : FunctionKey). k.start) (λ k. k.size) ks sorted) are table;
  count = count ∙ ap length are ∙ keys_count 0 functions;
}
