-- The faults of a file, function after function.
use Rattle.std.proofs.Common.{◌≡◌, ◌≤◌, ◌+◌, ℕ, zero, suc, List, [], ◌∷◌, drop, length, Option, Some, None, option_map, refl, sym, ap, ◌∙◌, arith}
use Rattle.std.specs.List.{slice_get}
use Rattle.std.proofs.lemmas.List.{drop_all}
use Rattle.std.proofs.lemmas.Option.{none-some, same_Some}
use Rattle.bz_breakpad_function.specs.InOrder.{functions_in_order, ordered_functions}
use Rattle.bz_breakpad_function.specs.Indexed.{functions_of}
use Rattle.bz_breakpad_lines.specs.Reader.{table_in}
use Rattle.bz_breakpad_lines.specs.Table.{Function, Table}
use Rattle.bz_search.proofs.SortingLaws.{sorted_length}
use Rattle.bz_convert.specs.Fault.{fault_in, fault_of, first_fault, ◌or◌}
use Rattle.bz_convert.specs.declared.error.ConvertError.{ConvertError}

drop_get : {X : Type 0} (xs : List X) (i : ℕ) (x : X) → slice_get xs i ≡ Some x → drop i xs ≡ x ∷ drop (suc i) xs
drop_get [] i x at = absurd (none-some x at)
drop_get (y ∷ xs) zero x at = ap (λ z. z ∷ xs) (same_Some y x at)
drop_get (y ∷ xs) (suc i) x at = drop_get xs i x at

-- what holds by each table of the bytes holds of the one they have
by_table : {B : Type 0} (o : Option Table) (len : Table → ℕ) (n : ℕ) → option_map len o ≡ Some n → (g : Table → B) (x : B) → ((t : Table) → o ≡ Some t → g t ≡ x) → option_map g o ≡ Some x
by_table None len n none g x each = absurd (none-some n none)
by_table (Some t) len n some g x each = ap Some (each t refl)

module _ (bytes : List ℕ) where
  module _ (table : Table) (is : table_in bytes ≡ Some table) where
    in_order : functions_in_order bytes ≡ ordered_functions table.functions
    in_order = ap (λ o. ordered_functions (functions_of o)) is

    function_turn : (before : Option ℕ) (i : ℕ) (f : Function) → slice_get (functions_in_order bytes) i ≡ Some f →
        first_fault table before (drop i (ordered_functions table.functions)) ≡ (fault_of table before f or first_fault table (Some f.start) (drop (i + 1) (ordered_functions table.functions)))
    function_turn before i f at =
        let e : suc i ≡ i + 1 = omega arith in
        ap (first_fault table before) (drop_get (ordered_functions table.functions) i f (ap (λ fs. slice_get fs i) (sym in_order) ∙ at))
        ∙ ap (λ n. fault_of table before f or first_fault table (Some f.start) (drop n (ordered_functions table.functions))) e

    -- a function without a fault
    pub turn_on : (before : Option ℕ) (i : ℕ) (f : Function) → slice_get (functions_in_order bytes) i ≡ Some f → None ≡ fault_of table before f →
        first_fault table before (drop i (ordered_functions table.functions)) ≡ fault_in table →
        first_fault table (Some f.start) (drop (i + 1) (ordered_functions table.functions)) ≡ fault_in table
    turn_on before i f at none so_far =
        ap (λ o. o or first_fault table (Some f.start) (drop (i + 1) (ordered_functions table.functions))) none ∙ sym (function_turn before i f at) ∙ so_far

  abbrev SoFar : Option ℕ → ℕ → Type 0
  SoFar before i = (table : Table) → table_in bytes ≡ Some table → first_fault table before (drop i (ordered_functions table.functions)) ≡ fault_in table

  -- a function with one
  pub turn_out : (n : ℕ) → option_map (λ (t : Table). length t.functions) (table_in bytes) ≡ Some n → (before : Option ℕ) (i : ℕ) (f : Function) → slice_get (functions_in_order bytes) i ≡ Some f →
      (e : ConvertError) → ((table : Table) → table_in bytes ≡ Some table → Some e ≡ fault_of table before f) → SoFar before i → option_map fault_in (table_in bytes) ≡ Some (Some e)
  turn_out n count before i f at e is so_far =
      by_table (table_in bytes) (λ (t : Table). length t.functions) n count fault_in (Some e) (λ t read.
      sym (so_far t read) ∙ function_turn t read before i f at ∙ ap (λ o. o or first_fault t (Some f.start) (drop (i + 1) (ordered_functions t.functions))) (sym (is t read)))

  -- the end
  pub turns_end : (n : ℕ) → option_map (λ (t : Table). length t.functions) (table_in bytes) ≡ Some n → (before : Option ℕ) (i : ℕ) → n ≤ i → SoFar before i → option_map fault_in (table_in bytes) ≡ Some None
  turns_end n count before i past so_far =
      by_table (table_in bytes) (λ (t : Table). length t.functions) n count fault_in None (λ t read.
      let len : length t.functions ≡ n = same_Some (length t.functions) n (ap (option_map (λ (t : Table). length t.functions)) (sym read) ∙ count) in
      sym (so_far t read) ∙ ap (first_fault t before) (drop_all i (ordered_functions t.functions) (omega (arith, len, sorted_length (λ (f : Function). f.start) (λ f. f.size) t.functions))))
