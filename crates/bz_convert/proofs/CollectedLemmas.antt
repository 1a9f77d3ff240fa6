-- The functions of a file are collected one after another.
use Rattle.std.proofs.Common.{◌≡◌, ◌≤◌, ◌+◌, ℕ, List, [], ◌∷◌, ◌++◌, length, take, true, Option, Some, None, option_map, refl, sym, ap, ◌∙◌, arith}
use Rattle.std.specs.List.{slice_get}
use Rattle.std.proofs.lemmas.Option.{none-some, same_Some}
use Rattle.bz_breakpad_function.specs.InOrder.{functions_in_order, ordered_functions}
use Rattle.bz_breakpad_function.specs.Indexed.{functions_of}
use Rattle.bz_breakpad_lines.specs.Reader.{table_in}
use Rattle.bz_breakpad_lines.specs.Table.{Function, Table}
use Rattle.bz_convert.specs.Fault.{fault_in, fault_of}
use Rattle.bz_convert.specs.Laid.{AreApart, IsFunctionFor, sources_used, texts_used}
use Rattle.bz_convert.specs.Numbered.{IsNumbered, Uses, listed_sources}
use Rattle.bz_gsym_layout.specs.Listing.{listed_texts}
use Rattle.bz_convert.specs.Plan.{is_checked, plan}
use Rattle.bz_convert.specs.declared.conversion.numbering.Numbering.{Numbering}
use Rattle.bz_convert.proofs.FaultLemmas.{clean}
use Rattle.bz_convert.proofs.PlannedLemmas.{Collected, codes_are, is_plan}
use Rattle.bz_convert.proofs.SoFarLemmas.{found_end, found_turn}
use Rattle.bz_convert.proofs.StayLemmas.{functions_stay}
use Rattle.bz_gsym_layout.specs.Indexed.{IsPlan, codes_of}
use Rattle.bz_gsym_layout.specs.declared.plan.Function.{Function as Planned}
use Rattle.bz_gsym_layout.specs.declared.plan.Plan.{Plan}
use Rattle.bz_search.proofs.SortingLaws.{sorted_length}

-- bytes whose functions are counted have a table
pub table_there : {B : Type 0} (o : Option Table) (len : Table → B) (n : B) → option_map len o ≡ Some n → (t : Table) × (o ≡ Some t)
table_there None len n none = absurd (none-some n none)
table_there (Some t) len n some = (t, refl)

module _ (bytes : List ℕ) where
  in_order : (table : Table) → table_in bytes ≡ Some table → functions_in_order bytes ≡ ordered_functions table.functions
  in_order table read = ap (λ o. ordered_functions (functions_of o)) read

  -- no calls of a function without a fault overlap
  pub calls_apart : (n : ℕ) → option_map (λ (t : Table). length t.functions) (table_in bytes) ≡ Some n → (before : Option ℕ) (f : Function) →
      ((table : Table) → table_in bytes ≡ Some table → fault_of table before f ≡ None) → is_checked f ≡ true → AreApart f
  calls_apart n count before f none checked =
      let t = table_there (table_in bytes) (λ (t : Table). length t.functions) n count in
      ((clean t.0 before f (none t.0 t.1)).nested checked).apart

  module _ (table : Table) (read : table_in bytes ≡ Some table) where
    pub collected_turn : (old new : Numbering) (i : ℕ) (f : Function) → slice_get (functions_in_order bytes) i ≡ Some f → (gs more : List Planned) (g : Planned) → more ≡ gs ++ g ∷ [] →
        Collected table old (take i (ordered_functions table.functions)) gs →
        ((table : Table) → table_in bytes ≡ Some table → Uses table (texts_used table f) (sources_used table f) old new) →
        ((table : Table) → table_in bytes ≡ Some table → IsNumbered table old → IsFunctionFor table (listed_texts new.texts) (listed_sources new) f g) →
        Collected table new (take (i + 1) (ordered_functions table.functions)) more
    collected_turn old new i f at gs more g pushed so_far numbers says =
        found_turn table (texts_used table) (sources_used table) (λ n. IsFunctionFor table (listed_texts n.texts) (listed_sources n)) (functions_stay table) [] [] old new (ordered_functions table.functions) i f
        (ap (λ fs. slice_get fs i) (sym (in_order table read)) ∙ at) gs more g pushed so_far (numbers table read) (λ texts sources is. says table read (texts, sources, is))

    -- all are collected
    module _ (n : ℕ) (count : option_map (λ (t : Table). length t.functions) (table_in bytes) ≡ Some n) (none : fault_in table ≡ None) (i : ℕ) (past : n ≤ i) (numbering : Numbering) (p : Plan)
        (texts_same : p.texts ≡ numbering.texts.listed) (sources_same : p.sources ≡ numbering.sources.listed) (so_far : Collected table numbering (take i (ordered_functions table.functions)) p.functions.items) where
      counted : length table.functions ≡ n
      counted = same_Some (length table.functions) n (ap (option_map (λ (t : Table). length t.functions)) (sym read) ∙ count)

      all : Collected table numbering (ordered_functions table.functions) p.functions.items
      all =
          found_end table (texts_used table) (sources_used table) (λ n. IsFunctionFor table (listed_texts n.texts) (listed_sources n)) [] [] numbering (ordered_functions table.functions) i
          (omega (arith, counted, sorted_length (λ (f : Function). f.start) (λ f. f.size) table.functions, past)) p.functions.items so_far

      pub plan_formed : IsPlan p
      plan_formed = is_plan table none numbering p texts_same sources_same all

      pub plan_codes : codes_of p ≡ plan table
      plan_codes = codes_are table none numbering p texts_same sources_same all
