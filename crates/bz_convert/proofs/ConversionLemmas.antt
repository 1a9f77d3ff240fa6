-- The plan of a file without a fault can be laid out.
use Rattle.std.proofs.Common.{◌≡◌, ◌≢◌, ℕ, ◌+◌, ◌≤◌, ◌&&◌, Bool, true, false, cond, not, nat_le, [], Some, None, refl, sym, ap, subst, ◌∙◌, arith}
use Rattle.std.specs.Prelude.{◌==◌}
use Rattle.std.specs.List.{AllByRecursion, slice_get}
use Rattle.std.proofs.lemmas.Bool.{and_parts, leb-true}
use Rattle.std.proofs.lemmas.Option.{slice_get-map}
use Rattle.bz_base.specs.Span.{last_address}
use Rattle.bz_breakpad_function.specs.InOrder.{ordered_functions}
use Rattle.bz_breakpad_function.specs.Locations.{line_at}
use Rattle.bz_breakpad_lines.specs.Table.{Inlinee, Function, Table}
use Rattle.bz_breakpad_lines.proofs.Turns.{map_some}
use Rattle.bz_search.proofs.SortingLaws.{sorted_table}
use Rattle.bz_gsym_layout.specs.Members.{In}
use Rattle.bz_convert.specs.Fault.{fault_in}
use Rattle.bz_convert.specs.Plan.{called, calls_beside, code_of, is_checked, plan, same_line, sized_calls}
use Rattle.bz_convert.specs.Rows.{rows_from}
use Rattle.bz_gsym_layout.specs.Layable.{IsLayable, StartsAscend}
use Rattle.bz_gsym_layout.specs.Nesting.{map_forest, nested}
use Rattle.bz_gsym_layout.specs.Nesting.Forest.{NoCalls}
use Rattle.bz_gsym_layout.specs.Plan.{Code}
use Rattle.bz_convert.proofs.BoundsLemmas.{AreBounded}
use Rattle.bz_convert.proofs.FaultLemmas.{all_clean}
use Rattle.bz_convert.proofs.LayableLemmas.{layable}
use Rattle.bz_gsym_layout.proofs.MemberLemmas.{all_members, map_in}
use Rattle.bz_convert.proofs.MemberLemmas.{from_table}

module _ (table : Table) (none : fault_in table ≡ None) (good : AreBounded table) where
  in_table : (f : Function) → In (ordered_functions table.functions) f → In table.functions f
  in_table f there =
      from_table (λ (f : Function). f.start) (λ f. f.size) table.functions (ordered_functions table.functions) (sorted_table (λ (f : Function). f.start) (λ f. f.size) table.functions) f there

  pub all_layable : AllByRecursion IsLayable (plan table)
  all_layable = all_members IsLayable (plan table) (λ c there.
      let found = map_in (code_of table) (ordered_functions table.functions) c there in
      let f = found.0 in
      subst IsLayable found.2 (layable table good f (good.functions f (in_table f found.1)) (all_clean table (ordered_functions table.functions) None none f found.1)))

module _ (table : Table) where
  pub codes_up : StartsAscend (plan table)
  codes_up i j x y order at_i at_j =
      let fs = ordered_functions table.functions in
      let f = map_some (code_of table) (slice_get fs i) x (sym (slice_get-map (code_of table) fs i) ∙ at_i) in
      let g = map_some (code_of table) (slice_get fs j) y (sym (slice_get-map (code_of table) fs j) ∙ at_j) in
      let up = (sorted_table (λ (f : Function). f.start) (λ f. f.size) table.functions).starts_ascend i j f.0 g.0 order f.1 g.1 in
      omega (arith, up, ap (λ (c : Code). c.start) f.2, ap (λ (c : Code). c.start) g.2)

  -- a function with calls is checked
  pub with_calls_fits : (i : ℕ) (c : Code) → slice_get (plan table) i ≡ Some c → c.calls ≢ NoCalls → c.start + c.size ≤ last_address
  with_calls_fits i c there some =
      let f = map_some (code_of table) (slice_get (ordered_functions table.functions) i) c (sym (slice_get-map (code_of table) (ordered_functions table.functions) i) ∙ there) in
      subst (λ (d : Code). d.start + d.size ≤ last_address) f.2 (checked_fits f.0 (λ none. some (ap (λ (d : Code). d.calls) (sym f.2) ∙ none))) where
        by : (f : Function) (b : Bool) → (not (f.size == 0) && nat_le (f.start + f.size) last_address) ≡ b →
            (map_forest (called table) (nested (λ (i : Inlinee). i.depth) 0 (calls_beside (cond b (rows_from same_line (λ addr. line_at addr f.lines) None f.start f.size) []) (sized_calls f))) ≢ NoCalls) →
            f.start + f.size ≤ last_address
        by f true is some = leb-true (f.start + f.size) last_address (and_parts (not (f.size == 0)) (nat_le (f.start + f.size) last_address) is).1
        by f false is some = absurd (some refl)

        checked_fits : (f : Function) → (code_of table f).calls ≢ NoCalls → f.start + f.size ≤ last_address
        checked_fits f some = by f (is_checked f) refl some
