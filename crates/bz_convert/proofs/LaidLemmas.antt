-- The inlined calls that are laid out for a function are there only where there are rows.
use Rattle.std.proofs.Common.{◌≡◌, ℕ, zero, suc, ◌<◌, Bool, true, false, cond, List, [], ◌∷◌, length, None, refl, sym, ap, ◌∙◌, arith}
use Rattle.std.proofs.lemmas.List.{length-map}
use Rattle.bz_breakpad_function.specs.Locations.{line_at}
use Rattle.bz_breakpad_lines.specs.Table.{Function, SourceLine}
use Rattle.bz_convert.specs.Plan.{calls_beside, changes, is_checked, laid_calls, same_line, sized_calls}
use Rattle.bz_convert.specs.Points.{row_seen}
use Rattle.bz_convert.specs.Rows.{rows_from}
use Rattle.bz_convert.specs.RowsAndCalls.{AreRowsAndCalls}
use Rattle.bz_convert.specs.declared.fault.RowsAndCalls.{RowsAndCalls}

module _ (f : Function) where
  pub laid_some : 0 < length (changes f) → sized_calls f ≡ laid_calls f
  laid_some some = by (changes f) some where
    by : (rows : List (ℕ × SourceLine)) → 0 < length rows → sized_calls f ≡ calls_beside rows (sized_calls f)
    by [] some = absurd (omega arith)
    by (row ∷ rows) some = refl

  pub laid_checked : 0 < length (changes f) → is_checked f ≡ true
  laid_checked some = by (is_checked f) refl (rows_from same_line (λ addr. line_at addr f.lines) None f.start f.size) some where
    by : (b : Bool) → is_checked f ≡ b → (rows : List (ℕ × SourceLine)) → 0 < length (cond b rows []) → is_checked f ≡ true
    by true is rows some = is
    by false is rows some = absurd (omega arith)

  -- where rows were found, the function has some
  module _ (found : RowsAndCalls) (are : AreRowsAndCalls f found) where
    rows_counted : length found.rows.items ≡ length (changes f)
    rows_counted = sym (length-map found.rows.items row_seen) ∙ ap length are.rows

    pub some_rows : (length found.rows.items ≡ 0 → ⊥) → 0 < length (changes f)
    some_rows some = by (length found.rows.items) rows_counted some where
      by : (rows : ℕ) → rows ≡ length (changes f) → (rows ≡ 0 → ⊥) → 0 < length (changes f)
      by zero count some = absurd (some refl)
      by (suc n) count some = omega (arith, count)
