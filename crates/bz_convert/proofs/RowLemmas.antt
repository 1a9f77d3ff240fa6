-- The last row that doesn't lie above an address has the record that answers there.
use Rattle.std.proofs.Common.{◌≡◌, inl, inr, ℕ, zero, suc, ◌+◌, ◌<◌, ◌≤◌, ◌&&◌, Bool, true, false, cond, option_map, List, [], ◌∷◌, ◌++◌, Option, Some, None, refl, sym, ap, ◌∙◌, arith}
use Rattle.std.specs.Prelude.{is_none, is_some}
use Rattle.std.proofs.lemmas.Bool.{cases_lt, lt-ltb, le-ltb}
use Rattle.std.proofs.lemmas.Option.{none-some}
use Rattle.bz_convert.specs.Rows.{gap_from, row_by, rows_from}
use Rattle.bz_gsym_layout.specs.Rows.{row_at}

module _ {L : Type 0} (same : L → L → Bool) (line_at : ℕ → Option L) (exact : (a b : L) → same a b ≡ true → a ≡ b) where
  abbrev record_of : Option (ℕ × L) → Option L
  record_of row = option_map (λ r. r.1) row

  -- a row above the address, before others that lie above it
  above_row : (addr at : ℕ) (last : Option (ℕ × L)) (rest : List (ℕ × L)) → addr < at → row_at addr last rest ≡ last →
      (before now : Option L) → row_at addr last (row_by same at before now ++ rest) ≡ last
  above_row addr at last rest above next before None = next
  above_row addr at last rest above next None (Some line) = rw (lt-ltb addr at above) refl
  above_row addr at last rest above next (Some former) (Some line) = by (same former line) where
    by : (b : Bool) → row_at addr last (cond b [] ((at, line) ∷ []) ++ rest) ≡ last
    by true = next
    by false = rw (lt-ltb addr at above) refl

  -- rows above the address change nothing
  above_rows : (count at addr : ℕ) (before : Option L) (last : Option (ℕ × L)) → addr < at → row_at addr last (rows_from same line_at before at count) ≡ last
  above_rows zero at addr before last above = refl
  above_rows (suc count) at addr before last above =
      above_row addr at last (rows_from same line_at (line_at at) (at + 1) count) above (above_rows count (at + 1) addr (line_at at) last (omega arith)) before (line_at at)

  -- after the row at an address, if there is one, the last row has the record that answers there
  record Passed (addr at : ℕ) (before now : Option L) (last : Option (ℕ × L)) : Type 0 where
    next : Option (ℕ × L)
    has : record_of next ≡ now
    goes_on : (rest : List (ℕ × L)) → row_at addr last (row_by same at before now ++ rest) ≡ row_at addr next rest

  passed : (addr at : ℕ) (before now : Option L) (last : Option (ℕ × L)) → at ≤ addr → record_of last ≡ before → (is_some before && is_none now) ≡ false →
      Passed addr at before now last
  passed addr at None None last below has gap = record { next = last; has = has; goes_on = λ rest. refl }
  passed addr at (Some former) None last below has gap = absurd (cc)
  passed addr at None (Some line) last below has gap = record { next = Some (at, line); has = refl; goes_on = λ rest. rw (le-ltb addr at below) refl }
  passed addr at (Some former) (Some line) last below has gap = by (same former line) refl where
    by : (b : Bool) → same former line ≡ b → Passed addr at (Some former) (Some line) last
    by true is = record { next = last; has = has ∙ ap Some (exact former line is); goes_on = λ rest. rw is refl }
    by false is = record { next = Some (at, line); has = refl; goes_on = λ rest. rw (is, le-ltb addr at below) refl }

  no_gap : (before : Option L) (at count : ℕ) → gap_from line_at before at (suc count) ≡ None →
      ((is_some before && is_none (line_at at)) ≡ false) × (gap_from line_at (line_at at) (at + 1) count ≡ None)
  no_gap before at count none = by (is_some before && is_none (line_at at)) none where
    by : (b : Bool) → cond b (Some at) (gap_from line_at (line_at at) (at + 1) count) ≡ None → (b ≡ false) × (gap_from line_at (line_at at) (at + 1) count ≡ None)
    by true some = absurd (none-some at (sym some))
    by false none = (refl, none)

  pub row_answers : (count at addr : ℕ) (before : Option L) (last : Option (ℕ × L)) → record_of last ≡ before → gap_from line_at before at count ≡ None →
      at ≤ addr → addr < at + count → record_of (row_at addr last (rows_from same line_at before at count)) ≡ line_at addr
  row_answers zero at addr before last has none low high = absurd (omega arith)
  row_answers (suc count) at addr before last has none low high =
      let gap = no_gap before at count none in
      let step = passed addr at before (line_at at) last low has gap.0 in
      ap record_of (step.goes_on (rows_from same line_at (line_at at) (at + 1) count))
      ∙ (elim (cases_lt at addr) [
        | inl more ↦ row_answers count (at + 1) addr (line_at at) step.next step.has gap.1 (omega arith) (omega arith)
        | inr least ↦
            let here : at ≡ addr = omega arith in
            ap record_of (above_rows count (at + 1) addr (line_at at) step.next (omega arith)) ∙ step.has ∙ ap line_at here
      ])
