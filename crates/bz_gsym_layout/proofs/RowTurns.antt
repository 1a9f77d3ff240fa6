-- One turn of the loop that writes rows.
use Rattle.std.proofs.Common.{◌≡◌, ℕ, ◌+◌, ◌<◌, ◌≤◌, List, [], ◌∷◌, ◌++◌, length, drop, refl, sym, ap, subst, ◌∙◌, append_assoc}
use Rattle.std.specs.Prelude.{slice_index_or}
use Rattle.std.proofs.lemmas.List.{drop_all, drop_more}
use Rattle.bz_gsym_layout.specs.Layout.{Tables, row_bytes, row_numbers, rows_bytes}
use Rattle.bz_gsym_layout.specs.Plan.{Line}
use Rattle.bz_gsym_layout.specs.InOrder.{NeverBefore}
use Rattle.bz_gsym_layout.specs.RowPass.{AreRowsOf, IsRowOf}
use Rattle.bz_gsym_layout.specs.declared.plan.Row.{Row}

-- the lines of what is left, with what is still to be written of them
pub record AreLeft (t : Tables) (rows : List Row) (out : List ℕ) (addr line : ℕ) (whole : List ℕ) : Type 0 where
  pub lines : List (ℕ × Line)
  pub are : AreRowsOf t lines rows
  pub all : out ++ rows_bytes t addr line lines ≡ whole

numbers_same : (t : Tables) (addr line : ℕ) (at : ℕ × Line) (x : Row) → IsRowOf t at x → row_bytes t addr line at ≡ row_numbers addr line x.addr (x.source + 1) x.line
numbers_same t addr line at x is = rw (is.addr, is.file, is.line_is) refl

one_written : (t : Tables) (x : Row) (rest : List Row) (out new : List ℕ) (addr line : ℕ) (whole : List ℕ) → new ≡ out ++ row_numbers addr line x.addr (x.source + 1) x.line →
    (lines : List (ℕ × Line)) → AreRowsOf t lines (x ∷ rest) → out ++ rows_bytes t addr line lines ≡ whole → AreLeft t rest new x.addr x.line whole
one_written t x rest out new addr line whole wrote [] are all = absurd are
one_written t x rest out new addr line whole wrote (at ∷ more) are all = record {
  lines = more;
  are = are.1;
  all =
      ap (λ l. l ++ rows_bytes t x.addr x.line more) wrote
      ∙ append_assoc out (row_numbers addr line x.addr (x.source + 1) x.line) (rows_bytes t x.addr x.line more)
      ∙ ap (λ l. out ++ (l ++ rows_bytes t x.addr x.line more)) (sym (numbers_same t addr line at x are.0))
      ∙ ap (λ a. out ++ (row_bytes t addr line at ++ rows_bytes t a x.line more)) (sym are.0.addr)
      ∙ ap (λ n. out ++ (row_bytes t addr line at ++ rows_bytes t at.0 n more)) (sym are.0.line_is) ∙ all;
}

module _ (rows : List Row) (i : ℕ) (d : Row) (within : i < length rows) where
  abbrev x : Row
  x = slice_index_or rows i d

  here : drop i rows ≡ x ∷ drop (i + 1) rows
  here = drop_more rows i d within

  pub low_turn : (addr : ℕ) → NeverBefore addr (drop i rows) → NeverBefore x.addr (drop (i + 1) rows)
  low_turn addr low = (subst (NeverBefore addr) here low).1

  pub row_turn : (t : Tables) (out new : List ℕ) (addr line : ℕ) (whole : List ℕ) → new ≡ out ++ row_numbers addr line x.addr (x.source + 1) x.line →
      AreLeft t (drop i rows) out addr line whole → AreLeft t (drop (i + 1) rows) new x.addr x.line whole
  row_turn t out new addr line whole wrote left =
      one_written t x (drop (i + 1) rows) out new addr line whole wrote left.lines (subst (AreRowsOf t left.lines) here left.are) left.all

pub rows_end : (t : Tables) (rows : List Row) (i : ℕ) (out new : List ℕ) (addr line : ℕ) (whole : List ℕ) → length rows ≤ i → new ≡ out ++ 0 ∷ [] → AreLeft t (drop i rows) out addr line whole → new ≡ whole
rows_end t rows i out new addr line whole past wrote left = by left.lines (subst (AreRowsOf t left.lines) (drop_all i rows past) left.are) left.all where
  by : (lines : List (ℕ × Line)) → AreRowsOf t lines [] → out ++ rows_bytes t addr line lines ≡ whole → new ≡ whole
  by [] are all = wrote ∙ all
  by (at ∷ lines) are all = absurd are
