-- Which of the texts that are laid out for a function holds a zero byte.
use Rattle.std.proofs.Common.{◌≡◌, ◌&&◌, Bool, true, false, ℕ, suc, length, not, List, [], ◌∷◌, None, refl, sym, ap, ◌∙◌, arith}
use Rattle.std.specs.Prelude.{◌==◌, ◌||◌}
use Rattle.std.specs.List.{list_any}
use Rattle.std.proofs.lemmas.Bool.{ne_eqb, true≢false}
use Rattle.bz_breakpad_function.specs.InOrder.{calls_in_order}
use Rattle.bz_breakpad_lines.specs.Table.{SourceLine, Function, Table}
use Rattle.bz_convert.specs.Fault.{has_zero, not_nested, overlap}
use Rattle.bz_convert.specs.Ids.{call_has_zero, row_has_zero, sized_with}
use Rattle.bz_convert.specs.Plan.{changes, code_of, is_checked}
use Rattle.bz_gsym_layout.specs.Numbering.{texts_of}
use Rattle.bz_convert.proofs.FaultLemmas.{nested_calls}
use Rattle.bz_convert.proofs.ZeroLemmas.{calls_where, texts_zero}

or_true : (a b : Bool) → a ≡ true → true ≡ (a || b)
or_true true b is = refl
or_true false b is = absurd (true≢false (sym is))

second : (a b c : Bool) → b ≡ true → true ≡ (a || (b || c))
second true b c is = refl
second false true c is = refl
second false false c is = absurd (true≢false (sym is))

third : (a b e k : Bool) → a ≡ false → b ≡ false → e ≡ false → k ≡ (a || (b || (not e && k)))
third false false false k an bn en = refl
third true b e k an bn en = absurd (true≢false an)
third false true e k an bn en = absurd (true≢false bn)
third false false true k an bn en = absurd (true≢false en)

fourth : (a b e k : Bool) → a ≡ false → b ≡ false → e ≡ true → false ≡ (a || (b || (not e && k)))
fourth false false true k an bn en = refl
fourth true b e k an bn en = sym an
fourth false true e k an bn en = sym bn
fourth false false false k an bn en = absurd (true≢false (sym en))

module _ (table : Table) (f : Function) where
  -- the texts
  where_is : (rows : List (ℕ × SourceLine)) → calls_where table rows f ≡ (not (length rows == 0) && list_any (sized_with (call_has_zero table)) (calls_in_order f))
  where_is [] = refl
  where_is (row ∷ rows) = ap (λ b. not b && list_any (sized_with (call_has_zero table)) (calls_in_order f)) (sym (ne_eqb (suc (length rows)) 0 (λ none. omega arith)))

  texts_are : is_checked f ≡ true → not_nested f ≡ None → overlap f ≡ None →
      list_any has_zero (texts_of (code_of table f))
      ≡ (has_zero f.name || (list_any (row_has_zero table) (changes f) || (not (length (changes f) == 0) && list_any (sized_with (call_has_zero table)) (calls_in_order f))))
  texts_are checked inner over =
      texts_zero table f (nested_calls f inner over) checked ∙ ap (λ b. has_zero f.name || (list_any (row_has_zero table) (changes f) || b)) (where_is (changes f))

  -- the first of them that holds one
  pub name_has : has_zero f.name ≡ true → true ≡ list_any has_zero (texts_of (code_of table f))
  name_has is = or_true (has_zero f.name) _ is

  module _ (checked : is_checked f ≡ true) (inner : not_nested f ≡ None) (over : overlap f ≡ None) where
    pub row_has : list_any (row_has_zero table) (changes f) ≡ true → true ≡ list_any has_zero (texts_of (code_of table f))
    row_has is = second (has_zero f.name) (list_any (row_has_zero table) (changes f)) _ is ∙ sym (texts_are checked inner over)

    pub call_has : has_zero f.name ≡ false → list_any (row_has_zero table) (changes f) ≡ false → (length (changes f) == 0) ≡ false → (b : Bool) → b ≡ list_any (sized_with (call_has_zero table)) (calls_in_order f) →
        b ≡ list_any has_zero (texts_of (code_of table f))
    call_has named rowed some b is =
        is ∙ third (has_zero f.name) (list_any (row_has_zero table) (changes f)) (length (changes f) == 0) (list_any (sized_with (call_has_zero table)) (calls_in_order f)) named rowed some
        ∙ sym (texts_are checked inner over)

    pub none_has : has_zero f.name ≡ false → list_any (row_has_zero table) (changes f) ≡ false → (length (changes f) == 0) ≡ true → false ≡ list_any has_zero (texts_of (code_of table f))
    none_has named rowed none =
        fourth (has_zero f.name) (list_any (row_has_zero table) (changes f)) (length (changes f) == 0) (list_any (sized_with (call_has_zero table)) (calls_in_order f)) named rowed none
        ∙ sym (texts_are checked inner over)
