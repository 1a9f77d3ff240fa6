-- PUBLIC records in order answer as they do in the order of their file.
use Rattle.std.proofs.Common.{◌≡◌, ℕ, ◌≤◌, List, Option, Some, None, refl, sym, ◌∙◌, arith}
use Rattle.bz_base.specs.Nearest.{IsTable, has_span}
use Rattle.bz_base.proofs.FilterLemmas.{first_in_filter, first_in_list}
use Rattle.bz_base.proofs.TableLemmas.{in_table, spans_same, starts_same}
use Rattle.bz_breakpad.specs.Plain.{IsNearestPublic, public_at}
use Rattle.bz_breakpad_lines.specs.Table.{PublicSymbol}
use Rattle.bz_breakpad.proofs.PublicLaws.{nearest_is, none_above}
use Rattle.bz_breakpad.proofs.PublicLemmas.{public_again, public_none}

module _ (addr : ℕ) (publics table : List PublicSymbol) (is : IsTable (λ (p : PublicSymbol). p.start) (λ p. 0) publics table) where
  -- the nearest of the table is found in the list
  by_nearest : (place : ℕ) (p : PublicSymbol) → IsNearestPublic table addr place p → public_at addr publics ≡ Some p
  by_nearest place p n =
      let span = has_span (λ (p : PublicSymbol). p.start) (λ p. 0) p.start 0 in
      let front = first_in_filter span table place p (record {
        there = n.there;
        passes = spans_same (λ (p : PublicSymbol). p.start) (λ p. 0) p p refl refl;
        before_others = λ k q at same. n.first k q at (starts_same (λ (p : PublicSymbol). p.start) (λ p. 0) p q same);
      }) in
      let first = first_in_list span publics p front.0 (sym (is.alike p.start 0) ∙ front.1) in
      public_again addr publics first.0 p first.1.there n.not_above
      (λ i q at below.
      let like = in_table (λ (p : PublicSymbol). p.start) (λ p. 0) publics table is i q at in
      let near : like.like.start ≤ p.start = n.closest like.place like.like like.there (omega (arith, like.start_is)) in
      omega (arith, like.start_is))
      (λ i q at same. first.1.before_others i q at (spans_same (λ (p : PublicSymbol). p.start) (λ p. 0) p q same refl))

  -- where all of the table start above, none of the list is found
  by_none : public_at addr table ≡ None → public_at addr publics ≡ None
  by_none none = public_none addr publics (λ i q at.
      let like = in_table (λ (p : PublicSymbol). p.start) (λ p. 0) publics table is i q at in
      omega (arith, none_above addr table none like.place like.like like.there, like.start_is))

  -- table and list give the same record
  pub table_public : public_at addr table ≡ public_at addr publics
  table_public = by (public_at addr table) refl where
    by : (o : Option PublicSymbol) → public_at addr table ≡ o → public_at addr table ≡ public_at addr publics
    by None none = none ∙ sym (by_none none)
    by (Some p) found = let n = nearest_is addr table p found in found ∙ sym (by_nearest n.0 p n.1)
