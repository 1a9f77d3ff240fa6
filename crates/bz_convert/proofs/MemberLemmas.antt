-- What stands in a list stands in its table, and what stands in the table stands in the list.
use Rattle.std.proofs.Common.{◌≡◌, ℕ, ◌<◌, true, List, Some, sym, subst, ◌∙◌, arith}
use Rattle.std.specs.List.{slice_get}
use Rattle.std.proofs.lemmas.Bool.Decides.{nat_tests}
use Rattle.bz_base.specs.Nearest.{has_span, IsTable}
use Rattle.bz_gsym_layout.proofs.MemberLemmas.{AtTwo, filter_from, filter_to, two_from, two_to}
use Rattle.bz_gsym_layout.specs.Members.{In}

module _ {X : Type 0} (start size : X → ℕ) where
  pub own_span : (x : X) → has_span start size (start x) (size x) x ≡ true
  own_span x = grind (arith, nat_tests)

  pub same_span : (x y : X) → start y ≡ start x → size y ≡ size x → has_span start size (start x) (size x) y ≡ true
  same_span x y starts sizes = grind (arith, nat_tests)

  span_is : (x y : X) → has_span start size (start x) (size x) y ≡ true → (start y ≡ start x) × (size y ≡ size x)
  span_is x y same = (grind (arith, nat_tests), grind (arith, nat_tests))

  module _ (records table : List X) (is : IsTable start size records table) where
    pub to_table : (x : X) → In records x → In table x
    to_table x (i, at) =
        let among = filter_to (has_span start size (start x) (size x)) records i x at (own_span x) in
        let P : List X → Type 0 = λ l. slice_get l among.0 ≡ Some x in
        (filter_from (has_span start size (start x) (size x)) table among.0 x (subst P (sym (is.alike (start x) (size x))) among.1)).0

    pub from_table : (x : X) → In table x → In records x
    from_table x (i, at) =
        let among = filter_to (has_span start size (start x) (size x)) table i x at (own_span x) in
        let P : List X → Type 0 = λ l. slice_get l among.0 ≡ Some x in
        (filter_from (has_span start size (start x) (size x)) records among.0 x (subst P (is.alike (start x) (size x)) among.1)).0

    -- two alike in the table are two alike in the list
    pub two_alike : (i j : ℕ) (x y : X) → i < j → slice_get table i ≡ Some x → slice_get table j ≡ Some y → start y ≡ start x → size y ≡ size x →
        AtTwo records (has_span start size (start x) (size x))
    two_alike i j x y less at_i at_j starts sizes =
        let two = two_to (has_span start size (start x) (size x)) table i j x y less at_i at_j (own_span x) (same_span x y starts sizes) in
        two_from (has_span start size (start x) (size x)) records (two.0, two.1, two.2, sym (is.alike (start x) (size x)) ∙ two.3)
