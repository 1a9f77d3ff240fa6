-- What holds of all records holds of all in their table, and of the one that answers.
use Rattle.std.proofs.Common.{◌≡◌, ℕ, zero, suc, Bool, true, false, cond, List, [], ◌∷◌, ◌++◌, map, Option, Some, None, option_and_then, IfSome, nat_le, refl, ap, subst, ◌∙◌, arith}
use Rattle.std.specs.List.{AllByRecursion, filter, slice_get}
use Rattle.std.proofs.lemmas.Bool.{eq-eqb}
use Rattle.std.proofs.lemmas.Option.{none-some, same_Some}
use Rattle.bz_search.specs.Nearest.{IsTable, candidate, comes_first, first_of, has_span, if_covers, nearest_covering}
use Rattle.bz_search.specs.Span.{covers}
use Rattle.bz_search.specs.Starts.{NeverDescends}
use Rattle.bz_search.proofs.TableLemmas.{record_at, start_at}

module _ {X : Type 0} (P : X → Type 0) where
  -- what holds at each place holds of all
  all_places : (xs : List X) → ((i : ℕ) (x : X) → slice_get xs i ≡ Some x → P x) → AllByRecursion P xs
  all_places [] at = tt
  all_places (x ∷ xs) at = (at 0 x refl, all_places xs (λ i y there. at (suc i) y there))

  -- what holds of all holds at each place
  pub at_place : (xs : List X) → AllByRecursion P xs → (i : ℕ) (x : X) → slice_get xs i ≡ Some x → P x
  at_place [] all i x there = absurd (none-some x there)
  at_place (y ∷ xs) all zero x there = subst P (same_Some y x there) all.0
  at_place (y ∷ xs) all (suc i) x there = at_place xs all.1 i x there

  -- and of two lists side by side
  pub all_append : (xs ys : List X) → AllByRecursion P xs → AllByRecursion P ys → AllByRecursion P (xs ++ ys)
  all_append [] ys all others = others
  all_append (x ∷ xs) ys all others = (all.0, all_append xs ys all.1 others)

  -- what holds of all holds of those that pass
  all_passing : (test : X → Bool) (xs : List X) → AllByRecursion P xs → AllByRecursion P (filter test xs)
  all_passing test [] all = tt
  all_passing test (x ∷ xs) all = by (test x) (all_passing test xs all.1) where
    by : (b : Bool) → AllByRecursion P (filter test xs) → AllByRecursion P (cond b (x ∷ filter test xs) (filter test xs))
    by true rest = (all.0, rest)
    by false rest = rest

  -- what holds of those that pass holds of one that passes
  one_passing : (test : X → Bool) (xs : List X) (i : ℕ) (x : X) → slice_get xs i ≡ Some x → test x ≡ true → AllByRecursion P (filter test xs) → P x
  one_passing test [] i x there passes all = absurd (none-some x there)
  one_passing test (y ∷ xs) zero x there passes all =
      let same : y ≡ x = same_Some y x there in
      let here : AllByRecursion P (y ∷ filter test xs) = rw (ap test same ∙ passes) at all in
      subst P same here.0
  one_passing test (y ∷ xs) (suc i) x there passes all = one_passing test xs i x there passes (by (test y) all) where
    by : (b : Bool) → AllByRecursion P (cond b (y ∷ filter test xs) (filter test xs)) → AllByRecursion P (filter test xs)
    by true all = all.1
    by false all = all

  -- what holds of all records holds of all in their table
  pub all_in_table : (start size : X → ℕ) (records table : List X) → IsTable start size records table → AllByRecursion P records → AllByRecursion P table
  all_in_table start size records table is all =
      all_places table (λ i x there.
      one_passing (has_span start size (start x) (size x)) table i x there (rw (eq-eqb (start x) (start x) refl, eq-eqb (size x) (size x) refl) refl)
      (rw (is.alike (start x) (size x)) (all_passing (has_span start size (start x) (size x)) records all)))

  either : (b : Bool) (o p : Option X) → IfSome o P → IfSome p P → IfSome (cond b o p) P
  either true o p one other = one
  either false o p one other = other

  module _ (start size : X → ℕ) (addr : ℕ) where
    first_one : (x : X) (o : Option X) → P x → IfSome o P → IfSome (first_of start size addr x o) P
    first_one x None one others = either (nat_le (start x) addr) (Some x) None one tt
    first_one x (Some y) one others = either (comes_first start size addr x y) (Some x) (Some y) one others

    candidate_one : (xs : List X) → AllByRecursion P xs → IfSome (candidate start size addr xs) P
    candidate_one [] all = tt
    candidate_one (x ∷ xs) all = first_one x (candidate start size addr xs) all.0 (candidate_one xs all.1)

    covering_one : (o : Option X) → IfSome o P → IfSome (option_and_then (if_covers start size addr) o) P
    covering_one None one = tt
    covering_one (Some x) one = either (covers (start x) (size x) addr) (Some x) None one tt

    -- what holds of all holds of the one that answers
    pub nearest_one : (xs : List X) → AllByRecursion P xs → IfSome (nearest_covering start size addr xs) P
    nearest_one xs all = covering_one (candidate start size addr xs) (candidate_one xs all)

-- the starts of a table never descend
pub starts_ascend : {X : Type 0} (start size : X → ℕ) (records table : List X) → IsTable start size records table → NeverDescends (map start table)
starts_ascend start size records table is i j order within =
    let last = record_at start size table j within in
    let first = record_at start size table i (omega arith) in
    omega (arith, is.starts_ascend i j first.0 last.0 order first.1 last.1, start_at start size table i first.0 first.1, start_at start size table j last.0 last.1)
