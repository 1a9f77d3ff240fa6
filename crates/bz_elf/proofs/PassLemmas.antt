-- What all of a list pass, looked at one after another or in another order.
use Rattle.std.proofs.Common.{◌≡◌, ℕ, ◌+◌, ◌<◌, Bool, true, false, List, [], ◌∷◌, length, drop, get_or, refl, sym, ap, ◌∙◌}
use Rattle.std.specs.Prelude.{◌&&◌, ◌||◌, not}
use Rattle.std.specs.List.{list_all, list_any}
use Rattle.std.specs.List.Sorted.{IsPermutation}
use Rattle.std.proofs.lemmas.List.{drop_more}
use Rattle.std.proofs.lemmas.List.Sorted.{list_any-IsPermutation}

both_or_one : (a b c : Bool) → b ≡ not c → (a && b) ≡ not (not a || c)
both_or_one true b c is = is
both_or_one false b c is = refl

-- all pass where none fails
none_fails : {X : Type 0} (test : X → Bool) (list : List X) → list_all test list ≡ not (list_any (λ x. not (test x)) list)
none_fails test [] = refl
none_fails test (x ∷ list) = both_or_one (test x) (list_all test list) (list_any (λ y. not (test y)) list) (none_fails test list)

-- in another order they pass alike
pub passes_alike : {X : Type 0} (test : X → Bool) (list other : List X) → IsPermutation list other → list_all test other ≡ list_all test list
passes_alike test list other is =
    none_fails test other ∙ ap not (sym (list_any-IsPermutation (λ x. not (test x)) list other is)) ∙ sym (none_fails test list)

-- one that passes leaves the answer to the later ones
pub passes_here : (test : ℕ → Bool) (list : List ℕ) (i : ℕ) → i < length list → test (get_or list i 0) ≡ true → list_all test (drop (i + 1) list) ≡ list_all test (drop i list)
passes_here test list i within passes = sym (ap (list_all test) (drop_more list i 0 within) ∙ rw passes refl)
