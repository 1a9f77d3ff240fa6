-- Lists with one more, and lists turned round.
use Rattle.std.proofs.Common.{◌≡◌, List, [], ◌∷◌, ◌++◌, map, reverse, refl, sym, ap, ◌∙◌}
use Rattle.std.specs.List.{AllByRecursion}
use Rattle.std.proofs.lemmas.List.{reverse-append, map-append}

-- a list turned round, and one more
pub reverse_one : {A B : Type 0} (view : A → B) (xs : List A) (x : A) → reverse (map view (xs ++ x ∷ [])) ≡ view x ∷ reverse (map view xs)
reverse_one view xs x = ap reverse (map-append view xs (x ∷ [])) ∙ reverse-append (map view xs) (view x ∷ [])

pub map_reversed : {A B : Type 0} (view : A → B) (xs : List A) → map view (reverse xs) ≡ reverse (map view xs)
map_reversed view [] = refl
map_reversed view (x ∷ xs) =
    ap (map view) (reverse-append (x ∷ []) xs) ∙ map-append view (reverse xs) (x ∷ []) ∙ ap (λ ys. ys ++ view x ∷ []) (map_reversed view xs)
    ∙ sym (reverse-append (view x ∷ []) (map view xs))

-- what holds of each, and of one more, holds of all
pub all_and_one : {A : Type 0} (P : A → Type 0) (xs : List A) (x : A) → AllByRecursion P xs → P x → AllByRecursion P (xs ++ x ∷ [])
all_and_one P [] x all one = (one, tt)
all_and_one P (y ∷ xs) x all one = (all.0, all_and_one P xs x all.1 one)

-- what holds of all holds of all turned round
pub all_reversed : {A : Type 0} (P : A → Type 0) (xs : List A) → AllByRecursion P xs → AllByRecursion P (reverse xs)
all_reversed P [] all = tt
all_reversed P (x ∷ xs) all = rw (reverse-append (x ∷ []) xs) (all_and_one P (reverse xs) x (all_reversed P xs all.1) all.0)
