-- The calls of a tree are those that it is made of, where each goes down by one depth at most.
use Rattle.std.proofs.Common.{◌≡◌, inl, inr, ℕ, suc, ◌+◌, ◌≤◌, Bool, true, false, cond, nat_lt, List, [], ◌∷◌, ◌++◌, Some, refl, sym, ap, ◌∙◌, arith}
use Rattle.std.specs.Prelude.{if◌then◌else◌, ◌==◌}
use Rattle.std.specs.List.{AllZip, slice_get}
use Rattle.std.proofs.lemmas.Bool.{cases_lt, eq-eqb, le-ltb, lt-ltb, ne_eqb}
use Rattle.bz_gsym_layout.specs.Nesting.{map_forest, nested}
use Rattle.bz_gsym_layout.specs.Nesting.Forest.{NoCalls, Call}
use Rattle.bz_gsym_layout.specs.Numbering.{calls_of}

module _ {X : Type 0} (depth : X → ℕ) where
  -- each goes down by one depth at most
  abbrev pub GoesDown : List X → Type 0
  GoesDown xs = (i : ℕ) (x y : X) → slice_get xs i ≡ Some x → slice_get xs (suc i) ≡ Some y → depth y ≤ depth x + 1

  down_behind : (x : X) (xs : List X) → GoesDown (x ∷ xs) → GoesDown xs
  down_behind x xs down i y z at_y at_z = down (suc i) y z at_y at_z

  -- those in front of the first that is less deep
  abbrev at_least : ℕ → List X → List X
  at_least at [] = []
  at_least at (x ∷ xs) = if nat_lt (depth x) at then [] else x ∷ at_least at xs

  -- those behind the ones that are deeper
  abbrev behind_deeper : ℕ → List X → List X
  behind_deeper at [] = []
  behind_deeper at (x ∷ xs) = if nat_lt at (depth x) then behind_deeper at xs else x ∷ xs

  joined : (at : ℕ) (xs : List X) → at_least (at + 1) xs ++ at_least at (behind_deeper at xs) ≡ at_least at xs
  joined at [] = refl
  joined at (x ∷ xs) =
      elim (cases_lt at (depth x)) [
        | inl deeper ↦ rw (le-ltb (depth x) (at + 1) (omega arith), lt-ltb at (depth x) deeper, le-ltb (depth x) at (omega arith)) (ap (λ l. x ∷ l) (joined at xs))
        | inr least ↦ rw (lt-ltb (depth x) (at + 1) (omega arith), le-ltb at (depth x) least) refl
      ]

  none_deeper : (at : ℕ) (xs : List X) → ((x : X) → slice_get xs 0 ≡ Some x → depth x ≤ at) → behind_deeper at xs ≡ xs
  none_deeper at [] first = refl
  none_deeper at (x ∷ xs) first = rw (le-ltb at (depth x) (first x refl)) refl

  all_least : (xs : List X) → at_least 0 xs ≡ xs
  all_least [] = refl
  all_least (x ∷ xs) = rw (le-ltb (depth x) 0 (omega arith)) (ap (λ l. x ∷ l) (all_least xs))

  calls_at : (at : ℕ) (xs : List X) → GoesDown xs → calls_of (nested depth at xs) ≡ at_least at (behind_deeper at xs)
  calls_at at [] down = refl
  calls_at at (x ∷ xs) down =
      elim (cases_lt (depth x) at) [
        | inl above ↦ rw (lt-ltb (depth x) at above, le-ltb at (depth x) (omega arith)) (sym (rw (lt-ltb (depth x) at above) refl))
        | inr below ↦ elim (cases_lt at (depth x)) [
          | inl deeper ↦ rw (le-ltb (depth x) at below, ne_eqb (depth x) at (λ same. omega arith), lt-ltb at (depth x) deeper) (calls_at at xs (down_behind x xs down))
          | inr least ↦
              let same : depth x ≡ at = omega arith in
              let inner : calls_of (nested depth (at + 1) xs) ≡ at_least (at + 1) xs =
              calls_at (at + 1) xs (down_behind x xs down) ∙ ap (at_least (at + 1)) (none_deeper (at + 1) xs (λ y first. omega (arith, down 0 x y refl first, same))) in
              let whole : x ∷ (calls_of (nested depth (at + 1) xs) ++ calls_of (nested depth at xs)) ≡ x ∷ at_least at xs =
              ap (λ l. x ∷ (l ++ calls_of (nested depth at xs))) inner ∙ ap (λ l. x ∷ (at_least (at + 1) xs ++ l)) (calls_at at xs (down_behind x xs down)) ∙ ap (λ l. x ∷ l) (joined at xs) in
              rw (le-ltb (depth x) at below, eq-eqb (depth x) at same, le-ltb at (depth x) (omega arith)) (whole ∙ sym (rw (le-ltb (depth x) at below) refl))
        ]
      ]

  pub all_calls : (xs : List X) → ((x : X) → slice_get xs 0 ≡ Some x → depth x ≡ 0) → GoesDown xs → calls_of (nested depth 0 xs) ≡ xs
  all_calls xs first down = calls_at 0 xs down ∙ ap (at_least 0) (none_deeper 0 xs (λ x at. omega (arith, first x at))) ∙ all_least xs

-- Two lists whose items lie as deep and are seen alike have the same trees.
module _ {X Y Z : Type 0} (R : X → Y → Type 0) (depth_x : X → ℕ) (depth_y : Y → ℕ) (view_x : X → Z) (view_y : Y → Z)
    (alike : (x : X) (y : Y) → R x y → (depth_x x ≡ depth_y y) × (view_x x ≡ view_y y)) where
  pub trees_alike : (xs : List X) (ys : List Y) (at : ℕ) → AllZip R xs ys → map_forest view_x (nested depth_x at xs) ≡ map_forest view_y (nested depth_y at ys)
  trees_alike [] [] at all = refl
  trees_alike [] (y ∷ ys) at all = absurd all
  trees_alike (x ∷ xs) [] at all = absurd all
  trees_alike (x ∷ xs) (y ∷ ys) at all =
      let same = alike x y all.0 in
      by (nat_lt (depth_x x) at) (nat_lt (depth_y y) at) (ap (λ n. nat_lt n at) same.0) (depth_x x == at) (depth_y y == at) (ap (λ n. n == at) same.0) same.1 (trees_alike xs ys (at + 1) all.1) (trees_alike xs ys at all.1) where
        call : view_x x ≡ view_y y → map_forest view_x (nested depth_x (at + 1) xs) ≡ map_forest view_y (nested depth_y (at + 1) ys) → map_forest view_x (nested depth_x at xs) ≡ map_forest view_y (nested depth_y at ys) →
            Call (view_x x) (map_forest view_x (nested depth_x (at + 1) xs)) (map_forest view_x (nested depth_x at xs)) ≡ Call (view_y y) (map_forest view_y (nested depth_y (at + 1) ys)) (map_forest view_y (nested depth_y at ys))
        call seen within after =
            ap (λ v. Call v (map_forest view_x (nested depth_x (at + 1) xs)) (map_forest view_x (nested depth_x at xs))) seen
            ∙ ap (λ w. Call (view_y y) w (map_forest view_x (nested depth_x at xs))) within
            ∙ ap (λ a. Call (view_y y) (map_forest view_y (nested depth_y (at + 1) ys)) a) after

        by : (a b : Bool) → a ≡ b → (c d : Bool) → c ≡ d → view_x x ≡ view_y y →
            map_forest view_x (nested depth_x (at + 1) xs) ≡ map_forest view_y (nested depth_y (at + 1) ys) → map_forest view_x (nested depth_x at xs) ≡ map_forest view_y (nested depth_y at ys) →
            map_forest view_x (cond a NoCalls (cond c (Call x (nested depth_x (at + 1) xs) (nested depth_x at xs)) (nested depth_x at xs)))
            ≡ map_forest view_y (cond b NoCalls (cond d (Call y (nested depth_y (at + 1) ys) (nested depth_y at ys)) (nested depth_y at ys)))
        by true true e c d f seen within after = refl
        by false false e true true f seen within after = call seen within after
        by false false e false false f seen within after = after
        by true false e c d f seen within after = absurd (cc)
        by false true e c d f seen within after = absurd (cc)
        by false false e true false f seen within after = absurd (cc)
        by false false e false true f seen within after = absurd (cc)
