-- The lists of calls are written in one pass over the calls, with the starts of those that are open.
use Rattle.std.proofs.Common.{◌≡◌, ℕ, suc, ◌+◌, ◌-◌, ◌<◌, ◌≤◌, List, [], ◌∷◌, ◌++◌, length, refl, sym, ap, ◌∙◌, arith, append_assoc}
use Rattle.std.proofs.lemmas.Bool.{lt-ltb, le-ltb, eq-eqb, ne_eqb}
use Rattle.bz_gsym_layout.specs.Layout.{Tables, child_flag, node_bytes, source_index, unless_ended}
use Rattle.bz_gsym_layout.specs.Nesting.{Forest, map_forest, nested}
use Rattle.bz_gsym_layout.specs.Nesting.Forest.{NoCalls, Call}
use Rattle.bz_gsym_layout.specs.Pass.{left_bytes, list_bytes}
use Rattle.bz_gsym_layout.specs.Plan.{Called}

regroup : (a b c d : List ℕ) → (a ++ (b ++ c)) ++ d ≡ a ++ (b ++ (c ++ d))
regroup a b c d = simp append_assoc

module _ {X : Type 0} (t : Tables) (view : X → Called) (depth : X → ℕ) where
  -- a node with its flag
  abbrev pub one_bytes : ℕ → X → ℕ → List ℕ
  one_bytes base x flag = node_bytes t ((view x).start - base) (view x).size (view x).name flag (source_index t (view x).at.source) (view x).at.line

  -- without a further call the lists end
  pub ends_all : (base : ℕ) (bases : List ℕ) → left_bytes t view depth (base ∷ bases) [] ≡ 0 ∷ left_bytes t view depth bases []
  unfolding left_bytes
  ends_all base bases = refl

  -- before a call that is less deep the innermost list ends
  pub ends_list : (base : ℕ) (bases : List ℕ) (x : X) (xs : List X) → depth x < length bases → left_bytes t view depth (base ∷ bases) (x ∷ xs) ≡ 0 ∷ left_bytes t view depth bases (x ∷ xs)
  unfolding left_bytes
  ends_list base bases x xs less = rw (lt-ltb (depth x) (length bases) less) refl

  -- a call that is deeper than the open lists isn't theirs
  not_theirs : (bases : List ℕ) (x : X) (xs : List X) → length bases ≤ depth x → left_bytes t view depth bases (x ∷ xs) ≡ left_bytes t view depth bases xs
  unfolding left_bytes
  not_theirs [] x xs deep = refl
  not_theirs (base ∷ bases) x xs deep =
      rw (le-ltb (depth x) (length bases) (omega arith), ne_eqb (depth x) (length bases) (λ same. omega arith), not_theirs bases x xs (omega arith)) refl

  module _ (base : ℕ) (bases : List ℕ) (x : X) (xs : List X) (here : depth x ≡ length bases) where
    abbrev inner : Forest X
    inner = nested depth (length bases + 1) xs

    node_is : left_bytes t view depth (base ∷ bases) (x ∷ xs)
        ≡ one_bytes base x (child_flag (map_forest view inner)) ++ (unless_ended (map_forest view inner) (list_bytes t view depth (view x).start inner) ++ left_bytes t view depth (base ∷ bases) xs)
    unfolding left_bytes
    node_is =
        rw (le-ltb (depth x) (length bases) (omega arith), eq-eqb (depth x) (length bases) here, not_theirs bases x xs (omega arith))
        (regroup (one_bytes base x (child_flag (map_forest view inner))) (unless_ended (map_forest view inner) (list_bytes t view depth (view x).start inner)) (list_bytes t view depth base (nested depth (length bases) xs)) (left_bytes t view depth bases xs))

    -- a call with none inside it
    pub writes_leaf : inner ≡ NoCalls → left_bytes t view depth (base ∷ bases) (x ∷ xs) ≡ one_bytes base x 0 ++ left_bytes t view depth (base ∷ bases) xs
    unfolding left_bytes
    writes_leaf none =
        node_is ∙ ap (λ f. one_bytes base x (child_flag (map_forest view f)) ++ (unless_ended (map_forest view f) (list_bytes t view depth (view x).start inner) ++ left_bytes t view depth (base ∷ bases) xs)) none

    -- and one with some, whose list is then the innermost
    pub writes_node : (y : X) (within after : Forest X) → inner ≡ Call y within after →
        left_bytes t view depth (base ∷ bases) (x ∷ xs) ≡ one_bytes base x 1 ++ left_bytes t view depth ((view x).start ∷ base ∷ bases) xs
    unfolding left_bytes
    writes_node y within after some =
        let deeper : suc (length bases) ≡ length bases + 1 = omega arith in
        node_is
        ∙ ap (λ f. one_bytes base x (child_flag (map_forest view f)) ++ (unless_ended (map_forest view f) (list_bytes t view depth (view x).start inner) ++ left_bytes t view depth (base ∷ bases) xs)) some
        ∙ ap (λ n. one_bytes base x 1 ++ (list_bytes t view depth (view x).start (nested depth n xs) ++ left_bytes t view depth (base ∷ bases) xs)) (sym deeper)

  -- whether a call has some inside is seen at the next one
  pub none_at_end : (at : ℕ) → nested depth at [] ≡ NoCalls
  none_at_end at = refl

  pub none_before : (at : ℕ) (y : X) (xs : List X) → depth y < at → nested depth at (y ∷ xs) ≡ NoCalls
  none_before at y xs less = rw (lt-ltb (depth y) at less) refl

  pub some_before : (at : ℕ) (y : X) (xs : List X) → depth y ≡ at → nested depth at (y ∷ xs) ≡ Call y (nested depth (at + 1) xs) (nested depth at xs)
  some_before at y xs same = rw (le-ltb (depth y) at (omega arith), eq-eqb (depth y) at same) refl
