-- One use more: what was used before adds nothing, and what is new comes last. The index of what is
-- listed.
use Rattle.std.proofs.Common.{◌≡◌, ℕ, zero, suc, ◌≤◌, Bool, true, false, cond, not, List, [], ◌∷◌, ◌++◌, length, Option, Some, None, option_map, refl, sym, ap, subst, ◌∙◌, arith, append-nil, append_assoc}
use Rattle.std.specs.Prelude.{◌||◌, is_some}
use Rattle.std.specs.List.{filter, list_any, slice_get}
use Rattle.std.proofs.lemmas.List.{length-append}
use Rattle.std.proofs.lemmas.Option.{none-some, same_Some}
use Rattle.bz_gsym_layout.specs.Listed.{HasIndexes, index_if, with_one}
use Rattle.bz_gsym_layout.specs.Numbering.{firsts}

-- a list that goes on as another does
abbrev pub Grows : {X : Type 0} → List X → List X → Type 0
Grows {X} xs ys = (more : List X) × (ys ≡ xs ++ more)

pub grows_itself : {X : Type 0} (xs : List X) → Grows xs xs
grows_itself xs = ([], sym (append-nil xs))

pub grows_on : {X : Type 0} (xs ys zs : List X) → Grows xs ys → Grows ys zs → Grows xs zs
grows_on xs ys zs (a, is_a) (b, is_b) = (a ++ b, is_b ∙ ap (λ l. l ++ b) is_a ∙ append_assoc xs a b)

pub grown_at : {X : Type 0} (xs ys : List X) → Grows xs ys → (i : ℕ) (x : X) → slice_get xs i ≡ Some x → slice_get ys i ≡ Some x
grown_at {X} xs ys (more, is) i x at = ap (λ l. slice_get l i) is ∙ by xs i at where
  by : (xs : List X) (i : ℕ) → slice_get xs i ≡ Some x → slice_get (xs ++ more) i ≡ Some x
  by [] i at = absurd (none-some x at)
  by (y ∷ xs) zero at = at
  by (y ∷ xs) (suc i) at = by xs i at

pub grown_length : {X : Type 0} (xs ys : List X) → Grows xs ys → length xs ≤ length ys
grown_length xs ys (more, is) = omega (arith, ap length is, length-append xs more)

-- the first, or else the second
abbrev or_else : Option ℕ → Option ℕ → Option ℕ
or_else None o = o
or_else (Some n) o = Some n

module _ {X : Type 0} (same : X → X → Bool) where
  pub one_grows : (xs : List X) (x : X) → Grows xs (with_one same xs x)
  one_grows xs x = by (list_any (λ y. same y x) xs) where
    by : (b : Bool) → Grows xs (cond b xs (xs ++ x ∷ []))
    by true = grows_itself xs
    by false = (x ∷ [], refl)

  any_index : (x : X) (xs : List X) → list_any (λ y. same y x) xs ≡ is_some (index_if same x xs)
  any_index x [] = refl
  any_index x (y ∷ ys) = by (same y x) (index_if same x ys) (any_index x ys) where
    by : (b : Bool) (o : Option ℕ) → list_any (λ z. same z x) ys ≡ is_some o → (b || list_any (λ z. same z x) ys) ≡ is_some (cond b (Some 0) (option_map suc o))
    by true o next = refl
    by false None next = next
    by false (Some j) next = next

  -- what has an index adds nothing
  pub one_known : (xs : List X) (x : X) (i : ℕ) → index_if same x xs ≡ Some i → with_one same xs x ≡ xs
  one_known xs x i known = rw (any_index x xs ∙ ap is_some known) refl

  -- and what has none comes last
  pub one_new : (xs : List X) (x : X) → index_if same x xs ≡ None → with_one same xs x ≡ xs ++ x ∷ []
  one_new xs x new = rw (any_index x xs ∙ ap is_some new) refl

  index_last : (q : X) (xs : List X) (x : X) → index_if same q (xs ++ x ∷ []) ≡ or_else (index_if same q xs) (cond (same x q) (Some (length xs)) None)
  index_last q [] x = by (same x q) where
    by : (b : Bool) → cond b (Some 0) (option_map suc None) ≡ cond b (Some 0) None
    by true = refl
    by false = refl
  index_last q (y ∷ ys) x = ap (λ o. cond (same y q) (Some 0) (option_map suc o)) (index_last q ys x) ∙ by (same y q) (index_if same q ys) (same x q) where
    by : (b : Bool) (o : Option ℕ) (c : Bool) →
        cond b (Some 0) (option_map suc (or_else o (cond c (Some (length ys)) None))) ≡ or_else (cond b (Some 0) (option_map suc o)) (cond c (Some (suc (length ys))) None)
    by true o c = refl
    by false (Some i) c = refl
    by false None true = refl
    by false None false = refl

  module _ (exact : (x y : X) → same x y ≡ true → x ≡ y) where
    -- what has an index stands there
    pub index_at : (x : X) (xs : List X) (i : ℕ) → index_if same x xs ≡ Some i → slice_get xs i ≡ Some x
    index_at x [] i known = absurd (none-some i known)
    index_at x (y ∷ ys) i known = by (same y x) refl (index_if same x ys) refl i known (index_at x ys) where
      by : (b : Bool) → same y x ≡ b → (o : Option ℕ) → index_if same x ys ≡ o → (i : ℕ) → cond b (Some 0) (option_map suc o) ≡ Some i →
          ((j : ℕ) → index_if same x ys ≡ Some j → slice_get ys j ≡ Some x) → slice_get (y ∷ ys) i ≡ Some x
      by true is o found i at next = subst (λ n. slice_get (y ∷ ys) n ≡ Some x) (same_Some 0 i at) (ap Some (exact y x is))
      by false fails None found i at next = absurd (none-some i at)
      by false fails (Some j) found i at next = subst (λ n. slice_get (y ∷ ys) n ≡ Some x) (same_Some (suc j) i at) (next j found)

    -- what differs from one isn't lost with those that are the same as it
    kept : (y x : X) (zs : List X) → same y x ≡ false → list_any (λ w. same w x) (filter (λ z. not (same y z)) zs) ≡ list_any (λ w. same w x) zs
    kept y x [] differs = refl
    kept y x (z ∷ zs) differs = by (same y z) refl (kept y x zs differs) where
      other : same y z ≡ true → same z x ≡ false
      other is = subst (λ w. same w x ≡ false) (exact y z is) differs

      by : (b : Bool) → same y z ≡ b → list_any (λ w. same w x) (filter (λ w. not (same y w)) zs) ≡ list_any (λ w. same w x) zs →
          list_any (λ w. same w x) (cond (not b) (z ∷ filter (λ w. not (same y w)) zs) (filter (λ w. not (same y w)) zs)) ≡ (same z x || list_any (λ w. same w x) zs)
      by true is next = next ∙ sym (rw (other is) refl)
      by false is next = ap (λ b. same z x || b) next

    filter_last : (p : X → Bool) (xs : List X) (x : X) → filter p (xs ++ x ∷ []) ≡ filter p xs ++ cond (p x) (x ∷ []) []
    filter_last p [] x = refl
    filter_last p (y ∷ xs) x = by (p y) (filter_last p xs x) where
      by : (b : Bool) → filter p (xs ++ x ∷ []) ≡ filter p xs ++ cond (p x) (x ∷ []) [] →
          cond b (y ∷ filter p (xs ++ x ∷ [])) (filter p (xs ++ x ∷ [])) ≡ cond b (y ∷ filter p xs) (filter p xs) ++ cond (p x) (x ∷ []) []
      by true next = ap (λ l. y ∷ l) next
      by false next = next

    -- one use more
    pub firsts_last : (xs : List X) (x : X) → firsts same (xs ++ x ∷ []) ≡ with_one same (firsts same xs) x
    firsts_last [] x = refl
    firsts_last (y ∷ xs) x =
        ap (λ l. y ∷ filter (λ z. not (same y z)) l) (firsts_last xs x) ∙ by (same y x) refl (list_any (λ w. same w x) (firsts same xs)) refl where
          by : (b : Bool) → same y x ≡ b → (h : Bool) → list_any (λ w. same w x) (firsts same xs) ≡ h →
              y ∷ filter (λ z. not (same y z)) (cond h (firsts same xs) (firsts same xs ++ x ∷ []))
              ≡ cond (b || list_any (λ w. same w x) (filter (λ z. not (same y z)) (firsts same xs))) (y ∷ filter (λ z. not (same y z)) (firsts same xs)) ((y ∷ filter (λ z. not (same y z)) (firsts same xs)) ++ x ∷ [])
          by true is true has = refl
          by true is false has = ap (λ l. y ∷ l) (filter_last (λ z. not (same y z)) (firsts same xs) x ∙ rw is (append-nil (filter (λ z. not (same y z)) (firsts same xs))))
          by false is true has = rw (kept y x (firsts same xs) is, has) refl
          by false is false has =
              rw (kept y x (firsts same xs) is, has) (ap (λ l. y ∷ l) (filter_last (λ z. not (same y z)) (firsts same xs) x ∙ rw is refl))

    -- more uses
    pub firsts_grow : (more xs : List X) → Grows (firsts same xs) (firsts same (xs ++ more))
    firsts_grow [] xs = ([], ap (firsts same) (append-nil xs) ∙ sym (append-nil (firsts same xs)))
    firsts_grow (x ∷ more) xs =
        let P : List X → Type 0 = λ l. Grows (firsts same xs) (firsts same l) in
        let Q : List X → Type 0 = λ l. Grows (firsts same xs) l in
        subst P (append_assoc xs (x ∷ []) more)
        (grows_on (firsts same xs) (firsts same (xs ++ x ∷ [])) (firsts same ((xs ++ x ∷ []) ++ more)) (subst Q (sym (firsts_last xs x)) (one_grows (firsts same xs) x)) (firsts_grow more (xs ++ x ∷ [])))

    -- the indexes as they are found, and that of one more
    module _ {Q : Type 0} (equal : Q → Q → Bool) (view : Q → X) (tied : (a b : Q) → equal a b ≡ same (view a) (view b)) where
      pub indexes_more : (m n : Q → Option ℕ) (xs : List X) (one : Q) → HasIndexes m view same xs → index_if same (view one) xs ≡ None →
          ((q : Q) → n q ≡ cond (equal one q) (Some (length xs)) (m q)) → HasIndexes n view same (xs ++ view one ∷ [])
      indexes_more m n xs one has new updates q =
          updates q ∙ ap (λ b. cond b (Some (length xs)) (m q)) (tied one q) ∙ ap (λ o. cond (same (view one) (view q)) (Some (length xs)) o) (has q)
          ∙ by (same (view one) (view q)) refl (index_if same (view q) xs) refl ∙ sym (index_last (view q) xs (view one)) where
            by : (b : Bool) → same (view one) (view q) ≡ b → (o : Option ℕ) → index_if same (view q) xs ≡ o → cond b (Some (length xs)) o ≡ or_else o (cond b (Some (length xs)) None)
            by true is None found = refl
            by true is (Some i) found = absurd (none-some i (sym new ∙ ap (λ x. index_if same x xs) (exact (view one) (view q) is) ∙ found))
            by false is None found = refl
            by false is (Some i) found = refl
