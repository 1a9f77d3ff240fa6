-- What a finite map has after an edit, and edits that leave it as it was.
use Rattle.std.proofs.Common.{◌≡◌, Bool, true, false, cond, Some, None, is_some, IsSome, ◌⊎◌, inl, inr, sym, ap, ◌∙◌, refl}
use Rattle.std.specs.Cmp.{IsTotalOrder, eq_by_cmp_equiv, Equal-is}
use Rattle.std.specs.Ordering.{eq_by_cmp}
use Rattle.std.specs.declared.cmp.Ordering.{Ordering}
use Rattle.std.specs.FinMap.{FinMap, IsAntisymmetric, get, insert, remove, get-insert, get-remove, same_map}

-- what a map has at a key that is written over
over : {A : Type 0} (b : Bool) (v w : A) → (b ≡ true → v ≡ w) → cond b v w ≡ w
over true v w same = same refl
over false v w same = refl

-- a key that is put in and taken out
again : {A : Type 0} (b : Bool) (v w n : A) → (b ≡ true → n ≡ w) → cond b n (cond b v w) ≡ w
again true v w n same = same refl
again false v w n same = refl

module _ {K X : Type 0} {R : K → K → Ordering} (o : IsTotalOrder R) (apart : IsAntisymmetric R) where
  -- what a map has at an equal key
  at_equal : (m : FinMap R X) (k q : K) → eq_by_cmp R q k ≡ true → get m k ≡ get m q
  at_equal m k q e = ap (get m) (sym (apart q k ((Equal-is (R q k)).0 e)))

  -- a value that is there already
  pub insert_same : (m : FinMap R X) (k : K) (v : X) → get m k ≡ Some v → insert m k v ≡ m
  insert_same m k v there = same_map o apart _ _ (λ q. get-insert o m k v q ∙ over (eq_by_cmp R q k) (Some v) (get m q) (λ e. sym there ∙ at_equal m k q e))

  -- a new key that is taken out again
  pub remove_inserted : (m : FinMap R X) (k : K) (v : X) → get m k ≡ None → remove (insert m k v) k ≡ m
  remove_inserted m k v absent = same_map o apart _ _ (λ q. get-remove o (insert m k v) k q ∙ ap (cond (eq_by_cmp R q k) None) (get-insert o m k v q) ∙ again (eq_by_cmp R q k) (Some v) (get m q) None (λ e. sym absent ∙ at_equal m k q e))

  -- a value that is put in again where it was
  pub insert_removed : (m : FinMap R X) (k : K) (v : X) → get m k ≡ Some v → insert (remove m k) k v ≡ m
  insert_removed m k v there = same_map o apart _ _ (λ q. get-insert o (remove m k) k v q ∙ ap (cond (eq_by_cmp R q k) (Some v)) (get-remove o m k q) ∙ again (eq_by_cmp R q k) None (get m q) (Some v) (λ e. sym there ∙ at_equal m k q e))

  -- what was taken out isn't there
  pub get_removed : (m : FinMap R X) (k : K) → get (remove m k) k ≡ None
  get_removed m k = get-remove o m k k ∙ ap (λ b. cond b None (get m k)) ((eq_by_cmp_equiv o).refl k)

  -- a key that isn't there
  pub remove_absent : (m : FinMap R X) (k : K) → get m k ≡ None → remove m k ≡ m
  remove_absent m k absent = same_map o apart _ _ (λ q. get-remove o m k q ∙ over (eq_by_cmp R q k) None (get m q) (λ e. sym absent ∙ at_equal m k q e))

  -- an entry that was put in is at its key, and what the map has at any other key stays
  pub insert_cases : (m : FinMap R X) (k : K) (v : X) (q : K) → ((q ≡ k) × (get (insert m k v) q ≡ Some v)) ⊎ (get (insert m k v) q ≡ get m q)
  insert_cases m k v q = by_test (eq_by_cmp R q k) (λ e. apart q k ((Equal-is (R q k)).0 e)) (get-insert o m k v q)
    where
      by_test : (b : Bool) → (b ≡ true → q ≡ k) → get (insert m k v) q ≡ cond b (Some v) (get m q) → ((q ≡ k) × (get (insert m k v) q ≡ Some v)) ⊎ (get (insert m k v) q ≡ get m q)
      by_test true same is = inl (same refl, is)
      by_test false same is = inr is

  -- what was put in is there
  pub get_inserted : (m : FinMap R X) (k : K) (v : X) → get (insert m k v) k ≡ Some v
  get_inserted m k v = get-insert o m k v k ∙ ap (λ b. cond b (Some v) (get m k)) ((eq_by_cmp_equiv o).refl k)

  -- a key that is there stays there when another value is put in
  pub still_there : (m : FinMap R X) (k : K) (v : X) (q : K) → IsSome (get m q) → IsSome (get (insert m k v) q)
  still_there m k v q there = elim (insert_cases m k v q) [
    | inl at_k ↦ ap is_some at_k.1
    | inr stays ↦ ap is_some stays ∙ there
  ]

  -- a key is found where it was, or else it is the one that was taken out
  pub remove_cases : (m : FinMap R X) (k q : K) → ((q ≡ k) × (get (remove m k) q ≡ None)) ⊎ (get (remove m k) q ≡ get m q)
  remove_cases m k q = by_test (eq_by_cmp R q k) (λ e. apart q k ((Equal-is (R q k)).0 e)) (get-remove o m k q)
    where
      by_test : (b : Bool) → (b ≡ true → q ≡ k) → get (remove m k) q ≡ cond b None (get m q) → ((q ≡ k) × (get (remove m k) q ≡ None)) ⊎ (get (remove m k) q ≡ get m q)
      by_test true same is = inl (same refl, is)
      by_test false same is = inr is
