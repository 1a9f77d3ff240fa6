-- Edits that keep the keys of pairs in order.
use Rattle.std.proofs.Common.{◌≡◌, Bool, true, false, cond, List, [], ◌∷◌, ap, ◌∙◌, refl}
use Rattle.std.specs.List.{AllByRecursion, items_where_true}
use Rattle.std.specs.List.Retain.{ReturnsInTurn, IsFiltered}
use Rattle.std.specs.List.Sorted.{IsStrictlySortedBy}
use Rattle.std.specs.Cmp.{IsTotalOrder}
use Rattle.std.specs.Map.{keys_of, remove_entry}
use Rattle.std.specs.BTreeMap.{insert_entry}
use Rattle.std.specs.Ordering.{ordering_reverse, match_ordering}
use Rattle.std.specs.declared.cmp.Ordering.{Ordering}
use Rattle.std.specs.declared.cmp.Ordering.TheVariants.{Less, Equal, Greater}

-- no keys are in order
pub sorted_empty : {K : Type 0} (cmp : K → K → Ordering) → IsStrictlySortedBy cmp []
unfolding IsStrictlySortedBy
sorted_empty cmp = tt

module _ {K V : Type 0} where
  -- what holds of each key holds of those that are left
  all_removed : (P : K → Type 0) (test : K → Bool) (es : List (K × V)) → AllByRecursion P (keys_of es) → AllByRecursion P (keys_of (remove_entry test es))
  all_removed P test [] all = tt
  all_removed P test (e ∷ es) all = by_test (test e.0) (all_removed P test es all.1)
    where
      by_test : (b : Bool) → AllByRecursion P (keys_of (remove_entry test es)) → AllByRecursion P (keys_of (cond b es (e ∷ remove_entry test es)))
      by_test true rest = all.1
      by_test false rest = (all.0, rest)

  module _ (cmp : K → K → Ordering) where
    pub sorted_removed : (test : K → Bool) (es : List (K × V)) → IsStrictlySortedBy cmp (keys_of es) → IsStrictlySortedBy cmp (keys_of (remove_entry test es))
    unfolding IsStrictlySortedBy
    sorted_removed test [] sorted = tt
    sorted_removed test (e ∷ es) sorted = by_test (test e.0) (sorted_removed test es sorted.1)
      where
        by_test : (b : Bool) → IsStrictlySortedBy cmp (keys_of (remove_entry test es)) → IsStrictlySortedBy cmp (keys_of (cond b es (e ∷ remove_entry test es)))
        by_test true rest = sorted.1
        by_test false rest = (all_removed (λ y. cmp e.0 y ≡ Less) test es sorted.0, rest)

  module _ {cmp : K → K → Ordering} (o : IsTotalOrder cmp) (k : K) (v : V) where
    -- what holds of each key and of k holds once k is put in
    all_inserted : (P : K → Type 0) (es : List (K × V)) → AllByRecursion P (keys_of es) → P k → AllByRecursion P (keys_of (insert_entry cmp es k v))
    all_inserted P [] all of_k = (of_k, tt)
    all_inserted P (e ∷ es) all of_k = by_order (cmp k e.0) (all_inserted P es all.1 of_k)
      where
        by_order : (r : Ordering) → AllByRecursion P (keys_of (insert_entry cmp es k v)) → AllByRecursion P (keys_of (match_ordering r ((k, v) ∷ e ∷ es) ((e.0, v) ∷ es) (e ∷ insert_entry cmp es k v)))
        by_order Less rest = (of_k, all)
        by_order Equal rest = all
        by_order Greater rest = (all.0, rest)

    -- a key below another is below all that are above that one
    all_above : (q : K) (ks : List K) → cmp k q ≡ Less → AllByRecursion (λ y. cmp q y ≡ Less) ks → AllByRecursion (λ y. cmp k y ≡ Less) ks
    all_above q [] below all = tt
    all_above q (y ∷ ks) below all = (o.trans k q y below all.0, all_above q ks below all.1)

    pub sorted_inserted : (es : List (K × V)) → IsStrictlySortedBy cmp (keys_of es) → IsStrictlySortedBy cmp (keys_of (insert_entry cmp es k v))
    unfolding IsStrictlySortedBy
    sorted_inserted [] sorted = (tt, tt)
    sorted_inserted (e ∷ es) sorted = by_order (cmp k e.0) refl (sorted_inserted es sorted.1)
      where
        by_order : (r : Ordering) → cmp k e.0 ≡ r → IsStrictlySortedBy cmp (keys_of (insert_entry cmp es k v)) → IsStrictlySortedBy cmp (keys_of (match_ordering r ((k, v) ∷ e ∷ es) ((e.0, v) ∷ es) (e ∷ insert_entry cmp es k v)))
        by_order Less is rest = ((is, all_above e.0 (keys_of es) is sorted.0), sorted)
        by_order Equal is rest = sorted
        by_order Greater is rest = (all_inserted (λ y. cmp e.0 y ≡ Less) es sorted.0 (o.antisymm e.0 k ∙ ap ordering_reverse is), rest)

-- a test that answers as another one does, from a state that stands for the other's
returns_as : {X P Q : Type 0} (R : P → X → Bool → P → Type 0) (S : Q → X → Bool → Q → Type 0) (φ : P → Q) → ((p : P) (x : X) (b : Bool) (p' : P) → R p x b p' → S (φ p) x b (φ p')) → (bs : List Bool) (xs : List X) (p q : P) → ReturnsInTurn R p bs xs q → ReturnsInTurn S (φ p) bs xs (φ q)
returns_as R S φ stands [] xs p q turns = ap φ turns
returns_as R S φ stands (b ∷ bs) [] p q turns = turns
returns_as R S φ stands (b ∷ bs) (x ∷ xs) p q turns = (φ turns.0, stands p x b turns.0 turns.1, returns_as R S φ stands bs xs turns.0 q turns.2)

pub filtered_as : {X P Q : Type 0} (R : P → X → Bool → P → Type 0) (S : Q → X → Bool → Q → Type 0) (φ : P → Q) → ((p : P) (x : X) (b : Bool) (p' : P) → R p x b p' → S (φ p) x b (φ p')) → (p : P) (xs ys : List X) → IsFiltered R p xs ys → IsFiltered S (φ p) xs ys
filtered_as R S φ stands p xs ys filtered = (filtered.0, φ filtered.1, filtered.2, returns_as R S φ stands filtered.0 xs p filtered.1 filtered.3, filtered.4)

module _ {K V : Type 0} where
  -- what holds of each key holds of those of the chosen pairs
  all_chosen : (P : K → Type 0) (bs : List Bool) (es : List (K × V)) → AllByRecursion P (keys_of es) → AllByRecursion P (keys_of (items_where_true bs es))
  all_chosen P [] es all = tt
  all_chosen P (b ∷ bs) [] all = tt
  all_chosen P (true ∷ bs) (e ∷ es) all = (all.0, all_chosen P bs es all.1)
  all_chosen P (false ∷ bs) (e ∷ es) all = all_chosen P bs es all.1

  pub sorted_chosen : (cmp : K → K → Ordering) (bs : List Bool) (es : List (K × V)) → IsStrictlySortedBy cmp (keys_of es) → IsStrictlySortedBy cmp (keys_of (items_where_true bs es))
  unfolding IsStrictlySortedBy
  sorted_chosen cmp [] es sorted = tt
  sorted_chosen cmp (b ∷ bs) [] sorted = tt
  sorted_chosen cmp (true ∷ bs) (e ∷ es) sorted = (all_chosen (λ y. cmp e.0 y ≡ Less) bs es sorted.0, sorted_chosen cmp bs es sorted.1)
  sorted_chosen cmp (false ∷ bs) (e ∷ es) sorted = sorted_chosen cmp bs es sorted.1
