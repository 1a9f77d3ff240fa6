-- Where a key is among pairs in the order of their keys, or where it would go.
use Rattle.std.proofs.Common.{◌≡◌, ℕ, zero, suc, ◌+◌, ◌<◌, ◌≤◌, true, false, cond, List, [], ◌∷◌, map, length, get_or, set, Option, option_map, Some, Result, Ok, Err, IfOk, IfErr, sym, ap, ◌∙◌, refl, arith}
use Rattle.std.specs.List.{AllWithin, HoldsAt, insert, slice_get}
use Rattle.std.specs.List.Sorted.{IsStrictlySortedBy, IsNonDecreasingBy, IsSearchInRange, IsBinarySearchResult}
use Rattle.std.specs.Cmp.{IsTotalOrder}
use Rattle.std.specs.Map.{keys_of, values_of, lookup, set_value, remove_entry}
use Rattle.std.specs.Option.{option_map_or}
use Rattle.std.proofs.lemmas.List.Edits.{length-insert}
use Rattle.std.specs.BTreeMap.{is_at, insert_entry}
use Rattle.std.specs.Ordering.{is_eq, is_lt, ordering_index, ordering_reverse, match_ordering}
use Rattle.std.specs.declared.cmp.Ordering.{Ordering}
use Rattle.std.specs.declared.cmp.Ordering.TheVariants.{Less, Equal, Greater}
use Rattle.std.proofs.Math.ListN.{get_or-map}
use Rattle.std.proofs.lemmas.List.Sorted.{searchable_from_sorted}
use Rattle.std.proofs.lemmas.Option.{get_or_from_slice_get}
use Rattle.std.proofs.lemmas.Map.Entries.{length-keys_of}
use Rattle.std.proofs.lemmas.Map.Keys.{Less-from_sorted, sorted_tail}
use Rattle.bz_cache.specs.InsertMap.{with_absent, with_value, IsKeyAt, IsGapFor}

-- a comparison the other way round
flipped : {K : Type 0} {cmp : K → K → Ordering} → IsTotalOrder cmp → (a b : K) (r : Ordering) → cmp a b ≡ r → cmp b a ≡ ordering_reverse r
flipped o a b r is = o.antisymm b a ∙ ap ordering_reverse is

module _ {K V : Type 0} {cmp : K → K → Ordering} (o : IsTotalOrder cmp) (k : K) where
  -- the key at a place is below the one at a later place
  key_below : (es : List (K × V)) (i j : ℕ) (d : K × V) → IsStrictlySortedBy cmp (keys_of es) → i < j → j < length es → cmp (get_or es i d).0 (get_or es j d).0 ≡ Less
  key_below es i j d sorted lt in_range =
      ap (λ a. cmp a (get_or es j d).0) (sym (get_or-map (λ (e : K × V). e.0) es i d))
      ∙ ap (λ b. cmp (get_or (keys_of es) i d.0) b) (sym (get_or-map (λ (e : K × V). e.0) es j d))
      ∙ Less-from_sorted cmp (keys_of es) i j d.0 sorted lt (omega (arith, length-keys_of es))

  -- the comparisons with k rise along the pairs, as a binary search asks
  rises : (es : List (K × V)) → IsStrictlySortedBy cmp (keys_of es) → IsNonDecreasingBy (λ (e : K × V). ordering_index (cmp e.0 k)) es
  rises es sorted = searchable_from_sorted o (λ (e : K × V). e.0) es k (λ i d low in_range. ap is_lt (flipped o _ _ Less (key_below es i (i + 1) d sorted (omega arith) in_range)))

  -- a key at a place
  found_at : (es : List (K × V)) (i : ℕ) → IsStrictlySortedBy cmp (keys_of es) → i < length es → HoldsAt (λ (e : K × V). cmp e.0 k ≡ Equal) es i → IsKeyAt cmp es k i
  found_at [] i sorted in_range ties = absurd (omega arith)
  found_at (e ∷ es) zero sorted in_range ties =
      let tie : is_eq (cmp k e.0) ≡ true = ap is_eq (flipped o e.0 k Equal (ties e)) in
      record {
        entry = e;
        in_range = in_range;
        there = refl;
        value = ap (λ b. cond b (Some e.1) (lookup (is_at (cmp k)) es)) tie;
        removed = ap (λ b. cond b es (e ∷ remove_entry (is_at (cmp k)) es)) tie;
        replaced = λ v. ap (λ b. cond b ((e.0, v) ∷ es) (e ∷ set_value (is_at (cmp k)) es v)) tie;
      }
  found_at (e ∷ es) (suc i) sorted in_range ties =
      let rest = found_at es i (sorted_tail cmp e.0 (keys_of es) sorted) (omega arith) ties in
      let below = key_below (e ∷ es) zero (suc i) e sorted (omega arith) in_range in
      let greater : cmp k e.0 ≡ Greater = o.congr k (get_or es i e).0 e.0 (flipped o _ _ Equal (ties e)) ∙ flipped o _ _ Less below in
      let differs : is_eq (cmp k e.0) ≡ false = ap is_eq greater in
      record {
        entry = rest.entry;
        in_range = in_range;
        there = rest.there;
        value = ap (λ b. cond b (Some e.1) (lookup (is_at (cmp k)) es)) differs ∙ rest.value;
        removed = ap (λ b. cond b es (e ∷ remove_entry (is_at (cmp k)) es)) differs ∙ ap (λ xs. e ∷ xs) rest.removed;
        replaced = λ v. ap (λ b. cond b ((e.0, v) ∷ es) (e ∷ set_value (is_at (cmp k)) es v)) differs ∙ ap (λ xs. e ∷ xs) (rest.replaced v);
      }

  -- a place where the key would go
  gap_at : (es : List (K × V)) (i : ℕ) → i ≤ length es → AllWithin (λ (e : K × V). cmp e.0 k ≡ Less) es 0 i → AllWithin (λ (e : K × V). cmp e.0 k ≡ Greater) es i (length es) → IsGapFor cmp es k i
  gap_at [] zero in_range before after = record { in_range = in_range; absent = refl; kept = refl; not_replaced = λ v. refl; inserted = λ v. refl }
  gap_at [] (suc i) in_range before after = absurd (omega arith)
  gap_at (e ∷ es) zero in_range before after =
      let rest = gap_at es zero (omega arith) (λ j d low high. absurd (omega arith)) (λ j d low high. after (suc j) d (omega arith) (omega arith)) in
      let less : cmp k e.0 ≡ Less = flipped o e.0 k Greater (after zero e (omega arith) (omega arith)) in
      let differs : is_eq (cmp k e.0) ≡ false = ap is_eq less in
      record {
        in_range = in_range;
        absent = ap (λ b. cond b (Some e.1) (lookup (is_at (cmp k)) es)) differs ∙ rest.absent;
        kept = ap (λ b. cond b es (e ∷ remove_entry (is_at (cmp k)) es)) differs ∙ ap (λ xs. e ∷ xs) rest.kept;
        not_replaced = λ v. ap (λ b. cond b ((e.0, v) ∷ es) (e ∷ set_value (is_at (cmp k)) es v)) differs ∙ ap (λ xs. e ∷ xs) (rest.not_replaced v);
        inserted = λ v. ap (λ r. match_ordering r ((k, v) ∷ e ∷ es) ((e.0, v) ∷ es) (e ∷ insert_entry cmp es k v)) less;
      }
  gap_at (e ∷ es) (suc i) in_range before after =
      let rest = gap_at es i (omega arith) (λ j d low high. before (suc j) d (omega arith) (omega arith)) (λ j d low high. after (suc j) d (omega arith) (omega arith)) in
      let greater : cmp k e.0 ≡ Greater = flipped o e.0 k Less (before zero e (omega arith) (omega arith)) in
      let differs : is_eq (cmp k e.0) ≡ false = ap is_eq greater in
      record {
        in_range = in_range;
        absent = ap (λ b. cond b (Some e.1) (lookup (is_at (cmp k)) es)) differs ∙ rest.absent;
        kept = ap (λ b. cond b es (e ∷ remove_entry (is_at (cmp k)) es)) differs ∙ ap (λ xs. e ∷ xs) rest.kept;
        not_replaced = λ v. ap (λ b. cond b ((e.0, v) ∷ es) (e ∷ set_value (is_at (cmp k)) es v)) differs ∙ ap (λ xs. e ∷ xs) (rest.not_replaced v);
        inserted = λ v. ap (λ r. match_ordering r ((k, v) ∷ e ∷ es) ((e.0, v) ∷ es) (e ∷ insert_entry cmp es k v)) greater ∙ ap (λ xs. e ∷ xs) (rest.inserted v);
      }

  -- a binary search ends at the key, or at the place where it would go
  pub searched-found : (es : List (K × V)) → IsStrictlySortedBy cmp (keys_of es) → (r : Result ℕ ℕ) → IsSearchInRange r (length es) → IsBinarySearchResult (λ (e : K × V). cmp e.0 k) es r → IfOk r (IsKeyAt cmp es k)
  searched-found es sorted (Ok i) in_range ties = found_at es i sorted in_range ties
  searched-found es sorted (Err i) in_range parted = tt

  pub searched-absent : (es : List (K × V)) → IsStrictlySortedBy cmp (keys_of es) → (r : Result ℕ ℕ) → IsSearchInRange r (length es) → IsBinarySearchResult (λ (e : K × V). cmp e.0 k) es r → IfErr r (IsGapFor cmp es k)
  searched-absent es sorted (Ok i) in_range ties = tt
  searched-absent es sorted (Err i) in_range parted = let parts = parted (rises es sorted) in gap_at es i in_range parts.0 parts.1

-- the element at a place, after a function
slice_get-map : {A B : Type 0} (h : A → B) (xs : List A) (i : ℕ) → slice_get (map h xs) i ≡ option_map h (slice_get xs i)
slice_get-map h [] i = refl
slice_get-map h (x ∷ xs) zero = refl
slice_get-map h (x ∷ xs) (suc i) = slice_get-map h xs i

-- the element that was put in at a place
slice_get-insert : {A : Type 0} (x : A) (xs : List A) (i : ℕ) → i ≤ length xs → slice_get (insert xs i x) i ≡ Some x
slice_get-insert x [] zero in_range = refl
slice_get-insert x [] (suc i) in_range = absurd (omega arith)
slice_get-insert x (y ∷ xs) zero in_range = refl
slice_get-insert x (y ∷ xs) (suc i) in_range = slice_get-insert x xs i (omega arith)

module _ {K V : Type 0} {cmp : K → K → Ordering} (es : List (K × V)) (k : K) (i : ℕ) where
  -- where the key is there, the pairs stay
  pub with_found : IsKeyAt cmp es k i → (v : V) → es ≡ with_absent cmp es k v
  with_found found v = sym (ap (λ (o : Option V). option_map_or (λ (x : V). es) o (insert_entry cmp es k v)) found.value)

  -- its value is at its place
  pub value_found : (found : IsKeyAt cmp es k i) → slice_get (values_of es) i ≡ Some found.entry.1
  value_found found = slice_get-map (λ (e : K × V). e.1) es i ∙ ap (option_map (λ (e : K × V). e.1)) found.there

  -- the pair that is found there is its own
  pub pair_found : (found : IsKeyAt cmp es k i) (e : K × V) → e ≡ get_or es i e → e ≡ found.entry
  pair_found found e is = is ∙ get_or_from_slice_get es i found.entry e found.there

  -- so another value in it is that of the key
  pub with_replaced : IsKeyAt cmp es k i → (e : K × V) → e ≡ get_or es i e → (v w : V) → w ≡ v → set es i (e.0, w) ≡ with_value cmp es k v
  with_replaced found e is v w same =
      ap (λ (p : K × V). set es i (p.0, w)) (pair_found found e is) ∙ ap (λ (x : V). set es i (found.entry.0, x)) same ∙ sym (found.replaced v)

  -- where it isn't, its pair goes to the place
  pub with_gap : IsGapFor cmp es k i → (v : V) → insert es i (k, v) ≡ with_absent cmp es k v
  with_gap gap v = sym (ap (λ (o : Option V). option_map_or (λ (x : V). es) o (insert_entry cmp es k v)) gap.absent ∙ gap.inserted v)

  -- and its value is there then
  pub value_inserted : IsGapFor cmp es k i → (v : V) → slice_get (values_of (insert es i (k, v))) i ≡ Some v
  value_inserted gap v = slice_get-map (λ (e : K × V). e.1) (insert es i (k, v)) i ∙ ap (option_map (λ (e : K × V). e.1)) (slice_get-insert (k, v) es i gap.in_range)

  pub length_inserted : IsGapFor cmp es k i → (v : V) → i < length (insert es i (k, v))
  length_inserted gap v = omega (arith, length-insert es i (k, v) gap.in_range, gap.in_range)
