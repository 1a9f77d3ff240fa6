-- How many paths name a stamp, after an edit of the paths.
use Rattle.std.proofs.Common.{◌≡◌, ℕ, suc, ◌+◌, ◌≤◌, Bool, true, false, not, ◌||◌, cond, T, ltb, List, [], ◌∷◌, length, filter, Some, None, sym, ap, ◌∙◌, refl, arith}
use Rattle.std.proofs.lemmas.Bool.{lt-ltb, false_from_ne_true}
use Rattle.std.proofs.lemmas.Bool.Decides.{nat_tests}
use Rattle.std.proofs.lemmas.List.Filters.{length-filter_both}
use Rattle.std.specs.List.{list_any}
use Rattle.std.specs.Option.{option_map_or}
use Rattle.std.specs.Ordering.{is_eq, is_lt}
use Rattle.std.specs.Cmp.{IsTotalOrder}
use Rattle.std.specs.Cmp.Lexicographic.{nat_list_cmp_total}
use Rattle.std.specs.declared.cmp.Ordering.{Ordering}
use Rattle.std.specs.declared.cmp.Ordering.TheVariants.{Less, Equal, Greater}
use Rattle.std.specs.FinMap as map
use Rattle.std.specs.FinMap.{FinMap, IsAntisymmetric, find, put, is_sorted, get-entries, get-retain_keys, len-entries, entries-insert, entries_sorted}
use Rattle.std.specs.FinMap.Entries.{below_all, by_order, where_key, find-where_key, is_sorted-where_key, same_entries}
use Rattle.bz_files.specs.declared.stamp.Stamp.{Stamp}
use Rattle.bz_cache.specs.Cache.{PathState, Paths, names, stamp_eq}
use Rattle.bz_cache.specs.Counts.{names_at, naming_path_count}
use Rattle.bz_cache.specs.Eviction.{is_named}
use Rattle.bz_cache.specs.Look.{moved}
use Rattle.bz_cache.proofs.FiniteMaps.{insert_removed, get_removed}
use Rattle.bz_cache.proofs.Evicting.{both_hold, named_by}
use Rattle.bz_cache.proofs.Naming.{paths_apart, moved_is}

-- 1 where the test holds
abbrev pub one : Bool → ℕ
one b = cond b 1 0

-- how many pass, with one element more
length-filter_cons : {A : Type 0} (p : A → Bool) (x : A) (xs : List A) → length (filter p (x ∷ xs)) ≡ one (p x) + length (filter p xs)
length-filter_cons p x xs = by_test (p x)
  where
    by_test : (b : Bool) → length (cond b (x ∷ filter p xs) (filter p xs)) ≡ one b + length (filter p xs)
    by_test true = omega arith
    by_test false = omega arith

-- some pass exactly where their number isn't 0
any_passing : {A : Type 0} (p : A → Bool) (xs : List A) → list_any p xs ≡ ltb 0 (length (filter p xs))
any_passing p [] = refl
any_passing p (x ∷ xs) = by_test (p x) (any_passing p xs)
  where
    by_test : (b : Bool) → list_any p xs ≡ ltb 0 (length (filter p xs)) → (b || list_any p xs) ≡ ltb 0 (length (cond b (x ∷ filter p xs) (filter p xs)))
    by_test true rest = sym (lt-ltb 0 (suc (length (filter p xs))) (omega arith))
    by_test false rest = rest

-- fewer pass exactly where one doesn't
fewer_pass : {A : Type 0} (p : A → Bool) (xs : List A) → ltb (length (filter p xs)) (length xs) ≡ list_any (λ x. not (p x)) xs
fewer_pass p xs =
    let both : length (filter p xs) + length (filter (λ x. not (p x)) xs) ≡ length xs = length-filter_both p (λ x. not (p x)) (λ _. refl) xs in
    let compared : ltb (length (filter p xs)) (length xs) ≡ ltb 0 (length (filter (λ x. not (p x)) xs)) = grind (arith, nat_tests) in
    compared ∙ sym (any_passing (λ x. not (p x)) xs)

-- an order that is less
is_less : (r : Ordering) → T (is_lt r) → r ≡ Less
is_less Less h = refl
is_less Equal h = absurd h
is_less Greater h = absurd h

module _ {K X : Type 0} {R : K → K → Ordering} (o : IsTotalOrder R) where
  -- a key below all others isn't found
  find_below : (k q : K) (es : List (K × X)) → R k q ≡ Less → T (below_all R q es) → find R k es ≡ None
  find_below k q [] less below = refl
  find_below k q (e ∷ es) less below =
      let both = both_hold (is_lt (R q e.0)) (below_all R q es) below in
      ap (λ r. cond (is_eq r) (Some e.1) (find R k es)) (o.trans k q e.0 less (is_less (R q e.0) both.0)) ∙ find_below k q es less both.1

  module _ (p : X → Bool) where
    -- how many values pass
    abbrev passing : List (K × X) → ℕ
    passing es = length (filter (λ (e : K × X). p e.1) es)

    -- a value that is put in counts in place of the one at its key
    passing_put : (k : K) (v : X) (es : List (K × X)) → T (is_sorted R es) → passing (put R k v es) + one (option_map_or p (find R k es) false) ≡ passing es + one (p v)
    passing_put k v [] sorted = omega (arith, length-filter_cons (λ (e : K × X). p e.1) (k, v) [])
    passing_put k v (e ∷ es) sorted =
        let parts = both_hold (below_all R e.0 es) (is_sorted R es) sorted in
        by_test (R k e.0) refl parts.0 (passing_put k v es parts.1)
      where
        by_test : (r : Ordering) → R k e.0 ≡ r → T (below_all R e.0 es) → passing (put R k v es) + one (option_map_or p (find R k es) false) ≡ passing es + one (p v) →
            passing (by_order r ((k, v) ∷ e ∷ es) ((e.0, v) ∷ es) (e ∷ put R k v es)) + one (option_map_or p (cond (is_eq r) (Some e.1) (find R k es)) false) ≡ passing (e ∷ es) + one (p v)
        by_test Less is below rest = rw (find_below k e.0 es is below) (omega (arith, length-filter_cons (λ (e : K × X). p e.1) (k, v) (e ∷ es)))
        by_test Equal is below rest = omega (arith, length-filter_cons (λ (e : K × X). p e.1) (e.0, v) es, length-filter_cons (λ (e : K × X). p e.1) e es)
        by_test Greater is below rest = omega (arith, length-filter_cons (λ (e : K × X). p e.1) e (put R k v es), length-filter_cons (λ (e : K × X). p e.1) e es)

    passing_insert : (m : FinMap R X) (k : K) (v : X) → passing (map.entries (map.insert m k v)) + one (option_map_or p (map.get m k) false) ≡ passing (map.entries m) + one (p v)
    passing_insert m k v = rw (entries-insert o m k v, get-entries m k) (passing_put k v (map.entries m) (entries_sorted m))

  module _ (apart : IsAntisymmetric R) (m : FinMap R X) (p : K → Bool) where
    -- the entries whose keys pass
    entries_retained : map.entries (map.retain_keys m p) ≡ where_key R p (map.entries m)
    entries_retained = same_entries R o apart _ _ (entries_sorted (map.retain_keys m p)) (is_sorted-where_key R p (map.entries m) (entries_sorted m)) (λ q.
        let alike : (x : K) → R q x ≡ Equal → p x ≡ p q = λ x tie. ap p (sym (apart q x tie)) in
        sym (get-entries (map.retain_keys m p) q) ∙ get-retain_keys m p q alike ∙ ap (λ v. cond (p q) v None) (get-entries m q) ∙ sym (find-where_key R p q alike (map.entries m)))

    -- there are fewer exactly where one doesn't
    pub fewer_retained : ltb (map.len (map.retain_keys m p)) (map.len m) ≡ list_any (λ e. not (p e.0)) (map.entries m)
    fewer_retained = rw (len-entries (map.retain_keys m p), len-entries m, entries_retained) (fewer_pass (λ (e : K × X). p e.0) (map.entries m))

module _ (paths : Paths) (s : Stamp) where
  -- a stamp is named exactly where the number of paths that name it isn't 0
  pub is_named-counted : is_named paths s ≡ ltb 0 (naming_path_count paths s)
  is_named-counted = any_passing (λ (e : List ℕ × PathState). names e.1 s) (map.entries paths)

  -- no more paths name a stamp than are held
  pub naming-bound : naming_path_count paths s ≤ map.len paths
  naming-bound = omega (arith, len-entries paths, length-filter_both (λ (e : List ℕ × PathState). names e.1 s) (λ e. not (names e.1 s)) (λ _. refl) (map.entries paths))

  -- a stamp that no path names
  pub naming-none : ((q : List ℕ) (e : PathState) → map.get paths q ≡ Some e → names e s ≡ true → ⊥) → naming_path_count paths s ≡ 0
  naming-none never =
      let unnamed : is_named paths s ≡ false = false_from_ne_true (is_named paths s) (λ named_s. let by = named_by paths s named_s in never by.0 by.1 by.2 by.3) in
      let none : ltb 0 (naming_path_count paths s) ≡ false = sym is_named-counted ∙ unnamed in
      grind (arith, nat_tests)

  -- a path that is put in counts in place of what it was
  pub naming-insert : (p : List ℕ) (e : PathState) → naming_path_count (map.insert paths p e) s + one (names_at (map.get paths p) s) ≡ naming_path_count paths s + one (names e s)
  naming-insert p e = passing_insert nat_list_cmp_total (λ (x : PathState). names x s) paths p e

  -- a path that is seen with a stamp names that one besides
  pub naming-moved : (p : List ℕ) (t : Stamp) → naming_path_count (map.insert paths p (moved t (map.get paths p))) s + one (names_at (map.get paths p) s) ≡ naming_path_count paths s + one (names_at (map.get paths p) s || stamp_eq t s)
  naming-moved p t = naming-insert p (moved t (map.get paths p)) ∙ ap (λ b. naming_path_count paths s + one b) (moved_is t (map.get paths p) s)

-- a path that is taken out counts no more
pub naming-remove : (paths : Paths) (s : Stamp) (p : List ℕ) (e : PathState) → map.get paths p ≡ Some e → naming_path_count paths s ≡ naming_path_count (map.remove paths p) s + one (names e s)
naming-remove paths s p e held =
    let back : map.insert (map.remove paths p) p e ≡ paths = insert_removed nat_list_cmp_total paths_apart paths p e held in
    let gone : map.get (map.remove paths p) p ≡ None = get_removed nat_list_cmp_total paths_apart paths p in
    let again : naming_path_count (map.insert (map.remove paths p) p e) s + one (names_at (map.get (map.remove paths p) p) s) ≡ naming_path_count (map.remove paths p) s + one (names e s) = naming-insert (map.remove paths p) s p e in
    let plain = rw (back, gone) at again in
    omega arith
