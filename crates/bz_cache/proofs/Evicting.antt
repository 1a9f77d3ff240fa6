-- A cache stays consistent once a path is forgotten, and forgetting a path that isn't held changes
-- nothing.
use Rattle.std.proofs.Common.{◌≡◌, ℕ, Bool, true, false, not, ◌||◌, ◌&&◌, cond, T, List, [], ◌∷◌, Option, Some, None, is_some, IsSome, inl, inr, sym, ap, subst, ◌∙◌, refl}
use Rattle.std.specs.List.{list_any}
use Rattle.std.specs.Ordering.{nat_cmp, eq_by_cmp, is_eq, is_lt}
use Rattle.std.specs.Cmp.{IsTotalOrder, eq_by_cmp_equiv, Equal-is}
use Rattle.std.specs.Cmp.Lexicographic.{slice_cmp, nat_list_cmp_total}
use Rattle.std.specs.declared.cmp.Ordering.{Ordering}
use Rattle.std.specs.declared.cmp.Ordering.TheVariants.{Less, Equal, Greater}
use Rattle.std.specs.FinMap as map
use Rattle.std.specs.FinMap.{FinMap, IsAntisymmetric, find, is_sorted, get-entries, entries_sorted, get-retain_keys, same_map}
use Rattle.std.specs.FinMap.Entries.{below_all}
use Rattle.std.proofs.lemmas.Bool.{false≢true}
use Rattle.bz_base.specs.declared.error.Error.{Error}
use Rattle.bz_files.specs.declared.stamp.Stamp.{Stamp}
use Rattle.bz_cache.specs.Cache.{Cache, PathState, Kept, Paths, Consistent, names}
use Rattle.bz_cache.specs.Eviction.{is_named, evicted, evicts}
use Rattle.bz_cache.proofs.FiniteMaps.{remove_cases, remove_absent}
use Rattle.bz_cache.proofs.Naming.{or_cases, or_left, or_right, paths_apart}
use Rattle.bz_cache.proofs.Stamps.{stamp_total, stamps_apart}

-- both parts of a test that holds
pub both_hold : (a b : Bool) → T (a && b) → T a × T b
both_hold true b h = (tt, h)
both_hold false b h = absurd h

-- an order that is less doesn't tie
less_apart : (r : Ordering) → T (is_lt r) → is_eq r ≡ false
less_apart Less h = refl
less_apart Equal h = absurd h
less_apart Greater h = refl

module _ {K X : Type 0} {R : K → K → Ordering} (o : IsTotalOrder R) (apart : IsAntisymmetric R) where
  -- a key that is found is above those before it
  found_above : (k q : K) (x : X) (es : List (K × X)) → T (below_all R k es) → find R q es ≡ Some x → eq_by_cmp R q k ≡ false
  found_above k q x [] below found = absurd (false≢true (ap is_some found))
  found_above k q x (e ∷ es) below found = by_test (eq_by_cmp R q e.0) refl found (found_above k q x es (both_hold (is_lt (R k e.0)) (below_all R k es) below).1)
    where
      by_test : (b : Bool) → eq_by_cmp R q e.0 ≡ b → cond b (Some e.1) (find R q es) ≡ Some x → (find R q es ≡ Some x → eq_by_cmp R q k ≡ false) → eq_by_cmp R q k ≡ false
      by_test true same _ _ =
          let is : e.0 ≡ q = sym (apart q e.0 ((Equal-is (R q e.0)).0 same)) in
          (eq_by_cmp_equiv o).symm q k ∙ less_apart (R k q) (subst (λ (j : K). T (is_lt (R k j))) is (both_hold (is_lt (R k e.0)) (below_all R k es) below).0)
      by_test false differs later rest = rest later

  -- where an entry passes, its key is found with it
  find_passing : (p : K × X → Bool) (es : List (K × X)) → T (is_sorted R es) → list_any p es ≡ true → (q : K) × (x : X) × (find R q es ≡ Some x) × (p (q, x) ≡ true)
  find_passing p [] sorted passes = absurd (false≢true passes)
  find_passing p (e ∷ es) sorted passes = elim (or_cases (p e) (list_any p es) passes) [
    | inl here ↦ (e.0, e.1, ap (λ b. cond b (Some e.1) (find R e.0 es)) ((eq_by_cmp_equiv o).refl e.0), here)
    | inr later ↦
        let rest = find_passing p es (both_hold (below_all R e.0 es) (is_sorted R es) sorted).1 later in
        let above = found_above e.0 rest.0 rest.1 es (both_hold (below_all R e.0 es) (is_sorted R es) sorted).0 rest.2 in
        (rest.0, rest.1, ap (λ b. cond b (Some e.1) (find R rest.0 es)) above ∙ rest.2, rest.3)
  ]

  -- a map has an entry that passes
  pub get_passing : (p : K × X → Bool) (m : FinMap R X) → list_any p (map.entries m) ≡ true → (q : K) × (x : X) × (map.get m q ≡ Some x) × (p (q, x) ≡ true)
  get_passing p m passes =
      let there = find_passing p (map.entries m) (entries_sorted m) passes in
      (there.0, there.1, get-entries m there.0 ∙ there.2, there.3)

module _ {K X : Type 0} (R : K → K → Ordering) where
  -- an entry that is found passes where its value does
  passing_found : (p : X → Bool) (q : K) (x : X) (es : List (K × X)) → find R q es ≡ Some x → p x ≡ true → list_any (λ (e : K × X). p e.1) es ≡ true
  passing_found p q x [] found passes = absurd (false≢true (ap is_some found))
  passing_found p q x (e ∷ es) found passes = by_test (eq_by_cmp R q e.0) found (λ later. passing_found p q x es later passes)
    where
      by_test : (b : Bool) → cond b (Some e.1) (find R q es) ≡ Some x → (find R q es ≡ Some x → list_any (λ (e : K × X). p e.1) es ≡ true) → (p e.1 || list_any (λ (e : K × X). p e.1) es) ≡ true
      by_test true here _ =
          let is : x ≡ e.1 = cc here in
          or_left (p e.1) (list_any (λ (e : K × X). p e.1) es) (subst (λ (y : X). p y ≡ true) is passes)
      by_test false later rest = or_right (p e.1) (list_any (λ (e : K × X). p e.1) es) (rest later)

-- a stamp that a held path names is named
pub is_named-at : (paths : Paths) (q : List ℕ) (e : PathState) (s : Stamp) → map.get paths q ≡ Some e → names e s ≡ true → is_named paths s ≡ true
is_named-at paths q e s has named_s = passing_found (slice_cmp nat_cmp) (λ (x : PathState). names x s) q e (map.entries paths) (sym (get-entries paths q) ∙ has) named_s

-- a stamp that is named is named by a held path
pub named_by : (paths : Paths) (s : Stamp) → is_named paths s ≡ true → (q : List ℕ) × (e : PathState) × (map.get paths q ≡ Some e) × (names e s ≡ true)
named_by paths s named_s = get_passing nat_list_cmp_total paths_apart (λ (e : List ℕ × PathState). names e.1 s) paths named_s

-- what is kept of the versions whose stamps pass
pub retained : (kept : Kept) (p : Stamp → Bool) (s : Stamp) → map.get (map.retain_keys kept p) s ≡ cond (p s) (map.get kept s) None
retained kept p s = get-retain_keys kept p s (λ t tie. ap p (sym (stamps_apart s t tie)))

-- what is found among some of the versions is there, and its stamp passes
pub found_retained : (b : Bool) (o : Option (List ℕ)) → IsSome (cond b o None) → (b ≡ true) × IsSome o
found_retained true o there = (refl, there)
found_retained false o there = absurd (false≢true there)

-- what isn't there isn't kept either
never_kept : (b : Bool) → ◌≡◌ {A = Option (List ℕ)} (cond b None None) None
never_kept true = refl
never_kept false = refl

module _ (test : List ℕ → Option Error) (c : Cache) (p : List ℕ) (consistent : Consistent test c) where
  -- the paths that stay were held
  was_held : (q : List ℕ) (e : PathState) → map.get (map.remove c.paths p) q ≡ Some e → map.get c.paths q ≡ Some e
  was_held q e has = elim (remove_cases nat_list_cmp_total paths_apart c.paths p q) [
    | inl gone ↦ absurd (false≢true (ap is_some (sym gone.1 ∙ has)))
    | inr stays ↦ sym stays ∙ has
  ]

  pub consistent_evicted : Consistent test (evicted c p)
  consistent_evicted = record {
    needed = λ s there.
        named_by (map.remove c.paths p) s (found_retained (is_named (map.remove c.paths p) s) (map.get c.kept s) (sym (ap is_some (retained c.kept (is_named (map.remove c.paths p)) s)) ∙ there)).0;
    held = λ q e s has named_s.
        ap is_some (retained c.kept (is_named (map.remove c.paths p)) s ∙ ap (λ b. cond b (map.get c.kept s) None) (is_named-at (map.remove c.paths p) q e s has named_s)) ∙ consistent.held q e s (was_held q e has) named_s;
    formed = λ s b has.
        let named_s = (found_retained (is_named (map.remove c.paths p) s) (map.get c.kept s) (ap is_some (sym (retained c.kept (is_named (map.remove c.paths p)) s) ∙ has))).0 in
        consistent.formed s b (sym (retained c.kept (is_named (map.remove c.paths p)) s ∙ ap (λ b. cond b (map.get c.kept s) None) named_s) ∙ has);
  }

  module _ (unheld : map.get c.paths p ≡ None) where
    -- the paths stay
    paths_stay : map.remove c.paths p ≡ c.paths
    paths_stay = remove_absent nat_list_cmp_total paths_apart c.paths p unheld

    -- each kept stamp is named
    still_named : (s : Stamp) → IsSome (map.get c.kept s) → is_named c.paths s ≡ true
    still_named s there = let old = consistent.needed s there in is_named-at c.paths old.0 old.1 s old.2 old.3

    -- so each stays
    kept_stays : map.retain_keys c.kept (is_named c.paths) ≡ c.kept
    kept_stays = same_map stamp_total stamps_apart _ _ (λ s. retained c.kept (is_named c.paths) s ∙ by_kept s (map.get c.kept s) refl)
      where
        by_kept : (s : Stamp) (o : Option (List ℕ)) → map.get c.kept s ≡ o → cond (is_named c.paths s) o None ≡ o
        by_kept s None is = never_kept (is_named c.paths s)
        by_kept s (Some v) is = ap (λ b. cond b (Some v) None) (still_named s (ap is_some is))

    -- taking out a path that isn't held changes nothing
    pub stays_unheld : record { reload = c.reload; kept = c.kept; paths = map.remove c.paths p } ≡ c
    stays_unheld = ap (λ (ps : Paths). record { reload = c.reload; kept = c.kept; paths = ps }) paths_stay

    -- nor does forgetting it
    pub evicted_unheld : evicted c p ≡ c
    evicted_unheld = ap (λ (ps : Paths). record { reload = c.reload; kept = map.retain_keys c.kept (is_named ps); paths = ps }) paths_stay ∙ ap (λ (k : Kept). record { reload = c.reload; kept = k; paths = c.paths }) kept_stays

    -- and drops nothing
    pub evicts_unheld : evicts c p ≡ false
    evicts_unheld = ap (λ (ps : Paths). list_any (λ (e : Stamp × List ℕ). not (is_named ps e.0)) (map.entries c.kept)) paths_stay ∙ by_any (list_any (λ (e : Stamp × List ℕ). not (is_named c.paths e.0)) (map.entries c.kept)) refl
      where
        by_any : (b : Bool) → list_any (λ (e : Stamp × List ℕ). not (is_named c.paths e.0)) (map.entries c.kept) ≡ b → b ≡ false
        by_any false is = refl
        by_any true is =
            let there = get_passing stamp_total stamps_apart (λ (e : Stamp × List ℕ). not (is_named c.paths e.0)) c.kept is in
            absurd (false≢true (sym (ap not (still_named there.0 (ap is_some there.2))) ∙ there.3))
