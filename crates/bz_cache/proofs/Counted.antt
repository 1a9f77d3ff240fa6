-- The counts of a cache are those of its paths after each change.
use Rattle.std.proofs.Common.{◌≡◌, ℕ, ◌+◌, ◌-◌, ◌<◌, ◌≤◌, Bool, true, false, not, ◌||◌, cond, ltb, leb, List, Option, Some, None, option_map, is_some, inl, inr, sym, ap, subst, ◌∙◌, refl, arith}
use Rattle.std.proofs.lemmas.Bool.{lt-ltb, false≢true, false_from_ne_true}
use Rattle.std.proofs.lemmas.Bool.Decides.{nat_tests}
use Rattle.std.specs.Option.{option_map_or}
use Rattle.std.specs.FinMap as map
use Rattle.std.specs.FinMap.{same_map, get-empty}
use Rattle.bz_base.specs.declared.error.Error.{Error}
use Rattle.bz_files.specs.declared.stamp.Stamp.{Stamp}
use Rattle.bz_cache.specs.Cache.{Cache, PathState, Kept, Paths, Consistent, names, stamp_eq, stamp_cmp, with_pinned}
use Rattle.bz_cache.specs.Counts.{Counted, CountedVersions, HasCounts, names_at, naming_path_count, one_more, one_fewer, released}
use Rattle.bz_cache.specs.Eviction.{is_named, evicted, evicts}
use Rattle.bz_cache.specs.Look.{moved}
use Rattle.bz_cache.proofs.FiniteMaps.{insert_cases, get_inserted}
use Rattle.bz_cache.proofs.Evicting.{is_named-at, retained, consistent_evicted}
use Rattle.bz_cache.proofs.Counting.{one, is_named-counted, naming-none, naming-bound, naming-insert, naming-moved, naming-remove, fewer_retained}
use Rattle.bz_cache.proofs.Stamps.{stamp_total, stamps_apart, same_stamp, stamp_eq_self}

-- a version that was kept, with a count: with none it is kept no more
abbrev with_count : Option (List ℕ) → ℕ → Option Counted
with_count None n = None
with_count (Some b) n = cond (ltb 0 n) (Some (record { bytes = b; paths = n })) None

-- a path fewer
released_count : (b : Bool) (o : Option (List ℕ)) (n m : ℕ) → m ≡ n + one b → released b (with_count o m) ≡ with_count o n
released_count false o n m is = ap (with_count o) (omega arith)
released_count true None n m is = refl
released_count true (Some b) n m is =
    let above : ltb 0 m ≡ true = lt-ltb 0 m (omega arith) in
    let fewer : m - 1 ≡ n = omega arith in
    let turned : leb m 1 ≡ not (ltb 0 n) = grind (arith, nat_tests) in
    rw (above, turned) (by_test (ltb 0 n) fewer)
  where
    by_test : (t : Bool) → m - 1 ≡ n → cond (not t) None (Some (one_fewer (record { bytes = b; paths = m }))) ≡ cond t (Some (record { bytes = b; paths = n })) None
    by_test true fewer = ap (λ (k : ℕ). Some (record { bytes = b; paths = k })) fewer
    by_test false fewer = refl

-- the bytes beside a count
bytes_counted : (o : Option (List ℕ)) (n : ℕ) → option_map (λ (v : Counted). v.bytes) (with_count o n) ≡ cond (ltb 0 n) o None
bytes_counted None n = by_test (ltb 0 n)
  where
    by_test : (t : Bool) → ◌≡◌ {A = Option (List ℕ)} None (cond t None None)
    by_test true = refl
    by_test false = refl
bytes_counted (Some b) n = by_test (ltb 0 n)
  where
    by_test : (t : Bool) → option_map (λ (v : Counted). v.bytes) (cond t (Some (record { bytes = b; paths = n })) None) ≡ cond t (Some b) None
    by_test true = refl
    by_test false = refl

-- the count that a version was given
count_given : (o : Option (List ℕ)) (n : ℕ) (v : Counted) → with_count o n ≡ Some v → v.paths ≡ n
count_given None n v is = cc is
count_given (Some b) n v is = by_test (ltb 0 n) is
  where
    by_test : (t : Bool) → cond t (Some (record { bytes = b; paths = n })) None ≡ Some v → v.paths ≡ n
    by_test true is = let same : record { bytes = b; paths = n } ≡ v = cc is in ap (λ (u : Counted). u.paths) (sym same)
    by_test false is = cc is

-- the bytes of the kept versions are those beside the counts
abbrev pub Beside : Kept → CountedVersions → Type 0
Beside kept versions = (s : Stamp) → map.get kept s ≡ option_map (λ (v : Counted). v.bytes) (map.get versions s)

-- a stamp that isn't kept has no count, and no path names it
pub uncounted : (kept : Kept) (versions : CountedVersions) → Beside kept versions → (s : Stamp) → map.get kept s ≡ None → map.get versions s ≡ None
uncounted kept versions beside s absent = by_version (map.get versions s) (sym (beside s) ∙ absent)
  where
    by_version : (o : Option Counted) → option_map (λ (v : Counted). v.bytes) o ≡ None → o ≡ None
    by_version None is = refl
    by_version (Some v) is = cc is

pub never_named : (test : List ℕ → Option Error) (c : Cache) → Consistent test c → (s : Stamp) → map.get c.kept s ≡ None → (q : List ℕ) (e : PathState) → map.get c.paths q ≡ Some e → names e s ≡ true → ⊥
never_named test c consistent s absent q e held named_s = false≢true (sym (ap is_some absent) ∙ consistent.held q e s held named_s)

module _ (test : List ℕ → Option Error) (c : Cache) (versions : CountedVersions) (beside : Beside c.kept versions) (consistent : Consistent test c) (counts : HasCounts c.paths versions) where
  -- each kept version has its count, which isn't 0
  counted_as : (s : Stamp) → map.get versions s ≡ with_count (map.get c.kept s) (naming_path_count c.paths s)
  counted_as s = by_version (map.get versions s) refl
    where
      by_version : (o : Option Counted) → map.get versions s ≡ o → o ≡ with_count (map.get c.kept s) (naming_path_count c.paths s)
      by_version None is =
          let absent : map.get c.kept s ≡ None = beside s ∙ ap (option_map (λ (v : Counted). v.bytes)) is in
          rw absent refl
      by_version (Some v) is =
          let there : map.get c.kept s ≡ Some v.bytes = beside s ∙ ap (option_map (λ (v : Counted). v.bytes)) is in
          let old = consistent.needed s (ap is_some there) in
          let above : ltb 0 (naming_path_count c.paths s) ≡ true = sym (is_named-counted c.paths s) ∙ is_named-at c.paths old.0 old.1 s old.2 old.3 in
          rw (there, above, ← counts s v is) refl

  module _ (p : List ℕ) (e : PathState) (held : map.get c.paths p ≡ Some e) (left : CountedVersions) (gone : (s : Stamp) → map.get left s ≡ released (names e s) (map.get versions s)) where
    -- where a path is gone, each version has the count of the paths that are left
    left_as : (s : Stamp) → map.get left s ≡ with_count (map.get c.kept s) (naming_path_count (map.remove c.paths p) s)
    left_as s = gone s ∙ ap (released (names e s)) (counted_as s) ∙ released_count (names e s) (map.get c.kept s) _ _ (naming-remove c.paths s p e held)

    counts_left : HasCounts (map.remove c.paths p) left
    counts_left s v is = count_given (map.get c.kept s) (naming_path_count (map.remove c.paths p) s) v (sym (left_as s) ∙ is)

    module _ (kept : Kept) (beside_left : Beside kept left) (paths : Paths) (removed : paths ≡ map.remove c.paths p) where
      -- those are kept that one of these names
      kept_left : kept ≡ map.retain_keys c.kept (is_named (map.remove c.paths p))
      kept_left = same_map stamp_total stamps_apart _ _ (λ s.
          beside_left s
          ∙ ap (option_map (λ (v : Counted). v.bytes)) (left_as s)
          ∙ bytes_counted (map.get c.kept s) (naming_path_count (map.remove c.paths p) s)
          ∙ ap (λ b. cond b (map.get c.kept s) None) (sym (is_named-counted (map.remove c.paths p) s))
          ∙ sym (retained c.kept (is_named (map.remove c.paths p)) s))

      -- so the cache is the one that is left, and its counts are right
      pub left_evicted : record { reload = c.reload; kept = kept; paths = paths } ≡ evicted c p
      left_evicted = rw (kept_left, removed)

      pub invariant_left : Consistent test (record { reload = c.reload; kept = kept; paths = paths }) × HasCounts paths left
      invariant_left = (rw left_evicted (consistent_evicted test c p consistent), rw removed counts_left)

      -- fewer versions are kept exactly where one was dropped
      pub fewer_left : ltb (map.len kept) (map.len c.kept) ≡ evicts c p
      fewer_left = rw kept_left (fewer_retained stamp_total stamps_apart c.kept (is_named (map.remove c.paths p)))

-- counts where a path is put in that names a stamp besides
module _ (paths : Paths) (versions : CountedVersions) (counts : HasCounts paths versions) (p : List ℕ) (s : Stamp) (after : Paths) (placed : after ≡ map.insert paths p (moved s (map.get paths p))) where
  -- how many paths name each stamp then
  naming_after : (t : Stamp) → naming_path_count after t + one (names_at (map.get paths p) t) ≡ naming_path_count paths t + one (names_at (map.get paths p) t || stamp_eq s t)
  naming_after t = rw placed (naming-moved paths t p s)

  -- as many, where the stamp is another
  same_after : (t : Stamp) → stamp_eq s t ≡ false → naming_path_count after t ≡ naming_path_count paths t
  same_after t other = by_test (names_at (map.get paths p) t) (rw other at (naming_after t))
    where
      by_test : (a : Bool) → naming_path_count after t + one a ≡ naming_path_count paths t + one (a || false) → naming_path_count after t ≡ naming_path_count paths t
      by_test true is = omega arith
      by_test false is = omega arith

  -- at the stamp, as many where the path named it, and else one more
  known_after : names_at (map.get paths p) s ≡ true → naming_path_count after s ≡ naming_path_count paths s
  known_after known = let is = rw known at (naming_after s) in omega arith

  new_after : names_at (map.get paths p) s ≡ false → naming_path_count after s ≡ naming_path_count paths s + 1
  new_after new = let is = rw (new, stamp_eq_self s) at (naming_after s) in omega arith

  -- where the path named the stamp the counts stay
  pub counts_known : names_at (map.get paths p) s ≡ true → HasCounts after versions
  counts_known known t v there = by_stamp (stamp_eq s t) refl
    where
      by_stamp : (b : Bool) → stamp_eq s t ≡ b → v.paths ≡ naming_path_count after t
      by_stamp false other = counts t v there ∙ sym (same_after t other)
      by_stamp true same = counts t v there ∙ sym (subst (λ (u : Stamp). naming_path_count after u ≡ naming_path_count paths u) (same_stamp s t same) (known_after known))

  -- where it didn't, the stamp's is raised
  pub counts_raised : names_at (map.get paths p) s ≡ false → (raised : CountedVersions) → ((t : Stamp) → map.get raised t ≡ cond (stamp_eq s t) (option_map one_more (map.get versions t)) (map.get versions t)) → HasCounts after raised
  counts_raised new raised more t v there = by_stamp (stamp_eq s t) refl (sym (more t) ∙ there)
    where
      by_more : (o : Option Counted) → map.get versions t ≡ o → option_map one_more o ≡ Some v → naming_path_count after t ≡ naming_path_count paths t + 1 → v.paths ≡ naming_path_count after t
      by_more None is there after_t = cc there
      by_more (Some u) is there after_t =
          let same : one_more u ≡ v = cc there in
          ap (λ (x : Counted). x.paths) (sym same) ∙ ap (λ (n : ℕ). n + 1) (counts t u is) ∙ sym after_t

      by_stamp : (b : Bool) → stamp_eq s t ≡ b → cond b (option_map one_more (map.get versions t)) (map.get versions t) ≡ Some v → v.paths ≡ naming_path_count after t
      by_stamp false other is = counts t v is ∙ sym (same_after t other)
      by_stamp true same is = by_more (map.get versions t) refl is (subst (λ (u : Stamp). naming_path_count after u ≡ naming_path_count paths u + 1) (same_stamp s t same) (new_after new))

  -- a version that is taken in under a stamp that no path names has one
  pub counts_taken : ((q : List ℕ) (e : PathState) → map.get paths q ≡ Some e → names e s ≡ true → ⊥) → (new : Counted) → new.paths ≡ 1 → HasCounts after (map.insert versions s new)
  counts_taken never new is t v there = by_stamp (stamp_eq s t) refl
    where
      unnamed : (o : Option PathState) → map.get paths p ≡ o → names_at o s ≡ false
      unnamed None held = refl
      unnamed (Some e) held = false_from_ne_true (names e s) (λ named_s. never p e held named_s)

      by_stamp : (b : Bool) → stamp_eq s t ≡ b → v.paths ≡ naming_path_count after t
      by_stamp true same =
          let at_t : map.get (map.insert versions s new) t ≡ Some new = subst (λ (u : Stamp). map.get (map.insert versions s new) u ≡ Some new) (same_stamp s t same) (get_inserted stamp_total stamps_apart versions s new) in
          let given : new ≡ v = cc (at_t, there) in
          let one_after : naming_path_count after s ≡ 1 = new_after (unnamed (map.get paths p) refl) ∙ ap (λ (n : ℕ). n + 1) (naming-none paths s never) in
          ap (λ (x : Counted). x.paths) (sym given) ∙ is ∙ sym (subst (λ (u : Stamp). naming_path_count after u ≡ 1) (same_stamp s t same) one_after)
      by_stamp false other = elim (insert_cases stamp_total stamps_apart versions s new t) [
        | inl at_s ↦ absurd (false≢true (sym other ∙ subst (λ (u : Stamp). stamp_eq s u ≡ true) (sym at_s.0) (stamp_eq_self s)))
        | inr stays ↦ counts t v (sym stays ∙ there) ∙ sym (same_after t other)
      ]

  -- a count that is raised is less than the number of paths
  pub count_below : names_at (map.get paths p) s ≡ false → option_map_or (λ (v : Counted). v.paths) (map.get versions s) 0 < map.len after
  count_below new = by_version (map.get versions s) refl (new_after new) (naming-bound after s)
    where
      by_version : (o : Option Counted) → map.get versions s ≡ o → naming_path_count after s ≡ naming_path_count paths s + 1 → naming_path_count after s ≤ map.len after → option_map_or (λ (v : Counted). v.paths) o 0 < map.len after
      by_version None is after_s bound = omega arith
      by_version (Some v) is after_s bound = let count : v.paths ≡ naming_path_count paths s = counts s v is in omega arith

-- pinning changes no count
pub counts_pinned : (paths : Paths) (versions : CountedVersions) → HasCounts paths versions → (p : List ℕ) (pinned : Bool) → HasCounts (with_pinned pinned paths p) versions
counts_pinned paths versions counts p pinned = by_state (map.get paths p) refl
  where
    by_state : (o : Option PathState) → map.get paths p ≡ o → HasCounts (option_map_or (λ e. map.insert paths p (record e { pinned = pinned })) o paths) versions
    by_state None held = counts
    by_state (Some e) held = λ t v there.
        let is = rw held at (naming-insert paths t p (record e { pinned = pinned })) in
        let same : naming_path_count (map.insert paths p (record e { pinned = pinned })) t ≡ naming_path_count paths t = omega arith in
        counts t v there ∙ sym same

-- a new cache has none
pub counts_new : (paths : Paths) → HasCounts paths map.empty
counts_new paths s v there = absurd (false≢true (sym (ap is_some (get-empty stamp_cmp s)) ∙ ap is_some there))
