-- A cache stays consistent once a path is seen with a stamp.
use Rattle.std.proofs.Common.{◌≡◌, ℕ, Bool, true, false, ◌||◌, cond, List, [], ◌∷◌, ◌++◌, Option, Some, None, unwrap_or, is_some, IsSome, ◌⊎◌, inl, inr, sym, ap, subst, ◌∙◌, refl}
use Rattle.std.specs.Ordering.{nat_cmp}
use Rattle.std.specs.Cmp.Lexicographic.{slice_cmp, nat_list_cmp_total}
use Rattle.std.specs.FinMap as map
use Rattle.std.specs.FinMap.{IsAntisymmetric, slice_cmp-IsAntisymmetric, nat_cmp-IsAntisymmetric, get-empty}
use Rattle.std.proofs.lemmas.Bool.{false≢true}
use Rattle.bz_base.specs.declared.error.Error.{Error}
use Rattle.bz_files.specs.declared.stamp.Stamp.{Stamp}
use Rattle.bz_cache.specs.Cache.{Cache, PathState, Kept, Paths, Consistent, new_cache, names, is_among, stamp_cmp, stamp_eq}
use Rattle.bz_cache.specs.Counts.{names_at}
use Rattle.bz_cache.specs.Look.{with_earlier, moved, named}
use Rattle.bz_cache.specs.View.{bytes_at}
use Rattle.bz_cache.proofs.FiniteMaps.{insert_same, insert_cases, get_inserted, still_there}
use Rattle.bz_cache.proofs.Stamps.{stamp_total, stamps_apart, same_stamp, stamp_eq_self}

-- only equal paths tie
pub paths_apart : IsAntisymmetric (slice_cmp nat_cmp)
paths_apart = slice_cmp-IsAntisymmetric nat_cmp-IsAntisymmetric

-- a choice of two tests
pub or_cases : (a b : Bool) → (a || b) ≡ true → (a ≡ true) ⊎ (b ≡ true)
or_cases true b e = inl refl
or_cases false b e = inr e

pub or_right : (a b : Bool) → b ≡ true → (a || b) ≡ true
or_right true b e = refl
or_right false b e = e

pub or_left : (a b : Bool) → a ≡ true → (a || b) ≡ true
or_left true b e = refl
or_left false b e = absurd (false≢true e)

-- a stamp is among the stamps that were put after others exactly where it was, or is one of them
pub among_push : (stamps : List Stamp) (t s : Stamp) → is_among (stamps ++ t ∷ []) s ≡ (is_among stamps s || stamp_eq t s)
among_push [] t s = or_false (stamp_eq t s)
  where
    or_false : (b : Bool) → (b || false) ≡ b
    or_false true = refl
    or_false false = refl
among_push (u ∷ stamps) t s = ap (λ b. stamp_eq u s || b) (among_push stamps t s) ∙ shift_or (stamp_eq u s) (is_among stamps s) (stamp_eq t s)
  where
    shift_or : (a b c : Bool) → (a || (b || c)) ≡ ((a || b) || c)
    shift_or true b c = refl
    shift_or false b c = refl

module _ (earlier : List Stamp) (t s : Stamp) where
  -- the earlier stamps stay
  earlier_stays : is_among earlier s ≡ true → is_among (with_earlier earlier t) s ≡ true
  earlier_stays among = by_test (is_among earlier t)
    where
      by_test : (b : Bool) → is_among (cond b earlier (earlier ++ t ∷ [])) s ≡ true
      by_test true = among
      by_test false = among_push earlier t s ∙ or_left (is_among earlier s) (stamp_eq t s) among

  -- the new one is there
  earlier_has : stamp_eq t s ≡ true → is_among (with_earlier earlier t) s ≡ true
  earlier_has same = by_test (is_among earlier t) refl
    where
      by_test : (b : Bool) → is_among earlier t ≡ b → is_among (cond b earlier (earlier ++ t ∷ [])) s ≡ true
      by_test true is = subst (λ (u : Stamp). is_among earlier u ≡ true) (same_stamp t s same) is
      by_test false is = among_push earlier t s ∙ or_right (is_among earlier s) (stamp_eq t s) same

  -- and no other comes in
  earlier_only : is_among (with_earlier earlier t) s ≡ true → (is_among earlier s || stamp_eq t s) ≡ true
  earlier_only among = by_test (is_among earlier t) among
    where
      by_test : (b : Bool) → is_among (cond b earlier (earlier ++ t ∷ [])) s ≡ true → (is_among earlier s || stamp_eq t s) ≡ true
      by_test true in_earlier = or_left (is_among earlier s) (stamp_eq t s) in_earlier
      by_test false in_pushed = sym (among_push earlier t s) ∙ in_pushed

module _ (s : Stamp) where
  -- a path that is seen with a stamp names it
  pub moved_names : (o : Option PathState) (t : Stamp) → s ≡ t → names (moved s o) t ≡ true
  moved_names None t same = or_left (stamp_eq s t) false (subst (λ (u : Stamp). stamp_eq s u ≡ true) same (stamp_eq_self s))
  moved_names (Some e) t same = by_test (stamp_eq e.current s) refl
    where
      is_current : stamp_eq s t ≡ true
      is_current = subst (λ (u : Stamp). stamp_eq s u ≡ true) same (stamp_eq_self s)

      by_test : (b : Bool) → stamp_eq e.current s ≡ b → names (cond b (record e { pinned = false }) (record { current = s; pinned = false; earlier = with_earlier e.earlier e.current })) t ≡ true
      by_test true is = or_left (stamp_eq e.current t) (is_among e.earlier t) (subst (λ (u : Stamp). stamp_eq e.current u ≡ true) same is)
      by_test false is = or_left (stamp_eq s t) (is_among (with_earlier e.earlier e.current) t) is_current

  -- it names what it named
  pub moved_keeps : (e : PathState) (t : Stamp) → names e t ≡ true → names (moved s (Some e)) t ≡ true
  moved_keeps e t named_t = by_test (stamp_eq e.current s)
    where
      in_new : (stamp_eq e.current t ≡ true) ⊎ (is_among e.earlier t ≡ true) → is_among (with_earlier e.earlier e.current) t ≡ true
      in_new (inl current) = earlier_has e.earlier e.current t current
      in_new (inr earlier) = earlier_stays e.earlier e.current t earlier

      by_test : (b : Bool) → names (cond b (record e { pinned = false }) (record { current = s; pinned = false; earlier = with_earlier e.earlier e.current })) t ≡ true
      by_test true = named_t
      by_test false = or_right (stamp_eq s t) (is_among (with_earlier e.earlier e.current) t) (in_new (or_cases (stamp_eq e.current t) (is_among e.earlier t) named_t))

  -- and no other
  pub moved_only : (o : Option PathState) (t : Stamp) → names (moved s o) t ≡ true → (s ≡ t) ⊎ ((e : PathState) × (o ≡ Some e) × (names e t ≡ true))
  moved_only None t named_t = elim (or_cases (stamp_eq s t) false named_t) [
    | inl current ↦ inl (same_stamp s t current)
    | inr never ↦ absurd (false≢true never)
  ]
  moved_only (Some e) t named_t = by_test (stamp_eq e.current s) named_t
    where
      swap_or : (a b : Bool) → (a || b) ≡ true → (b || a) ≡ true
      swap_or a b e = elim (or_cases a b e) [ inl p ↦ or_right b a p | inr p ↦ or_left b a p ]

      by_test : (b : Bool) → names (cond b (record e { pinned = false }) (record { current = s; pinned = false; earlier = with_earlier e.earlier e.current })) t ≡ true → (s ≡ t) ⊎ ((x : PathState) × (Some e ≡ Some x) × (names x t ≡ true))
      by_test true old = inr (e, refl, old)
      by_test false new = elim (or_cases (stamp_eq s t) (is_among (with_earlier e.earlier e.current) t) new) [
        | inl current ↦ inl (same_stamp s t current)
        | inr earlier ↦ inr (e, refl, swap_or (is_among e.earlier t) (stamp_eq e.current t) (earlier_only e.earlier e.current t earlier))
      ]

-- so it names what it named, and the stamp
pub moved_is : (s : Stamp) (o : Option PathState) (t : Stamp) → names (moved s o) t ≡ (names_at o t || stamp_eq s t)
moved_is s o t = same_test (names (moved s o) t) (names_at o t || stamp_eq s t) to from
  where
    same_test : (a b : Bool) → (a ≡ true → b ≡ true) → (b ≡ true → a ≡ true) → a ≡ b
    same_test true b there back = sym (there refl)
    same_test false true there back = back refl
    same_test false false there back = refl

    to : names (moved s o) t ≡ true → (names_at o t || stamp_eq s t) ≡ true
    to named_t = elim (moved_only s o t named_t) [
      | inl same ↦ or_right (names_at o t) (stamp_eq s t) (subst (λ (u : Stamp). stamp_eq s u ≡ true) same (stamp_eq_self s))
      | inr old ↦ or_left (names_at o t) (stamp_eq s t) (ap (λ (x : Option PathState). names_at x t) old.1 ∙ old.2)
    ]

    keeps : (x : Option PathState) → names_at x t ≡ true → names (moved s x) t ≡ true
    keeps None named_t = absurd (false≢true named_t)
    keeps (Some e) named_t = moved_keeps s e t named_t

    from : (names_at o t || stamp_eq s t) ≡ true → names (moved s o) t ≡ true
    from either = elim (or_cases (names_at o t) (stamp_eq s t) either) [
      | inl old ↦ keeps o old
      | inr current ↦ moved_names s o t (same_stamp s t current)
    ]

module _ (test : List ℕ → Option Error) (c : Cache) (p : List ℕ) (s : Stamp) (v : List ℕ) (consistent : Consistent test c) (formed_v : test v ≡ None) where
  -- a path that names a stamp in the cache before, or else one that does after the look
  needed_after : (t : Stamp) → IsSome (map.get c.kept t) → (q : List ℕ) × (e : PathState) × (map.get (named c p s v).paths q ≡ Some e) × (names e t ≡ true)
  needed_after t there =
      let old = consistent.needed t there in
      elim (insert_cases nat_list_cmp_total paths_apart c.paths p (moved s (map.get c.paths p)) old.0) [
        | inl at_p ↦
            let same : map.get c.paths p ≡ Some old.1 = ap (map.get c.paths) (sym at_p.0) ∙ old.2 in
            (old.0, moved s (map.get c.paths p), at_p.1, rw same (moved_keeps s old.1 t old.3))
        | inr stays ↦ (old.0, old.1, stays ∙ old.2, old.3)
      ]

  -- the cache stays consistent
  pub consistent_named : Consistent test (named c p s v)
  consistent_named = record {
    needed = λ t there. elim (insert_cases stamp_total stamps_apart c.kept s v t) [
      | inl at_s ↦ (p, moved s (map.get c.paths p), get_inserted nat_list_cmp_total paths_apart c.paths p _, moved_names s (map.get c.paths p) t (sym at_s.0))
      | inr stays ↦ needed_after t (sym (ap is_some stays) ∙ there)
    ];
    held = λ q e t has named_t. elim (insert_cases nat_list_cmp_total paths_apart c.paths p (moved s (map.get c.paths p)) q) [
      | inl at_p ↦
          let is : moved s (map.get c.paths p) ≡ e = cc (at_p.1, has) in
          elim (moved_only s (map.get c.paths p) t (subst (λ (x : PathState). names x t ≡ true) (sym is) named_t)) [
            | inl same ↦ subst (λ (u : Stamp). IsSome (map.get (map.insert c.kept s v) u)) same (ap is_some (get_inserted stamp_total stamps_apart c.kept s v))
            | inr old ↦ still_there stamp_total stamps_apart c.kept s v t (consistent.held p old.0 t old.1 old.2)
          ]
      | inr stays ↦ still_there stamp_total stamps_apart c.kept s v t (consistent.held q e t (sym stays ∙ has) named_t)
    ];
    formed = λ t b has. elim (insert_cases stamp_total stamps_apart c.kept s v t) [
      | inl at_s ↦ let is : v ≡ b = cc (at_s.1, has) in subst (λ (x : List ℕ). test x ≡ None) is formed_v
      | inr stays ↦ consistent.formed t b (sym stays ∙ has)
    ];
  }

-- what is there, with any default
pub some_at : {A : Type 0} (o : Option A) (d : A) → IsSome o → o ≡ Some (unwrap_or o d)
some_at None d there = absurd (false≢true there)
some_at (Some x) d there = refl

-- where the stamp is kept, the kept versions stay
pub named_kept : (c : Cache) (p : List ℕ) (s : Stamp) → IsSome (map.get c.kept s) → named c p s (bytes_at c s) ≡ record { reload = c.reload; kept = c.kept; paths = map.insert c.paths p (moved s (map.get c.paths p)) }
named_kept c p s there = ap (λ (k : Kept). record { reload = c.reload; kept = k; paths = map.insert c.paths p (moved s (map.get c.paths p)) }) (insert_same stamp_total stamps_apart c.kept s (bytes_at c s) (some_at (map.get c.kept s) [] there))

-- a new cache is consistent
pub consistent_new : (test : List ℕ → Option Error) (reload : Bool) → Consistent test (new_cache reload)
consistent_new test reload = record {
  needed = λ s there. absurd (false≢true (sym (ap is_some (get-empty stamp_cmp s)) ∙ there));
  held = λ p e s has _. absurd (false≢true (sym (ap is_some (get-empty (slice_cmp nat_cmp) p)) ∙ ap is_some has));
  formed = λ s b has. absurd (false≢true (sym (ap is_some (get-empty stamp_cmp s)) ∙ ap is_some has));
}

module _ (test : List ℕ → Option Error) (c : Cache) (p : List ℕ) (s : Stamp) (consistent : Consistent test c) (paths : Paths) (placed : paths ≡ map.insert c.paths p (moved s (map.get c.paths p))) where
  -- a cache stays consistent where a path goes to a kept stamp
  pub consistent_pointed : IsSome (map.get c.kept s) → Consistent test (record { reload = c.reload; kept = c.kept; paths = paths })
  consistent_pointed there =
      rw placed (subst (Consistent test) (named_kept c p s there) (consistent_named test c p s (bytes_at c s) consistent (consistent.formed s (bytes_at c s) (some_at (map.get c.kept s) [] there))))

  -- and where a version in the format is taken in
  pub consistent_taken : (v : List ℕ) → test v ≡ None → (kept : Kept) → kept ≡ map.insert c.kept s v → Consistent test (record { reload = c.reload; kept = kept; paths = paths })
  consistent_taken v formed kept is = rw (placed, is) (consistent_named test c p s v consistent formed)
