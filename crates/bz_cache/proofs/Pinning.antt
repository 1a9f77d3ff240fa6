-- A cache stays consistent where a path is pinned or unpinned.
use Rattle.std.proofs.Common.{◌≡◌, ℕ, Bool, true, List, Option, Some, None, inl, inr, sym, subst, ◌∙◌, refl}
use Rattle.std.specs.Option.{option_map_or}
use Rattle.std.specs.FinMap as map
use Rattle.std.specs.Cmp.Lexicographic.{nat_list_cmp_total}
use Rattle.bz_base.specs.declared.error.Error.{Error}
use Rattle.bz_cache.specs.Cache.{Cache, PathState, Consistent, names, with_pin}
use Rattle.bz_cache.proofs.FiniteMaps.{insert_cases}
use Rattle.bz_cache.proofs.Naming.{paths_apart}

module _ (test : List ℕ → Option Error) (c : Cache) (p : List ℕ) (pinned : Bool) (consistent : Consistent test c) where
  -- where the path has a state
  held_pinned : (e : PathState) → map.get c.paths p ≡ Some e → Consistent test (record c { paths = map.insert c.paths p (record e { pinned = pinned }) })
  held_pinned e held = record {
    needed = λ s there.
        let old = consistent.needed s there in
        elim (insert_cases nat_list_cmp_total paths_apart c.paths p (record e { pinned = pinned }) old.0) [
          | inl at_p ↦
              let same : old.1 ≡ e = cc (old.2, held, at_p.0) in
              (old.0, record e { pinned = pinned }, at_p.1, subst (λ (x : PathState). names x s ≡ true) same old.3)
          | inr stays ↦ (old.0, old.1, stays ∙ old.2, old.3)
        ];
    held = λ q x s has named_s. elim (insert_cases nat_list_cmp_total paths_apart c.paths p (record e { pinned = pinned }) q) [
      | inl at_p ↦
          let is : record e { pinned = pinned } ≡ x = cc (at_p.1, has) in
          consistent.held p e s held (subst (λ (y : PathState). names y s ≡ true) (sym is) named_s)
      | inr stays ↦ consistent.held q x s (sym stays ∙ has) named_s
    ];
    formed = consistent.formed;
  }

  pub consistent_pinned : Consistent test (with_pin pinned c p)
  consistent_pinned = by_state (map.get c.paths p) refl
    where
      by_state : (o : Option PathState) → map.get c.paths p ≡ o → Consistent test (record c { paths = option_map_or (λ e. map.insert c.paths p (record e { pinned = pinned })) o c.paths })
      by_state None held = consistent
      by_state (Some e) held = held_pinned e held
