-- What looks leave of a cache. Each path is as it was or as after its look, and each version as it was
-- or as it lies there.
use Rattle.std.proofs.Common.{◌≡◌, ◌⊎◌, ◌||◌, not, option_and_then, unwrap_or, ap₂, ℕ, Bool, true, false, cond, List, [], ◌∷◌, Option, Some, None, inl, inr, refl, sym, ap, subst, ◌∙◌}
use Rattle.std.specs.FinMap as map
use Rattle.std.specs.Cmp.Lexicographic.{nat_list_cmp_total}
use Rattle.std.specs.List.{AllByRecursion}
use Rattle.bz_base.specs.declared.error.Error.{Error}
use Rattle.bz_files.specs.World.{World, Entry, Denied, Present, entry_at}
use Rattle.bz_files.specs.declared.stamp.Stamp.{Stamp}
use Rattle.bz_cache.specs.Cache.{Cache, PathState, stamp_eq}
use Rattle.bz_cache.specs.Look.{by_entry, by_fixed, by_test, look, moved, named, with_earlier}
use Rattle.bz_cache.specs.View.{fixed}
use Rattle.bz_cache.proofs.FiniteMaps.{insert_cases}
use Rattle.bz_cache.proofs.Naming.{paths_apart}
use Rattle.bz_cache.proofs.Stamps.{stamp_eq_self, stamp_total, stamps_apart}
use Rattle.bz_cache.proofs.FileLemmas.{reload_look}
use Rattle.bz_elf.specs.Format as elf
use Rattle.bz_proc.specs.PerfMap as perf
use Rattle.bz_process.specs.Caches.{ProcessCaches}
use Rattle.bz_process.specs.ProcessCall.{Change, LookElf, LookPerfMap, Remember, IsTold, Reaches, after_changes, changed}
use Rattle.bz_process.specs.Reached.{AreLookedOver, IsAsLooked, IsLookedOver}
use Rattle.bz_process.proofs.RememberedLemmas.{changes_told}

-- a path that is seen with its stamp again
moved_again : (s : Stamp) (o : Option PathState) → moved s (Some (moved s o)) ≡ moved s o
moved_again s None = rw (stamp_eq_self s) refl
moved_again s (Some e) = by_same (stamp_eq e.current s) refl
  where
    by_same : (b : Bool) → stamp_eq e.current s ≡ b →
        moved s (Some (cond b (record e { pinned = false }) (record { current = s; pinned = false; earlier = with_earlier e.earlier e.current })))
        ≡ cond b (record e { pinned = false }) (record { current = s; pinned = false; earlier = with_earlier e.earlier e.current })
    by_same true is = rw is refl
    by_same false is = rw (stamp_eq_self s) refl

-- what lies at a path has one stamp
stamp_is : {s t : Stamp} {a b : List ℕ} → Some (Present s a) ≡ Some (Present t b) → s ≡ t
stamp_is is = cc is

module _ (world : World) (path : List ℕ) where
  -- where a path is as it was, it is fixed as it was
  pub fixed_same : (old now : Cache) → now.reload ≡ old.reload → map.get now.paths path ≡ map.get old.paths path → fixed now path ≡ fixed old path
  fixed_same old now reload is = ap₂ (λ (r : Bool) (o : Option PathState). option_and_then (λ (state : PathState). cond (state.pinned || not r) (Some state.current) None) o) reload is

  looked_both : (old mid now : Cache) → mid.reload ≡ old.reload → IsAsLooked world path old mid → IsAsLooked world path mid now → IsAsLooked world path old now
  looked_both old mid now reload (inl one) (inl two) = inl (two ∙ one)
  looked_both old mid now reload (inl one) (inr two) = inr (record {
    stamp = two.stamp;
    bytes = two.bytes;
    not_fixed = sym (fixed_same old mid reload one) ∙ two.not_fixed;
    present = two.present;
    state = two.state ∙ ap (λ (o : Option PathState). Some (moved two.stamp o)) one;
  })
  looked_both old mid now reload (inr one) (inl two) = inr (record { stamp = one.stamp; bytes = one.bytes; not_fixed = one.not_fixed; present = one.present; state = two ∙ one.state })
  looked_both old mid now reload (inr one) (inr two) =
      let same : one.stamp ≡ two.stamp = stamp_is (sym one.present ∙ two.present) in
      inr (record {
        stamp = one.stamp;
        bytes = one.bytes;
        not_fixed = one.not_fixed;
        present = one.present;
        state = two.state ∙ ap (λ (o : Option PathState). Some (moved two.stamp o)) one.state
            ∙ ap (λ (s : Stamp). Some (moved s (Some (moved one.stamp (map.get old.paths path))))) (sym same) ∙ ap Some (moved_again one.stamp (map.get old.paths path));
      })

  module _ (test : List ℕ → Option Error) (c : Cache) (other : List ℕ) where
    look_named : (s : Stamp) (b v : List ℕ) → fixed c other ≡ None → entry_at world other ≡ Some (Present s b) → IsAsLooked world path c (named c other s v)
    look_named s b v not_fixed there = elim (insert_cases nat_list_cmp_total paths_apart c.paths other (moved s (map.get c.paths other)) path) [
      | inl here ↦ inr (record {
        stamp = s;
        bytes = b;
        not_fixed = ap (fixed c) here.0 ∙ not_fixed;
        present = ap (entry_at world) here.0 ∙ there;
        state = here.1 ∙ ap (λ (p : List ℕ). Some (moved s (map.get c.paths p))) (sym here.0);
      })
      | inr stays ↦ inl stays
    ]

    look_test : (s : Stamp) (b v : List ℕ) (t : Option Error) → fixed c other ≡ None → entry_at world other ≡ Some (Present s b) → IsAsLooked world path c (by_test c other s v t).1
    look_test s b v None not_fixed there = look_named s b v not_fixed there
    look_test s b v (Some e) not_fixed there = inl refl

    look_entry : (there : Option Entry) → fixed c other ≡ None → entry_at world other ≡ there → IsAsLooked world path c (by_entry test c other there).1
    look_entry None not_fixed is = inl refl
    look_entry (Some Denied) not_fixed is = inl refl
    look_entry (Some (Present s b)) not_fixed is = look_test s b _ _ not_fixed is

    look_path : (there : Option Entry) → there ≡ entry_at world other → IsAsLooked world path c (look test c other there).1
    look_path there is = by_fix (fixed c other) refl
      where
        by_fix : (o : Option Stamp) → fixed c other ≡ o → IsAsLooked world path c (by_fixed test c other there o).1
        by_fix (Some s) fix = inl refl
        by_fix None fix = look_entry there fix (sym is)

module _ (test : List ℕ → Option Error) (c : Cache) (path : List ℕ) (u : Stamp) (k : List ℕ) where
  -- a version that is kept stays kept
  pub kept_test : (s : Stamp) (b : List ℕ) (t : Option Error) → map.get c.kept u ≡ Some k → map.get (by_test c path s (unwrap_or (map.get c.kept s) b) t).1.kept u ≡ Some k
  kept_test s b (Some e) is = is
  kept_test s b None is = elim (insert_cases stamp_total stamps_apart c.kept s (unwrap_or (map.get c.kept s) b) u) [
    | inl here ↦ here.1 ∙ ap Some (ap (λ (o : Option (List ℕ)). unwrap_or o b) (ap (map.get c.kept) (sym here.0) ∙ is))
    | inr stays ↦ stays ∙ is
  ]

  kept_entry : (there : Option Entry) → map.get c.kept u ≡ Some k → map.get (by_entry test c path there).1.kept u ≡ Some k
  kept_entry None is = is
  kept_entry (Some Denied) is = is
  kept_entry (Some (Present s b)) is = kept_test s b _ is

  kept_look : (there : Option Entry) → map.get c.kept u ≡ Some k → map.get (look test c path there).1.kept u ≡ Some k
  kept_look there is = by_fix (fixed c path)
    where
      by_fix : (o : Option Stamp) → map.get (by_fixed test c path there o).1.kept u ≡ Some k
      by_fix (Some s) = is
      by_fix None = kept_entry there is

  module _ (world : World) where
    -- a version that is kept after a look was kept, or lies there
    abbrev WasOrLies : Type 0
    WasOrLies = (map.get c.kept u ≡ Some k) ⊎ ((p : List ℕ) × (entry_at world p ≡ Some (Present u k)))

    lies_version : (s : Stamp) (b : List ℕ) (o : Option (List ℕ)) → entry_at world path ≡ Some (Present s b) → u ≡ s → map.get c.kept s ≡ o → unwrap_or o b ≡ k → WasOrLies
    lies_version s b (Some x) there same kept is = inl (ap (map.get c.kept) same ∙ kept ∙ ap Some is)
    lies_version s b None there same kept is = inr (path, there ∙ ap₂ (λ (t : Stamp) (x : List ℕ). Some (Present t x)) (sym same) is)

    lies_test : (s : Stamp) (b : List ℕ) (t : Option Error) → entry_at world path ≡ Some (Present s b) → map.get (by_test c path s (unwrap_or (map.get c.kept s) b) t).1.kept u ≡ Some k → WasOrLies
    lies_test s b (Some e) there is = inl is
    lies_test s b None there is = elim (insert_cases stamp_total stamps_apart c.kept s (unwrap_or (map.get c.kept s) b) u) [
      | inl here ↦ lies_version s b (map.get c.kept s) there here.0 refl (cc (here.1, is))
      | inr stays ↦ inl (sym stays ∙ is)
    ]

    lies_entry : (there : Option Entry) → entry_at world path ≡ there → map.get (by_entry test c path there).1.kept u ≡ Some k → WasOrLies
    lies_entry None there is = inl is
    lies_entry (Some Denied) there is = inl is
    lies_entry (Some (Present s b)) there is = lies_test s b _ there is

    lies_look : (there : Option Entry) → there ≡ entry_at world path → map.get (look test c path there).1.kept u ≡ Some k → WasOrLies
    lies_look there same = by_fix (fixed c path)
      where
        by_fix : (o : Option Stamp) → map.get (by_fixed test c path there o).1.kept u ≡ Some k → WasOrLies
        by_fix (Some s) is = inl is
        by_fix None is = lies_entry there (sym same) is

module _ (world : World) where
  one_look : (test : List ℕ → Option Error) (c : Cache) (other : List ℕ) (there : Option Entry) → there ≡ entry_at world other → IsLookedOver world c (look test c other there).1
  one_look test c other there is = record {
    paths = λ path. look_path world path test c other there is;
    keeps = λ u k kept. kept_look test c other u k there kept;
    adds = λ u k kept. lies_look test c other u k world there is kept;
    reload = reload_look test c other there;
  }

  no_look : (c : Cache) → IsLookedOver world c c
  no_look c = record { paths = λ path. inl refl; keeps = λ u k kept. kept; adds = λ u k kept. inl kept; reload = refl }

  over_both : (old mid now : Cache) → IsLookedOver world old mid → IsLookedOver world mid now → IsLookedOver world old now
  over_both old mid now one two = record {
    paths = λ path. looked_both world path old mid now one.reload (one.paths path) (two.paths path);
    keeps = λ u k kept. two.keeps u k (one.keeps u k kept);
    adds = λ u k kept. before u k (two.adds u k kept);
    reload = two.reload ∙ one.reload;
  }
    where
      before : (u : Stamp) (k : List ℕ) → (map.get mid.kept u ≡ Some k) ⊎ ((p : List ℕ) × (entry_at world p ≡ Some (Present u k))) → (map.get old.kept u ≡ Some k) ⊎ ((p : List ℕ) × (entry_at world p ≡ Some (Present u k)))
      before u k (inl was) = one.adds u k was
      before u k (inr lies) = inr lies

  -- the caches after any list of changes
  record CachesLookedOver (old now : ProcessCaches) : Type 0 where
    elf : IsLookedOver world old.elf now.elf
    perf_maps : IsLookedOver world old.perf_maps now.perf_maps

  module _ (own : ℕ) where
    change_looked : (change : Change) (kept : ProcessCaches) → IsTold own world change → CachesLookedOver kept (changed change kept)
    change_looked (LookElf path there) kept told = record { elf = one_look elf.format_test kept.elf path there told; perf_maps = no_look kept.perf_maps }
    change_looked (LookPerfMap path there) kept told = record { elf = no_look kept.elf; perf_maps = one_look perf.format_test kept.perf_maps path there told }
    change_looked (Remember pid known) kept told = record { elf = no_look kept.elf; perf_maps = no_look kept.perf_maps }

    changes_looked : (changes : List Change) (kept : ProcessCaches) → AllByRecursion (IsTold own world) changes → CachesLookedOver kept (after_changes changes kept)
    changes_looked [] kept told = record { elf = no_look kept.elf; perf_maps = no_look kept.perf_maps }
    changes_looked (change ∷ later) kept told =
        let one = change_looked change kept told.0 in
        let two = changes_looked later (changed change kept) told.1 in
        record {
          elf = over_both kept.elf (changed change kept).elf (after_changes later (changed change kept)).elf one.elf two.elf;
          perf_maps = over_both kept.perf_maps (changed change kept).perf_maps (after_changes later (changed change kept)).perf_maps one.perf_maps two.perf_maps;
        }

    -- so each path and each process is as it was or as it is told, whatever a call on a process answers
    pub changes_looked_over : (changes : List Change) (kept : ProcessCaches) → AllByRecursion (IsTold own world) changes → AreLookedOver own world kept (after_changes changes kept)
    changes_looked_over changes kept told =
        let both = changes_looked changes kept told in
        record { elf = both.elf; perf_maps = both.perf_maps; ids = λ pid. changes_told own world pid changes kept told }

    pub reached_looked : (old now : ProcessCaches) → Reaches own (Some world) old now → AreLookedOver own world old now
    reached_looked old now reached = subst (λ (k : ProcessCaches). AreLookedOver own world old k) (sym reached.leads) (changes_looked_over reached.changes old (reached.told world refl))
