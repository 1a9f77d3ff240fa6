-- What the cache's maps read as, after a look-up and after a change.
use Rattle.std.proofs.Common.{◌≡◌, ℕ, Bool, true, false, cond, List, Option, Some, None, option_map, is_some, sym, ap, ◌∙◌, refl}
use Rattle.std.specs.BTreeMap.{BTreeMap, UpdatesBy, get_by, get_by_text, IsOrdered, btree_map_len}
use Rattle.std.specs.String.{string_bytes, string_cmp}
use Rattle.std.specs.declared.string.String.{String}
use Rattle.std.specs.Ordering.{nat_cmp, is_eq}
use Rattle.std.specs.Cmp.Lexicographic.{slice_cmp, nat_list_cmp_total}
use Rattle.std.specs.FinMap as map
use Rattle.std.specs.FinMap.{slice_cmp-IsAntisymmetric, nat_cmp-IsAntisymmetric, get-insert}
use Rattle.std.specs.Cmp.{eq_by_cmp_equiv}
use Rattle.std.proofs.lemmas.Map.Text.{btree_map_updates_text, is_eq-slice_cmp}
use Rattle.bz_files.specs.declared.stamp.Stamp.{Stamp}
use Rattle.bz_cache.specs.declared.file_cache.versions.KeptVersion.{KeptVersion}
use Rattle.bz_cache.specs.declared.file_cache.paths.HeldPath.{HeldPath}
use Rattle.bz_cache.specs.Cache.{stamp_cmp, stamp_eq, PathState}
use Rattle.bz_cache.specs.Counts.{Counted, CountedVersions}
use Rattle.bz_cache.specs.Store.{kept_of, counted_of, paths_of, path_state}
use Rattle.bz_cache.proofs.Stamps.{stamp_total, stamps_apart, stamp_eq_is, same_stamp}
use Rattle.bz_cache.proofs.FiniteMaps.{insert_same}
use Rattle.bz_cache.proofs.MapScans.{len_read}
use Rattle.bz_cache.proofs.MapViews.{get_read, read_insert, read_remove}

pub is_some-map : {A B : Type 0} (f : A → B) (o : Option A) → is_some (option_map f o) ≡ is_some o
is_some-map f None = refl
is_some-map f (Some x) = refl

module _ {T : Type 0} (bytes_of : T → List ℕ) where
  -- the bytes of a version, and these with its count
  abbrev pub bytes_in : KeptVersion T → List ℕ
  bytes_in v = bytes_of v.version.value

  abbrev pub counted : KeptVersion T → Counted
  counted v = record { bytes = bytes_in v; paths = v.paths }

  -- the bytes of what the map has at the stamp
  pub get_kept : (m : BTreeMap Stamp (KeptVersion T)) (s : Stamp) → map.get (kept_of bytes_of m) s ≡ option_map bytes_in (get_by (stamp_cmp s) m)
  get_kept m s = get_read stamp_cmp (λ (k : Stamp). k) bytes_in stamp_total m.entries s

  -- the bytes and the count
  pub get_counted : (m : BTreeMap Stamp (KeptVersion T)) (s : Stamp) → map.get (counted_of bytes_of m) s ≡ option_map counted (get_by (stamp_cmp s) m)
  get_counted m s = get_read stamp_cmp (λ (k : Stamp). k) counted stamp_total m.entries s

  -- the bytes are those beside the count
  pub kept_counted : (m : BTreeMap Stamp (KeptVersion T)) (s : Stamp) → map.get (kept_of bytes_of m) s ≡ option_map (λ (v : Counted). v.bytes) (map.get (counted_of bytes_of m) s)
  kept_counted m s = get_kept m s ∙ beside (get_by (stamp_cmp s) m) ∙ ap (option_map (λ (v : Counted). v.bytes)) (sym (get_counted m s))
    where
      beside : (o : Option (KeptVersion T)) → option_map bytes_in o ≡ option_map (λ (v : Counted). v.bytes) (option_map counted o)
      beside None = refl
      beside (Some v) = refl

  -- a stamp that the map has
  pub kept_found : (m : BTreeMap Stamp (KeptVersion T)) (s : Stamp) (v : KeptVersion T) → get_by (stamp_cmp s) m ≡ Some v → map.get (kept_of bytes_of m) s ≡ Some (bytes_in v)
  kept_found m s v found = get_kept m s ∙ ap (option_map bytes_in) found

  pub counted_found : (m : BTreeMap Stamp (KeptVersion T)) (s : Stamp) (v : KeptVersion T) → get_by (stamp_cmp s) m ≡ Some v → map.get (counted_of bytes_of m) s ≡ Some (counted v)
  counted_found m s v found = get_counted m s ∙ ap (option_map counted) found

  -- a stamp that the map hasn't
  pub kept_absent : (m : BTreeMap Stamp (KeptVersion T)) (s : Stamp) → get_by (stamp_cmp s) m ≡ None → map.get (kept_of bytes_of m) s ≡ None
  kept_absent m s absent = get_kept m s ∙ ap (option_map bytes_in) absent

  pub counted_absent : (m : BTreeMap Stamp (KeptVersion T)) (s : Stamp) → get_by (stamp_cmp s) m ≡ None → map.get (counted_of bytes_of m) s ≡ None
  counted_absent m s absent = get_counted m s ∙ ap (option_map counted) absent

  module _ (m n : BTreeMap Stamp (KeptVersion T)) (s : Stamp) where
    -- a version that was put in
    pub kept_insert : (v : KeptVersion T) → UpdatesBy stamp_cmp (stamp_cmp s) m n (Some v) → kept_of bytes_of n ≡ map.insert (kept_of bytes_of m) s (bytes_in v)
    kept_insert v updates = read_insert stamp_cmp (λ (k : Stamp). k) bytes_in stamp_total stamps_apart m.entries n.entries s (Some v) updates.0 v refl

    pub counted_insert : (v : KeptVersion T) → UpdatesBy stamp_cmp (stamp_cmp s) m n (Some v) → counted_of bytes_of n ≡ map.insert (counted_of bytes_of m) s (counted v)
    counted_insert v updates = read_insert stamp_cmp (λ (k : Stamp). k) counted stamp_total stamps_apart m.entries n.entries s (Some v) updates.0 v refl

    -- a version that was taken out
    pub kept_remove : UpdatesBy stamp_cmp (stamp_cmp s) m n None → kept_of bytes_of n ≡ map.remove (kept_of bytes_of m) s
    kept_remove updates = read_remove stamp_cmp (λ (k : Stamp). k) bytes_in stamp_total stamps_apart m.entries n.entries s None updates.0 refl

    pub counted_remove : UpdatesBy stamp_cmp (stamp_cmp s) m n None → counted_of bytes_of n ≡ map.remove (counted_of bytes_of m) s
    counted_remove updates = read_remove stamp_cmp (λ (k : Stamp). k) counted stamp_total stamps_apart m.entries n.entries s None updates.0 refl

    module _ (v w : KeptVersion T) (found : get_by (stamp_cmp s) m ≡ Some v) (updates : UpdatesBy stamp_cmp (stamp_cmp s) m n (Some w)) where
      -- a version whose count alone was changed
      pub kept_recounted : bytes_in w ≡ bytes_in v → kept_of bytes_of n ≡ kept_of bytes_of m
      kept_recounted is = kept_insert w updates ∙ ap (map.insert (kept_of bytes_of m) s) is ∙ insert_same stamp_total stamps_apart (kept_of bytes_of m) s (bytes_in v) (kept_found m s v found)

      pub counted_changed : (f : Counted → Counted) → counted w ≡ f (counted v) → (t : Stamp) →
          map.get (counted_of bytes_of n) t ≡ cond (stamp_eq s t) (option_map f (map.get (counted_of bytes_of m) t)) (map.get (counted_of bytes_of m) t)
      counted_changed f is t =
          ap (λ (c : CountedVersions). map.get c t) (counted_insert w updates)
          ∙ get-insert stamp_total (counted_of bytes_of m) s (counted w) t
          ∙ ap (λ (b : Bool). cond b (Some (counted w)) (map.get (counted_of bytes_of m) t)) (sym ((eq_by_cmp_equiv stamp_total).symm s t) ∙ sym (stamp_eq_is s t))
          ∙ by_stamp (stamp_eq s t) (same_stamp s t)
        where
          by_stamp : (b : Bool) → (b ≡ true → s ≡ t) → cond b (Some (counted w)) (map.get (counted_of bytes_of m) t) ≡ cond b (option_map f (map.get (counted_of bytes_of m) t)) (map.get (counted_of bytes_of m) t)
          by_stamp false same = refl
          by_stamp true same =
              ap Some is ∙ ap (option_map f) (sym (counted_found m s v found)) ∙ ap (λ (u : Stamp). option_map f (map.get (counted_of bytes_of m) u)) (same refl)

module _ {A : Type 0} where
  -- the state of what the map has at the path
  pub get_path : (m : BTreeMap (String A) HeldPath) (p : List ℕ) → map.get (paths_of m) p ≡ option_map path_state (get_by_text m p)
  get_path m p = get_read (slice_cmp nat_cmp) string_bytes path_state nat_list_cmp_total m.entries p

  -- a path that the map has
  pub path_found : (m : BTreeMap (String A) HeldPath) (p : List ℕ) (e : HeldPath) → get_by_text m p ≡ Some e → map.get (paths_of m) p ≡ Some (path_state e)
  path_found m p e found = get_path m p ∙ ap (option_map path_state) found

  -- a path that the map hasn't
  pub path_absent : (m : BTreeMap (String A) HeldPath) (p : List ℕ) → get_by_text m p ≡ None → map.get (paths_of m) p ≡ None
  path_absent m p absent = get_path m p ∙ ap (option_map path_state) absent

  module _ (m n : BTreeMap (String A) HeldPath) (p : List ℕ) (w : Option HeldPath) (updates : UpdatesBy string_cmp (λ k. slice_cmp nat_cmp p (string_bytes k)) m n w) where
    -- what the changed map has at each path
    updated_text : (q : List ℕ) → get_by_text n q ≡ cond (is_eq (slice_cmp nat_cmp p q)) w (get_by_text m q)
    updated_text q = btree_map_updates_text p m n w updates q ∙ ap (λ b. cond b w (get_by_text m q)) (sym (is_eq-slice_cmp p q))

    -- a path that was put in
    pub paths_insert : (e : HeldPath) → w ≡ Some e → paths_of n ≡ map.insert (paths_of m) p (path_state e)
    paths_insert e is = read_insert (slice_cmp nat_cmp) string_bytes path_state nat_list_cmp_total (slice_cmp-IsAntisymmetric nat_cmp-IsAntisymmetric) m.entries n.entries p w updated_text e is

    -- a path that was taken out
    pub paths_remove : w ≡ None → paths_of n ≡ map.remove (paths_of m) p
    paths_remove is = read_remove (slice_cmp nat_cmp) string_bytes path_state nat_list_cmp_total (slice_cmp-IsAntisymmetric nat_cmp-IsAntisymmetric) m.entries n.entries p w updated_text is

  module _ (m n : BTreeMap (String A) HeldPath) (p : List ℕ) (e w : HeldPath) (found : get_by_text m p ≡ Some e)
      (updates : UpdatesBy string_cmp (λ k. slice_cmp nat_cmp p (string_bytes k)) m n (Some w)) where
    -- the state of a path that was changed to another state
    pub paths_changed : (s : PathState) → path_state w ≡ s → paths_of n ≡ map.insert (paths_of m) p s
    paths_changed s is = paths_insert m n p (Some w) updates w refl ∙ ap (map.insert (paths_of m) p) is

    -- a path whose state stayed
    pub paths_stay : path_state w ≡ path_state e → paths_of n ≡ paths_of m
    paths_stay is = paths_changed (path_state e) is ∙ insert_same nat_list_cmp_total (slice_cmp-IsAntisymmetric nat_cmp-IsAntisymmetric) (paths_of m) p (path_state e) (path_found m p e found)

-- as many versions are kept as the map has entries
pub kept_len : {T : Type 0} (bytes_of : T → List ℕ) (m : BTreeMap Stamp (KeptVersion T)) → IsOrdered stamp_cmp m → map.len (kept_of bytes_of m) ≡ btree_map_len m
kept_len bytes_of m ordered = len_read stamp_cmp (λ (k : Stamp). k) (bytes_in bytes_of) stamp_total m.entries ordered

-- as many paths are held as the map has entries
pub paths_len : {A : Type 0} (m : BTreeMap (String A) HeldPath) → IsOrdered string_cmp m → map.len (paths_of m) ≡ btree_map_len m
paths_len m ordered = len_read (slice_cmp nat_cmp) string_bytes path_state nat_list_cmp_total m.entries ordered
