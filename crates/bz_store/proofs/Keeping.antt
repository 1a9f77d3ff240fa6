-- What the cache's calls do to the files that a store keeps.
use Rattle.std.proofs.Common.{◌≡◌, ℕ, zero, suc, ◌-◌, ◌<◌, ◌≤◌, Bool, true, false, ◌&&◌, cond, List, [], ◌∷◌, map, take, length, Option, Some, None, refl, sym, ap, ◌∙◌, nat_eq, is_some, slice_get, arith}
use Rattle.std.proofs.lemmas.List.{take-map, take-take, take_all}
use Rattle.std.specs.Cmp.{nat_eq_equiv}
use Rattle.std.specs.Cmp.Lexicographic.{pointwise, same_text}
use Rattle.std.specs.Option.{option_map_or}
use Rattle.std.specs.Prelude.{option_map}
use Rattle.std.specs.Map.{lookup, lookup_entry, remove_entry}
use Rattle.lru.proofs.CallerLemmas.{Contains-lookup_entry}
use Rattle.lru.specs.LruCache.{promoted}
use Rattle.bz_store.specs.declared.frame.FileKey.{FileKey}
use Rattle.bz_store.specs.Frames.{Key, key_eq, key_of}
use Rattle.bz_store.specs.Shelf.{ShelfFiles, Shelf, keep, brought}

abbrev pub view : List (FileKey × List ℕ) → ShelfFiles
view es = map (λ entry. (key_of entry.0, entry.1)) es

-- a store below a root
abbrev pub shelf_of : List ℕ → ℕ → ShelfFiles → Shelf
shelf_of root cap files = record { root = root; cap = cap; files = files }

and_both : (a b : Bool) → a && b ≡ true → (a ≡ true) × (b ≡ true)
and_both true b is = (refl, is)
and_both false b is = cc

pub key_is : (a b : Key) → key_eq a b ≡ true → a ≡ b
key_is a b is = let both = and_both (pointwise nat_eq a.0 b.0) (pointwise nat_eq a.1 b.1) is in
    λ i. (same_text a.0 b.0 (sym both.0) i, same_text a.1 b.1 (sym both.1) i)

pub view_length : (es : List (FileKey × List ℕ)) → length (view es) ≡ length es
view_length [] = refl
view_length (e ∷ es) = ap suc (view_length es)

module _ (k : FileKey) where
  abbrev pub test : FileKey → Bool
  test other = key_eq (key_of k) (key_of other)

  pub lookup_view : (es : List (FileKey × List ℕ)) → lookup (key_eq (key_of k)) (view es) ≡ lookup test es
  lookup_view [] = refl
  lookup_view (e ∷ es) = ap (cond (test e.0) (Some e.1)) (lookup_view es)

  remove_view : (es : List (FileKey × List ℕ)) → remove_entry (key_eq (key_of k)) (view es) ≡ view (remove_entry test es)
  remove_view [] = refl
  remove_view (e ∷ es) = elim (test e.0) as (λ b. cond b (view es) ((key_of e.0, e.1) ∷ remove_entry (key_eq (key_of k)) (view es)) ≡ view (cond b es (e ∷ remove_entry test es))) [
    | true ↦ refl
    | false ↦ ap (λ l. (key_of e.0, e.1) ∷ l) (remove_view es)
  ]

  lookup_by_entry : (es : List (FileKey × List ℕ)) → lookup test es ≡ option_map (λ e. e.1) (lookup_entry test es)
  lookup_by_entry [] = refl
  lookup_by_entry (e ∷ es) = elim (test e.0) as (λ b. cond b (Some e.1) (lookup test es) ≡ option_map (λ e. e.1) (cond b (Some e) (lookup_entry test es))) [
    | true ↦ refl
    | false ↦ lookup_by_entry es
  ]

  removed_length : (es : List (FileKey × List ℕ)) (e : FileKey × List ℕ) → lookup_entry test es ≡ Some e → suc (length (remove_entry test es)) ≡ length es
  removed_length [] e h = cc
  removed_length (f ∷ es) e h = (elim (test f.0) as (λ b. test f.0 ≡ b → suc (length (cond b es (f ∷ remove_entry test es))) ≡ suc (length es)) [
    | true ↦ λ t. refl
    | false ↦ λ t. ap suc (removed_length es e (rw t at h))
  ]) refl

  by_entry : (cap : ℕ) (es : List (FileKey × List ℕ)) → length es ≤ cap → (o : Option (FileKey × List ℕ)) → lookup_entry test es ≡ o →
      view (option_map_or (λ e. e ∷ remove_entry test es) o es) ≡ brought cap (key_of k) (option_map (λ e. e.1) o) (view es)
  by_entry cap es fits None is = refl
  by_entry cap es fits (Some e) is =
      let same : key_of k ≡ key_of e.0 = key_is (key_of k) (key_of e.0) (Contains-lookup_entry test es e is).1 in
      let long = removed_length es e is in
      let short = view_length (remove_entry test es) in
      ap (λ key. (key, e.1) ∷ view (remove_entry test es)) (sym same)
      ∙ sym (take_all cap ((key_of k, e.1) ∷ view (remove_entry test es)) (omega arith))
      ∙ ap (λ l. take cap ((key_of k, e.1) ∷ l)) (sym (remove_view es))

  -- a file that is there goes in front
  pub promoted_view : (cap : ℕ) (es : List (FileKey × List ℕ)) → length es ≤ cap →
      view (promoted test es) ≡ brought cap (key_of k) (lookup (key_eq (key_of k)) (view es)) (view es)
  promoted_view cap es fits = by_entry cap es fits (lookup_entry test es) refl
      ∙ ap (λ o. brought cap (key_of k) o (view es)) (sym (lookup_view es ∙ lookup_by_entry es))

  none_there : (es : List (FileKey × List ℕ)) → is_some (lookup test es) ≡ false → lookup_entry test es ≡ None
  none_there [] is = refl
  none_there (e ∷ es) is = (elim (test e.0) as (λ b. test e.0 ≡ b → cond b (Some e) (lookup_entry test es) ≡ None) [
    | true ↦ λ t. let no = rw t at is in cc
    | false ↦ λ t. none_there es (rw t at is)
  ]) refl

  none_removed : (es : List (FileKey × List ℕ)) → is_some (lookup test es) ≡ false → remove_entry test es ≡ es
  none_removed [] is = refl
  none_removed (e ∷ es) is = (elim (test e.0) as (λ b. test e.0 ≡ b → cond b es (e ∷ remove_entry test es) ≡ e ∷ es) [
    | true ↦ λ t. let no = rw t at is in cc
    | false ↦ λ t. ap (λ l. e ∷ l) (none_removed es (rw t at is))
  ]) refl

  put_first : (cap : ℕ) (bytes : List ℕ) (es : List (FileKey × List ℕ)) → 0 < cap →
      view ((k, bytes) ∷ take (cap - 1) es) ≡ take cap ((key_of k, bytes) ∷ view es)
  put_first zero bytes es some = absurd (omega arith)
  put_first (suc n) bytes es some = let less : suc n - 1 ≡ n = omega arith in
      rw less (ap (λ l. (key_of k, bytes) ∷ l) (sym (take-map (λ e. (key_of e.0, e.1)) n es)))

  -- a file that isn't there goes in front, and the last one where there are too many
  pub put_view : (cap : ℕ) (bytes : List ℕ) (es : List (FileKey × List ℕ)) → 0 < cap → is_some (lookup (key_eq (key_of k)) (view es)) ≡ false →
      view (option_map_or (λ e. (e.0, bytes) ∷ remove_entry test es) (lookup_entry test es) ((k, bytes) ∷ take (cap - 1) es)) ≡ keep cap (key_of k) bytes (view es)
  put_view cap bytes es some absent =
      let no = sym (ap is_some (lookup_view es)) ∙ absent in
      ap (λ o. view (option_map_or (λ e. (e.0, bytes) ∷ remove_entry test es) o ((k, bytes) ∷ take (cap - 1) es))) (none_there es no)
      ∙ put_first cap bytes es some
      ∙ ap (λ l. take cap ((key_of k, bytes) ∷ l)) (sym (remove_view es ∙ ap view (none_removed es no)))

-- the first entry's value is the first file's
pub front_view : (es : List (FileKey × List ℕ)) (k : FileKey) (bytes : List ℕ) → Some (k, bytes) ≡ slice_get es 0 → slice_get (map (λ entry. entry.1) (view es)) 0 ≡ Some bytes
front_view [] k bytes is = cc
front_view (e ∷ es) k bytes is = sym (ap (option_map (λ (entry : FileKey × List ℕ). entry.1)) is)

-- what was kept last stands in front
pub kept_front : (cap : ℕ) (key : Key) (bytes : List ℕ) (kept : ShelfFiles) → 0 < cap → slice_get (map (λ (entry : Key × List ℕ). entry.1) (keep cap key bytes kept)) 0 ≡ Some bytes
kept_front zero key bytes kept some = absurd (omega arith)
kept_front (suc n) key bytes kept some = refl

-- stores with the same files below the same root
pub same_shelf : (root : List ℕ) (cap : ℕ) (a b : ShelfFiles) → a ≡ b → shelf_of root cap a ≡ shelf_of root cap b
same_shelf root cap a b same = ap (shelf_of root cap) same

-- a key names its own file
same_bytes : (bytes : List ℕ) → pointwise nat_eq bytes bytes ≡ true
same_bytes [] = refl
same_bytes (b ∷ bytes) = rw (nat_eq_equiv.refl b) (same_bytes bytes)

pub key_itself : (key : Key) → key_eq key key ≡ true
key_itself key = rw (same_bytes key.0, same_bytes key.1) refl

-- a file that was kept is found, with its bytes
pub lookup_kept : (cap : ℕ) (key : Key) (bytes : List ℕ) (kept : ShelfFiles) → 0 < cap → lookup (key_eq key) (keep cap key bytes kept) ≡ Some bytes
lookup_kept zero key bytes kept room = absurd (omega arith)
lookup_kept (suc n) key bytes kept room = ap (λ b. cond b (Some bytes) (lookup (key_eq key) (take n (remove_entry (key_eq key) kept)))) (key_itself key)

-- to keep it once more changes nothing
pub keep_twice : (cap : ℕ) (key : Key) (bytes : List ℕ) (kept : ShelfFiles) → keep cap key bytes (keep cap key bytes kept) ≡ keep cap key bytes kept
keep_twice zero key bytes kept = refl
keep_twice (suc n) key bytes kept =
    let rest = take n (remove_entry (key_eq key) kept) in
    ap (λ b. (key, bytes) ∷ take n (cond b rest ((key, bytes) ∷ remove_entry (key_eq key) rest))) (key_itself key)
    ∙ ap (λ l. (key, bytes) ∷ l) (take-take n n (remove_entry (key_eq key) kept) (omega arith))
