-- What a look at a map of held files finds in its world, and what an edit of the map does to the world.
use Rattle.std.proofs.Common.{◌≡◌, ℕ, Bool, true, false, cond, List, [], ◌∷◌, map, Option, Some, None, option_map, is_some, String, string_bytes, BTreeMap, Bor, refl, sym, ap, ◌∙◌}
use Rattle.std.specs.Option.{option_copied}
use Rattle.std.specs.BTreeMap.{UpdatesBy, get_by_text, is_at}
use Rattle.std.specs.Map.{lookup}
use Rattle.std.specs.String.{string_cmp}
use Rattle.std.specs.Str.{bytes_eq}
use Rattle.std.specs.Ordering.{nat_cmp, eq_by_cmp}
use Rattle.std.specs.Cmp.Lexicographic.{slice_cmp, nat_list_cmp_total, nat_list_eq_equiv}
use Rattle.std.specs.FinMap.{find, get-from_entries, get-insert, get-remove, same_map, nat_cmp-IsAntisymmetric, slice_cmp-IsAntisymmetric}
use Rattle.std.proofs.lemmas.Map.Text.{btree_map_updates_text, is_eq-slice_cmp}
use Rattle.bz_files.specs.declared.worlds.Held.{Held}
use Rattle.bz_files.specs.World.{entry_at, with_entry, without_entry}
use Rattle.bz_files.specs.Held.{entry_of, world_of}

-- a choice of held files, read as entries
entry-cond : (b : Bool) (first second : Option Held) → option_map entry_of (cond b first second) ≡ cond b (option_map entry_of first) (option_map entry_of second)
entry-cond true first second = refl
entry-cond false first second = refl

-- what a borrowed file is, as what is held behind the borrow
option_map-now : (held : Option (Bor Held)) → option_map (λ h. entry_of h.now) held ≡ option_map entry_of (option_copied held)
option_map-now None = refl
option_map-now (Some held) = refl

-- whether something is there is the same of a held file and of its entry
is_some-entry : (held : Option Held) → is_some (option_map entry_of held) ≡ is_some held
is_some-entry None = refl
is_some-entry (Some held) = refl

module _ {Y : Type 0} where
  -- the first entry with the path is that of the first held file with it
  find_held : (path : List ℕ) (held : List (String Y × Held)) → find (slice_cmp nat_cmp) path (map (λ e. (string_bytes e.0, entry_of e.1)) held) ≡ option_map entry_of (lookup (is_at (λ key. slice_cmp nat_cmp path (string_bytes key))) held)
  find_held path [] = refl
  find_held path (e ∷ held) =
      ap (cond (eq_by_cmp (slice_cmp nat_cmp) path (string_bytes e.0)) (Some (entry_of e.1))) (find_held path held)
      ∙ sym (entry-cond (eq_by_cmp (slice_cmp nat_cmp) path (string_bytes e.0)) (Some e.1) (lookup (is_at (λ key. slice_cmp nat_cmp path (string_bytes key))) held))

  -- the world has the entry of what is held at the path
  pub entry_held : (m : BTreeMap (String Y) Held) (path : List ℕ) → entry_at (world_of m) path ≡ option_map entry_of (get_by_text m path)
  entry_held m path = get-from_entries nat_list_cmp_total _ path ∙ find_held path m.entries

  -- a borrowed file that the map gives for the path is the world's entry there
  pub entry_found : (m : BTreeMap (String Y) Held) (path : List ℕ) (held : Option (Bor Held)) → option_copied held ≡ get_by_text m path → option_map (λ h. entry_of h.now) held ≡ entry_at (world_of m) path
  entry_found m path held found = option_map-now held ∙ ap (option_map entry_of) found ∙ sym (entry_held m path)

  -- something is there in the world exactly where something is held
  pub is_some_held : (m : BTreeMap (String Y) Held) (path : List ℕ) → is_some (entry_at (world_of m) path) ≡ is_some (get_by_text m path)
  is_some_held m path = ap is_some (entry_held m path) ∙ is_some-entry (get_by_text m path)

  module _ (old new : BTreeMap (String Y) Held) (path : List ℕ) (now : Option Held) (updates : UpdatesBy string_cmp (λ key. slice_cmp nat_cmp path (string_bytes key)) old new now) where
    -- after an edit at the path the world has there what is now held, and elsewhere what it had
    entry_updated : (other : List ℕ) → entry_at (world_of new) other ≡ cond (eq_by_cmp (slice_cmp nat_cmp) other path) (option_map entry_of now) (entry_at (world_of old) other)
    entry_updated other =
        entry_held new other
        ∙ ap (option_map entry_of) (btree_map_updates_text path old new now updates other)
        ∙ entry-cond (bytes_eq path other) now (get_by_text old other)
        ∙ ap (λ b. cond b (option_map entry_of now) (option_map entry_of (get_by_text old other))) (nat_list_eq_equiv.symm path other ∙ sym (is_eq-slice_cmp other path))
        ∙ ap (cond (eq_by_cmp (slice_cmp nat_cmp) other path) (option_map entry_of now)) (sym (entry_held old other))

  -- a file that is held at the path is its entry in the world
  pub world_held : (old new : BTreeMap (String Y) Held) (path : List ℕ) (held : Held) → UpdatesBy string_cmp (λ key. slice_cmp nat_cmp path (string_bytes key)) old new (Some held) → world_of new ≡ with_entry path (entry_of held) (world_of old)
  world_held old new path held updates =
      same_map nat_list_cmp_total (slice_cmp-IsAntisymmetric nat_cmp-IsAntisymmetric) _ _
      (λ other. entry_updated old new path (Some held) updates other ∙ sym (get-insert nat_list_cmp_total (world_of old) path (entry_of held) other))

  -- where nothing is held at the path any more, the world has nothing there
  pub world_cleared : (old new : BTreeMap (String Y) Held) (path : List ℕ) → UpdatesBy string_cmp (λ key. slice_cmp nat_cmp path (string_bytes key)) old new None → world_of new ≡ without_entry path (world_of old)
  world_cleared old new path updates =
      same_map nat_list_cmp_total (slice_cmp-IsAntisymmetric nat_cmp-IsAntisymmetric) _ _
      (λ other. entry_updated old new path None updates other ∙ sym (get-remove nat_list_cmp_total (world_of old) path other))
