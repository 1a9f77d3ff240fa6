-- A map as the list of its entries, in the order of their keys.
use Rattle.std.specs.Prelude.{◌≡◌, ℕ, Bool, ◌<◌, ◌≤◌, List, length, Option, Some, None, slice_get, slice_set, insert, remove}
use Rattle.std.specs.Option.{option_map_or}
use Rattle.std.specs.Fn.{Mut, Called}
use Rattle.std.specs.Borrow.{Bor}
use Rattle.std.specs.Map.{lookup, remove_entry, set_value}
use Rattle.std.specs.BTreeMap.{is_at, insert_entry}
use Rattle.std.specs.declared.cmp.Ordering.{Ordering}

-- f was called at a key and its value, answered b, and is f' then
pub record CalledAtEntry {F K V : Type 0} (g : Mut F (Bor K × (Bor V × Unit {0})) Bool) (f : F) (e : K × V) (b : Bool) (f' : F) : Type 0 where
  pub key : Bor K
  pub value : Bor V
  pub shows : (key.now ≡ e.0) × (value.now ≡ e.1)
  pub called : Called g f (key, (value, tt)) b f'

module _ {K V : Type 0} (cmp : K → K → Ordering) where
  -- the value at the key
  abbrev pub value_at : List (K × V) → K → Option V
  value_at entries k = lookup (is_at (cmp k)) entries

  -- the entries with the value at the key, if the key isn't there
  abbrev pub with_absent : List (K × V) → K → V → List (K × V)
  with_absent entries k v = option_map_or (λ _. entries) (value_at entries k) (insert_entry cmp entries k v)

  -- the entries with the value at the key, if the key is there
  abbrev pub with_value : List (K × V) → K → V → List (K × V)
  with_value entries k v = set_value (is_at (cmp k)) entries v

  -- the entries without the key
  abbrev pub without : List (K × V) → K → List (K × V)
  without entries k = remove_entry (is_at (cmp k)) entries

  -- the key is at the place, with its value
  pub record IsKeyAt (entries : List (K × V)) (k : K) (i : ℕ) : Type 0 where
    pub entry : K × V
    pub in_range : i < length entries
    pub there : slice_get entries i ≡ Some entry
    pub value : value_at entries k ≡ Some entry.1
    pub removed : without entries k ≡ remove entries i
    pub replaced : (v : V) → with_value entries k v ≡ slice_set entries i (entry.0, v)

  -- the key isn't there, and the place is the one where it goes
  pub record IsGapFor (entries : List (K × V)) (k : K) (i : ℕ) : Type 0 where
    pub in_range : i ≤ length entries
    pub absent : value_at entries k ≡ None
    pub kept : without entries k ≡ entries
    pub not_replaced : (v : V) → with_value entries k v ≡ entries
    pub inserted : (v : V) → insert_entry cmp entries k v ≡ insert entries i (k, v)
