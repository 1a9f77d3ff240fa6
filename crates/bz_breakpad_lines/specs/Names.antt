-- Names by their ids: of the records that have one id, the last one counts.
use Rattle.std.specs.Prelude.{◌≡◌, ℕ, ◌+◌, Bool, ◌==◌, ◌||◌, false, List, [], ◌∷◌, length, Option, Some, None, if◌then◌else◌}
use Rattle.std.specs.BTreeMap.{insert_entry, is_at}
use Rattle.std.specs.Map.{lookup}
use Rattle.std.specs.Ordering.{nat_cmp}
use Rattle.bz_breakpad_lines.specs.Table.{Named}

-- the names with one record more, which counts in place of an earlier one of its id
abbrev pub with_name : List (ℕ × List ℕ) → Named → List (ℕ × List ℕ)
with_name names n = insert_entry nat_cmp names n.id n.name

abbrev pub with_names : List (ℕ × List ℕ) → List Named → List (ℕ × List ℕ)
with_names names [] = names
with_names names (n ∷ more) = with_names (with_name names n) more

-- the names of the records, by id
abbrev pub names_in : List Named → List (ℕ × List ℕ)
names_in records = with_names [] records

-- the name of an id
abbrev pub name_for : ℕ → List (ℕ × List ℕ) → Option (List ℕ)
name_for id names = lookup (is_at (nat_cmp id)) names

-- a name, where no later one is there
abbrev pub or_earlier : Option (List ℕ) → Option (List ℕ) → Option (List ℕ)
or_earlier (Some later) earlier = Some later
or_earlier None earlier = earlier

-- the name in the last of the records that have the id
abbrev pub last_name : ℕ → List Named → Option (List ℕ)
last_name id [] = None
last_name id (n ∷ records) = or_earlier (last_name id records) (if n.id == id then Some n.name else None)

-- some record has the id
abbrev pub is_named : ℕ → List Named → Bool
is_named id [] = false
is_named id (n ∷ records) = n.id == id || is_named id records

-- how many ids the records have: each is counted at its last record
abbrev pub id_count : List Named → ℕ
id_count [] = 0
id_count (n ∷ records) = (if is_named n.id records then 0 else 1) + id_count records

-- the names by id are those of the last records
pub record AreLastNames (records : List Named) (names : List (ℕ × List ℕ)) : Type 0 where
  pub last : (id : ℕ) → name_for id names ≡ last_name id records
  pub count : length names ≡ id_count records
