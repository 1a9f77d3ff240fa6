-- Lists of worlds, their last one, and copies of a world.
use Rattle.std.proofs.Common.{◌≡◌, ℕ, List, [], ◌∷◌, ◌++◌, map, Option, String, string_bytes, BTreeMap, refl, ap, ap₂}
use Rattle.std.specs.List.{AllZip}
use Rattle.std.specs.FinMap as finite
use Rattle.bz_files.specs.declared.worlds.Held.{Held}
use Rattle.bz_files.specs.Held.{entry_of, world_of}
use Rattle.bz_files.specs.MemWorlds.{last_world, on_last, with_link, with_version}
use Rattle.bz_files.specs.World.{World, Entry, entry_at}

-- the last world of a list is the one at its end
pub last_at_end : (worlds : List World) (world : World) → last_world (worlds ++ world ∷ []) ≡ world
last_at_end [] world = refl
last_at_end (first ∷ []) world = refl
last_at_end (first ∷ next ∷ later) world = last_at_end (next ∷ later) world

-- and an edit acts on it
pub on_last_at_end : (edit : World → World) (worlds : List World) (world : World) → on_last edit (worlds ++ world ∷ []) ≡ worlds ++ edit world ∷ []
on_last_at_end edit [] world = refl
on_last_at_end edit (first ∷ []) world = refl
on_last_at_end edit (first ∷ next ∷ later) world = ap (λ rest. first ∷ rest) (on_last_at_end edit (next ∷ later) world)

-- an edit that changes nothing leaves the list
pub on_last_nothing : (worlds : List World) → on_last (λ world. world) worlds ≡ worlds
on_last_nothing [] = refl
on_last_nothing (world ∷ []) = refl
on_last_nothing (world ∷ next ∷ later) = ap (λ rest. world ∷ rest) (on_last_nothing (next ∷ later))

-- a link in the last world is made by what lies there at the old path
pub link_found : (path old : List ℕ) (worlds : List World) (there : Option Entry) → entry_at (last_world worlds) old ≡ there →
    on_last (with_link path old) worlds ≡ on_last (with_version path there) worlds
link_found path old [] there is = refl
link_found path old (world ∷ []) there is = rw is refl
link_found path old (world ∷ next ∷ later) there is = ap (λ rest. world ∷ rest) (link_found path old (next ∷ later) there is)

-- the world with one more at the end of the list
pub map_at_end : {A B : Type 0} (f : A → B) (xs : List A) (x : A) → map f (xs ++ x ∷ []) ≡ map f xs ++ f x ∷ []
map_at_end f [] x = refl
map_at_end f (first ∷ xs) x = ap (λ rest. f first ∷ rest) (map_at_end f xs x)

abbrev paired : List ℕ → Entry → List ℕ × Entry
paired path entry = (path, entry)

abbrev joined : List ℕ × Entry → List (List ℕ × Entry) → List (List ℕ × Entry)
joined first rest = first ∷ rest

-- entries whose keys and files are clones make the same world
module _ {Y : Type 0} where
  abbrev IsHeldClone : (String Y × Held) → (String Y × Held) → Type 0
  IsHeldClone held copy = (string_bytes copy.0 ≡ string_bytes held.0) × (entry_of copy.1 ≡ entry_of held.1)

  abbrev read : String Y × Held → List ℕ × Entry
  read e = (string_bytes e.0, entry_of e.1)

  entries_again : (held copies : List (String Y × Held)) → AllZip IsHeldClone held copies →
      map read copies ≡ map read held
  entries_again [] [] same = refl
  entries_again (e ∷ held) (copy ∷ copies) same =
      ap₂ joined (ap₂ paired same.0.0 same.0.1) (entries_again held copies same.1)
  entries_again [] (copy ∷ copies) same = absurd same
  entries_again (e ∷ held) [] same = absurd same

  pub world_again : (m copy : BTreeMap (String Y) Held) → AllZip IsHeldClone m.entries copy.entries → world_of copy ≡ world_of m
  world_again m copy same = ap finite.from_entries (entries_again m.entries copy.entries same)
