-- What a store keeps: the bytes of files by their keys, the most recently used first.
use Rattle.std.specs.Prelude.{ℕ, List, [], ◌∷◌, map, take, Option, Some, None, refl}
use Rattle.std.specs.Map.{remove_entry}
use Rattle.std.specs.Coded.{Coded, code_by, coded×, coded_list, coded_ℕ}
use Rattle.lru.specs.LruCache.{LruCache}
use Rattle.bz_store.specs.declared.frame.FileKey.{FileKey}
use Rattle.bz_store.specs.Frames.{Key, key_eq, key_of}

abbrev pub ShelfFiles : Type 0
ShelfFiles = List (Key × List ℕ)

-- a store: where its files lie, how many may be kept, and those that are
pub record Shelf : Type 0 where
  pub root : List ℕ
  pub cap : ℕ
  pub files : ShelfFiles

abbrev pub coded_shelf : Coded Shelf
coded_shelf =
    code_by (List ℕ × (ℕ × ShelfFiles)) (coded× (coded_list coded_ℕ) (coded× coded_ℕ (coded_list (coded× (coded× (coded_list coded_ℕ) (coded_list coded_ℕ)) (coded_list coded_ℕ)))))
    (λ s. (s.root, (s.cap, s.files))) (λ p. record { root = p.0; cap = p.1.0; files = p.1.1 }) (λ _. refl)

abbrev pub new_shelf : List ℕ → ℕ → Shelf
new_shelf root cap = record { root = root; cap = cap; files = [] }

-- the file goes in front, out of its former place; the last goes where there are too many
abbrev pub keep : ℕ → Key → List ℕ → ShelfFiles → ShelfFiles
keep cap key bytes kept = take cap ((key, bytes) ∷ remove_entry (key_eq key) kept)

-- what is kept, with a file in front if it is kept
abbrev pub brought : ℕ → Key → Option (List ℕ) → ShelfFiles → ShelfFiles
brought cap key None kept = kept
brought cap key (Some bytes) kept = keep cap key bytes kept

-- the files that a cache keeps
abbrev pub kept_of : LruCache FileKey (List ℕ) → ShelfFiles
kept_of cache = map (λ entry. (key_of entry.0, entry.1)) cache.entries
