-- Files and readers that are read to their end, as far as they tell their bytes.
use Rattle.std.specs.Prelude.{◌≡◌, ℕ, List, length, nat_le, Option, Some, None, if◌then◌else◌}
use Rattle.bz_files.specs.World.{Told}
use Rattle.bz_files.specs.Looks.{most_bytes}

-- all of these bytes, or nothing where they are too many
abbrev pub readable : List ℕ → Option (List ℕ)
readable bytes = if nat_le (length bytes) most_bytes then Some bytes else None

-- the bytes are all that some file has, where it tells what it has. Which file it is, isn't said
abbrev pub IsWholeFile : {File : Type 0} → (File → Option (List ℕ)) → List ℕ → Type 0
IsWholeFile {File} told bytes = (file : File) × Told (told file) (λ all. bytes ≡ all)
