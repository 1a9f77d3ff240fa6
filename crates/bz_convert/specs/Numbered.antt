-- Texts and source files of a plan that is collected, numbered where they are first used.
use Rattle.std.specs.Prelude.{◌≡◌, ◌⊎◌, ℕ, List, ◌++◌, length, map, Option, Some, slice_get}
use Rattle.bz_breakpad_lines.specs.Table.{Table}
use Rattle.bz_convert.specs.Plan.{origin_named, source_named}
use Rattle.bz_convert.specs.declared.conversion.numbering.Numbering.{Numbering}
use Rattle.bz_gsym_layout.specs.Indexed as indexed
use Rattle.bz_gsym_layout.specs.Indexed.{source_of}
use Rattle.bz_gsym_layout.specs.Listing.{AreTexts, HasFileIndexes, listed_texts}
use Rattle.bz_gsym_layout.specs.Numbering.{firsts, same_source}
use Rattle.bz_gsym_layout.specs.Plan.{Source}

-- the source files, in texts
abbrev pub listed_sources : Numbering → List Source
listed_sources n = map (source_of (listed_texts n.texts)) n.sources.listed.items

-- texts and source files were used in this order
pub record AreNumbered (used : List (List ℕ)) (used_sources : List Source) (n : Numbering) : Type 0 where
  pub texts : AreTexts used n.texts
  pub sources : listed_sources n ≡ firsts same_source used_sources
  pub files : HasFileIndexes n.sources
  pub within : indexed.AreFiles (length (listed_texts n.texts)) n.sources.listed.items

-- an index that is known is that of an id's source file, or of an origin's text
pub record AreKnown (table : Table) (n : Numbering) : Type 0 where
  pub files : (id index : ℕ) → slice_get n.files.items id ≡ Some (Some index) → slice_get (listed_sources n) index ≡ Some (source_named table id)
  pub origins : (id index : ℕ) → slice_get n.origins.items id ≡ Some (Some index) → slice_get (listed_texts n.texts) index ≡ Some (origin_named table id)

-- texts and source files were used in this order, and what is known of ids is right
pub record IsNumbering (table : Table) (used : List (List ℕ)) (used_sources : List Source) (n : Numbering) : Type 0 where
  pub numbered : AreNumbered used used_sources n
  pub known : AreKnown table n

-- they were used in some order
abbrev pub IsNumbered : Table → Numbering → Type 0
IsNumbered table n = (texts : List (List ℕ)) × (sources : List Source) × IsNumbering table texts sources n

-- these texts and source files are used, behind those that were used before
abbrev pub Uses : Table → List (List ℕ) → List Source → Numbering → Numbering → Type 0
Uses table more more_sources old new = (texts : List (List ℕ)) (sources : List Source) → IsNumbering table texts sources old → IsNumbering table (texts ++ more) (sources ++ more_sources) new

-- each index that is known was so before, or is that of the id
abbrev pub IsRemembered : List (Option ℕ) → List (Option ℕ) → ℕ → ℕ → Type 0
IsRemembered old new id index = (i j : ℕ) → slice_get new i ≡ Some (Some j) → (slice_get old i ≡ Some (Some j)) ⊎ ((i ≡ id) × (j ≡ index))
