-- How many steps the searches of a batch take.
use Rattle.std.specs.Prelude.{◌≡◌, ◌⊎◌, ℕ, ◌-◌, ◌≤◌, List, Some}
use Rattle.bz_cache.specs.Cache.{Cache, kept_at}
use Rattle.bz_breakpad.specs.Probes.{AreFewSteps}
use Rattle.bz_breakpad.specs.Reader.{table_in}
use Rattle.bz_breakpad.specs.Table.{Table}
use Rattle.bz_lookups.specs.Batch.{Version, BreakpadVersion}

-- those on the bytes of a Breakpad file: few for each address, by how many functions and PUBLIC records
-- the file has
pub record BreakpadSteps (bytes : List ℕ) (addrs before after : ℕ) : Type 0 where
  pub more : before ≤ after
  pub probes : (table : Table) → table_in bytes ≡ Some table → AreFewSteps table addrs (after - before)

-- the same, or none, as where the kind of the addresses is refused
abbrev pub breakpad_steps : List ℕ → ℕ → ℕ → ℕ → Type 0
breakpad_steps bytes addrs before after = (after ≡ before) ⊎ BreakpadSteps bytes addrs before after

-- none is counted
abbrev pub no_steps : List ℕ → ℕ → ℕ → ℕ → Type 0
no_steps bytes addrs before after = after ≡ before

-- those of a search in the version that is held
abbrev pub VersionSteps : Version → ℕ → ℕ → ℕ → Type 0
VersionSteps (BreakpadVersion bytes) addrs before after = BreakpadSteps bytes addrs before after
VersionSteps _ addrs before after = after ≡ before

-- a search in the version takes no other steps than these
abbrev pub TakesSteps : Version → (ℕ → ℕ → ℕ → Type 0) → Type 0
TakesSteps version steps = (addrs before after : ℕ) → VersionSteps version addrs before after → steps addrs before after

-- those of a call on one file: none, or those of the version that is kept now
abbrev pub FileSteps : (List ℕ → ℕ → ℕ → ℕ → Type 0) → Cache → List ℕ → ℕ → ℕ → ℕ → Type 0
FileSteps steps now path addrs before after = (after ≡ before) ⊎ ((bytes : List ℕ) × (kept_at now path ≡ Some bytes) × steps bytes addrs before after)
