-- The addresses of PUBLIC records (Breakpad's docs/symbol_files.md), in their order,
-- and the first record of each.
use Rattle.std.specs.Prelude.{◌≡◌, ◌≤◌, ℕ, suc, List, [], ◌∷◌, length, map, Some, slice_get}
use Rattle.bz_breakpad_lines.specs.LineStarts.{StrictlyAscends}
use Rattle.bz_breakpad_table.specs.declared.publics.PublicKey.{PublicKey}
use Rattle.bz_breakpad_table.specs.declared.publics.PublicTable.{PublicTable}
use Rattle.bz_breakpad_table.specs.declared.types.KeptPublic.{KeptPublic}

-- the addresses are those of the records, each once, in order
pub record AreAddresses (starts addresses : List ℕ) : Type 0 where
  pub ascend : StrictlyAscends addresses
  pub each : (i s : ℕ) → slice_get starts i ≡ Some s → (k : ℕ) × (slice_get addresses k ≡ Some s)
  pub only : (k s : ℕ) → slice_get addresses k ≡ Some s → (i : ℕ) × (slice_get starts i ≡ Some s)

-- the record of the index is the first that starts there
pub record IsFirst (starts : List ℕ) (start index : ℕ) : Type 0 where
  pub there : slice_get starts index ≡ Some start
  pub first : (i : ℕ) → slice_get starts i ≡ Some start → index ≤ i

-- the keys are of the first record at each of the addresses
pub record ArePublicKeys (starts : List ℕ) (keys : List PublicKey) : Type 0 where
  pub addresses : AreAddresses starts (map (λ k. k.start) keys)
  pub firsts : (k : ℕ) (key : PublicKey) → slice_get keys k ≡ Some key → IsFirst starts key.start key.index

-- the starts of PUBLIC records, in the order of the file
abbrev pub starts_kept : List KeptPublic → List ℕ
starts_kept publics = map (λ p. p.start) publics

-- the addresses of the records, and the index of the first record at each
pub record IsPublicTable (publics : List KeptPublic) (table : PublicTable) : Type 0 where
  pub addresses : AreAddresses (starts_kept publics) table.starts
  pub count : length table.indices.items ≡ length table.starts
  pub firsts : (k start index : ℕ) → slice_get table.starts k ≡ Some start → slice_get table.indices.items k ≡ Some index → IsFirst (starts_kept publics) start index

-- the keys of records that start so, of which the first has this index
abbrev pub public_keys_from : ℕ → List ℕ → List PublicKey
public_keys_from index [] = []
public_keys_from index (s ∷ starts) = record { start = s; index = index } ∷ public_keys_from (suc index) starts
