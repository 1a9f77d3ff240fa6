-- Whether a record with a start and a size in bytes covers an address.
use Rattle.std.specs.Prelude.{◌≡◌, ◌⊎◌, ℕ, ◌+◌, ◌<◌, ◌≤◌, Bool, ◌==◌, nat_le, nat_lt, ◌&&◌, ◌||◌, Option, Some, None, if◌then◌else◌}

-- the greatest address
abbrev pub last_address : ℕ
last_address = 18446744073709551615

-- an address, where it fits 64 bits
abbrev pub fitting : ℕ → Option ℕ
fitting addr = if nat_le addr last_address then Some addr else None

-- the record has the address inside: it lies from the start on and before the end, and the end fits 64
-- bits
abbrev pub inside : ℕ → ℕ → ℕ → Bool
inside start size addr = nat_le (start + size) last_address && (nat_le start addr && nat_lt addr (start + size))

-- the record covers the address: it has it inside, or has size 0 and starts there
abbrev pub covers : ℕ → ℕ → ℕ → Bool
covers start size addr = (size == 0 && addr == start) || inside start size addr

-- the same as a relation: the size is 0 and the address is the start; or the end is at most the
-- greatest address, and the address lies from the start on and before the end
abbrev pub Covers : ℕ → ℕ → ℕ → Type 0
Covers start size addr = ((size ≡ 0) × (addr ≡ start)) ⊎ ((start + size ≤ last_address) × (start ≤ addr) × (addr < start + size))
