-- LEB128 numbers, of the DWARF standard, as they are written: in as few bytes as hold them, 7 bits in
-- each, the least first. All but the last are marked.
use Rattle.std.specs.Prelude.{ℕ, zero, suc, ℤ, pos, negsuc, ◌+◌, ◌-◌, ◌/◌, ◌%◌, nat_lt, List, [], ◌∷◌, if◌then◌else◌}

-- an unsigned number, with so many bytes behind the first at most
abbrev pub unsigned_within : ℕ → ℕ → List ℕ
unsigned_within zero number = number ∷ []
unsigned_within (suc more) number = if nat_lt number 128 then number ∷ [] else (128 + number % 128) ∷ unsigned_within more (number / 128)

-- a number from 0 on, whose last byte has bit 6 clear
abbrev pub positive_within : ℕ → ℕ → List ℕ
positive_within zero number = number ∷ []
positive_within (suc more) number = if nat_lt number 64 then number ∷ [] else (128 + number % 128) ∷ positive_within more (number / 128)

-- a number so far below -1: its bits are those of the distance turned round, and its last byte has bit
-- 6 set
abbrev pub negative_within : ℕ → ℕ → List ℕ
negative_within zero below = (127 - below) ∷ []
negative_within (suc more) below = if nat_lt below 64 then (127 - below) ∷ [] else (255 - below % 128) ∷ negative_within more (below / 128)

-- ten bytes have a number of 64 bits
unfoldable pub uleb : ℕ → List ℕ
uleb number = unsigned_within 9 number

unfoldable pub sleb : ℤ → List ℕ
sleb (pos number) = positive_within 9 number
sleb (negsuc below) = negative_within 9 below
