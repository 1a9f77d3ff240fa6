-- Addresses as a text spells them, and lines of them.
use Rattle.std.specs.Prelude.{◌≡◌, ◌⊎◌, ℕ, nat_eq, List, [], ◌∷◌, ◌++◌, drop, codes, Option, Some, Result, option_map, option_and_then, if◌then◌else◌}
use Rattle.std.specs.List.{starts_with}
use Rattle.bz_base.specs.Number.{IsHex, hex_at, whole}
use Rattle.bz_requests.specs.Lines.{AreItems, items_in}

-- an address's spelling: `0x` or nothing, then 1 to 16 hexadecimal digits in either case
pub record IsAddress (text : List ℕ) (addr : ℕ) : Type 0 where
  pub digits : List ℕ
  pub spelled : (text ≡ digits) ⊎ (text ≡ codes "0x" ++ digits)
  pub number : IsHex 16 digits addr

-- the addresses are those that the lines of the text say, in order
abbrev pub AreAddresses : List ℕ → List ℕ → Type 0
AreAddresses text addrs = AreItems IsAddress text addrs

-- the text without the `0x` that may stand in front
abbrev pub digits_in : List ℕ → List ℕ
digits_in text = if starts_with nat_eq text (codes "0x") then drop 2 text else text

-- the address that the text spells
abbrev pub address_in : List ℕ → Option ℕ
address_in text = whole (hex_at 16 (digits_in text))

-- the addresses that fields spell, each of them
abbrev pub each_address_in : List (List ℕ) → Option (List ℕ)
each_address_in [] = Some []
each_address_in (field ∷ others) = option_and_then (λ addr. option_map (λ addrs. addr ∷ addrs) (each_address_in others)) (address_in field)

-- the addresses of the text, or the number of its first bad line
abbrev pub addresses_in : List ℕ → Result (List ℕ) ℕ
addresses_in text = items_in address_in text
