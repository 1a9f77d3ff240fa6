-- Stacks as lines spell them: one or more addresses and then a count, with one space between each two.
use Rattle.std.specs.Prelude.{ℕ, ◌<◌, List, [], ◌∷◌, ◌++◌, length, Option, None, Result, option_map, option_and_then}
use Rattle.std.specs.List.{AllZip}
use Rattle.bz_base.specs.Number.{IsDecimal, decimal_at, whole}
use Rattle.bz_requests.specs.Addresses.{IsAddress, address_in}
use Rattle.bz_requests.specs.Fields.{AreFields, fields}
use Rattle.bz_requests.specs.Lines.{AreItems, items_in}
use Rattle.bz_stacks.specs.Stack.{CountedStack}

-- a field is a count: 1 to 10 decimal digits of a number of 32 bits
abbrev pub IsCount : List ℕ → ℕ → Type 0
IsCount field count = IsDecimal 10 4294967295 field count

-- a text is a stack: its fields are addresses, one at least, and then the count
pub record IsStack (text : List ℕ) (stack : CountedStack) : Type 0 where
  pub front : List (List ℕ)
  pub last : List ℕ
  pub are_fields : AreFields text (front ++ last ∷ [])
  pub positive : 0 < length front
  pub addresses : AllZip IsAddress front stack.addrs
  pub count : IsCount last stack.count

-- the stacks are those that the lines of the text say, in order
abbrev pub AreStacks : List ℕ → List CountedStack → Type 0
AreStacks text stacks = AreItems IsStack text stacks

-- What is read of a line, by its fields. That it is what the line spells is a law of this crate.

abbrev pub count_in : List ℕ → Option ℕ
count_in field = whole (decimal_at 10 4294967295 field)

abbrev pub with_addr : ℕ → CountedStack → CountedStack
with_addr addr stack = record { addrs = addr ∷ stack.addrs; count = stack.count }

-- the addresses in front, and the count of the last field
abbrev pub counted_in : List (List ℕ) → Option CountedStack
counted_in [] = None
counted_in (last ∷ []) = option_map (λ count. record { addrs = []; count = count }) (count_in last)
counted_in (field ∷ next ∷ others) = option_and_then (λ addr. option_map (with_addr addr) (counted_in (next ∷ others))) (address_in field)

-- a stack of addresses and a count that were read
abbrev pub taken_by : Option (List ℕ) → Option ℕ → Option CountedStack
taken_by addrs count = option_and_then (λ all. option_map (λ number. record { addrs = all; count = number }) count) addrs

-- the addresses in front and the count, where an address is there
abbrev pub stack_by : List (List ℕ) → Option CountedStack
stack_by [] = None
stack_by (last ∷ []) = None
stack_by (field ∷ next ∷ others) = counted_in (field ∷ next ∷ others)

-- the stack that the text spells
unfoldable pub stack_in : List ℕ → Option CountedStack
stack_in text = stack_by (fields text)

-- the stacks of the text, or the number of its first bad line
abbrev pub stacks_in : List ℕ → Result (List CountedStack) ℕ
stacks_in text = items_in stack_in text
