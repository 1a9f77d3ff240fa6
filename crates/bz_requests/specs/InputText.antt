-- The program's input: how long it may be, what it asks for, when it is bad, and how it is read.
use Rattle.std.specs.Prelude.{◌≡◌, ◌⊎◌, ℕ, ◌+◌, ◌-◌, ◌<◌, ◌≤◌, nat_lt, cond, List, ◌++◌, drop, length, Option, Some}
use Rattle.bz_files.specs.World.{Told}
use Rattle.bz_requests.specs.Lines as lines

-- the greatest length of an input, in bytes
abbrev pub greatest_input : ℕ
greatest_input = 16777216

-- what comes of an input: the first where it is too long, whatever its lines say, and else the second
abbrev pub by_length : {A : Type 0} → List ℕ → A → A → A
by_length text long of_lines = cond (nat_lt greatest_input (length text)) long of_lines

-- an input of lines, by what each of them spells
module _ {A : Type 0} (Spells : List ℕ → A → Type 0) where
  -- the input asks for these items: it isn't too long, and they are those that its lines say, in order
  pub record AsksFor (text : List ℕ) (items : List A) : Type 0 where
    pub short : length text ≤ greatest_input
    pub items_are : lines.AreItems Spells text items

  -- the input is too long, or has a line that is neither empty nor an item
  abbrev pub IsBadInput : List ℕ → Type 0
  IsBadInput text = (greatest_input < length text) ⊎ lines.HasBadLine Spells text

-- the bytes in front of what was left have been moved, and the rest is left
abbrev pub Moves : Option (List ℕ) → Option (List ℕ) → List ℕ → Type 0
Moves before after front = Told before (λ text. (rest : List ℕ) × (text ≡ front ++ rest) × (after ≡ Some rest))

-- how many bytes are still read where so many were: to one past the greatest length
abbrev pub room_after : ℕ → ℕ
room_after n = greatest_input + 1 - n

-- what is left of an input once it was read: nothing, or what lies past the byte that makes it too long
abbrev pub left_over : List ℕ → List ℕ
left_over text = drop (greatest_input + 1) text

-- no more than so many bytes in front of what was left have been moved
abbrev pub MovesAtMost : ℕ → Option (List ℕ) → Option (List ℕ) → Type 0
MovesAtMost bound before after = Told before (λ text. (n : ℕ) × (n ≤ bound) × (after ≡ Some (drop n text)))

-- the input was read: to its end, or to the byte that makes it too long
abbrev pub IsReadWhole : Option (List ℕ) → Option (List ℕ) → Type 0
IsReadWhole before after = Told before (λ text. after ≡ Some (left_over text))
