-- The bytes that cut a text into lines and fields, by name.
use Rattle.std.specs.Prelude.{◌≡◌, ℕ, Bool, ◌==◌, ◌||◌, false, List, [], ◌∷◌}
use Rattle.std.specs.List.{list_any}

-- the byte that ends a text of C
abbrev pub zero_byte : ℕ
zero_byte = 0

abbrev pub tab : ℕ
tab = 9

abbrev pub line_feed : ℕ
line_feed = 10

abbrev pub carriage_return : ℕ
carriage_return = 13

abbrev pub space : ℕ
space = 32

abbrev pub dash : ℕ
dash = 45

-- a space or a tab
abbrev pub is_blank : ℕ → Bool
is_blank b = b == space || b == tab

-- the byte doesn't stand in the text
abbrev pub HasNo : ℕ → List ℕ → Type 0
HasNo byte text = list_any (λ b. b == byte) text ≡ false

-- the text begins with a byte that passes
abbrev pub begins_with : (ℕ → Bool) → List ℕ → Bool
begins_with test [] = false
begins_with test (b ∷ bs) = test b
