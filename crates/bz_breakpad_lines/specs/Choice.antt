-- One of several forms, and the line of a record.
use Rattle.std.specs.Prelude.{◌≡◌, ◌↔◌, ℕ, not, ◌⊎◌, List, [], ◌∷◌, ◌++◌, take, drop, Option, Some, None, option_map, if◌then◌else◌}
use mathlib.Core.Logic.{inl, inr}
use Rattle.std.specs.List.{prefix_len, list_all}
use Rattle.bz_base.specs.Bind.{◌>>=◌}
use Rattle.bz_breakpad_lines.specs.Byte.{is_carriage_return}
use Rattle.bz_breakpad_lines.specs.Form.{Form, Value, AllPass, Spells}
use Rattle.bz_breakpad_lines.specs.Reads.{form_at}

-- what a line tells that has one of the forms: which, and its value
abbrev pub One : List Form → Type 0
One [] = ⊥
One (f ∷ forms) = Value f ⊎ One forms

abbrev pub SpellsOne : (forms : List Form) → List ℕ → One forms → Type 0
SpellsOne [] text none = ⊥
SpellsOne (f ∷ forms) text (inl value) = Spells f text value
SpellsOne (f ∷ forms) text (inr other) = SpellsOne forms text other

abbrev pub or_else : {A B : Type 0} → Option A → Option B → Option (A ⊎ B)
or_else (Some a) other = Some (inl a)
or_else None other = option_map inr other

-- the first of the forms that the text has
abbrev pub one_at : (forms : List Form) → List ℕ → Option (One forms)
one_at [] text = None
one_at (f ∷ forms) text = or_else (form_at f text) (one_at forms text)

-- a line is its body and any number of carriage returns
pub record IsBody (line body : List ℕ) : Type 0 where
  pub ends : List ℕ
  pub whole : line ≡ body ++ ends
  pub body_is : AllPass (λ b. not (is_carriage_return b)) body
  pub ends_are : AllPass is_carriage_return ends

unfoldable pub body_at : List ℕ → Option (List ℕ)
body_at line =
    let n = prefix_len (λ b. not (is_carriage_return b)) line in
    if list_all is_carriage_return (drop n line) then Some (take n line) else None

-- the line of a record of one of the forms
pub record IsLine (forms : List Form) (line : List ℕ) (one : One forms) : Type 0 where
  pub body : List ℕ
  pub body_is : IsBody line body
  pub spells : SpellsOne forms body one

abbrev pub one_of_line : (forms : List Form) → List ℕ → Option (One forms)
one_of_line forms line = body_at line >>= one_at forms

abbrev pub AreReadExactly : List Form → Type 0
AreReadExactly forms = (line : List ℕ) (one : One forms) → (one_of_line forms line ≡ Some one) ↔ IsLine forms line one
