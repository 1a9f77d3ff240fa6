-- Which bytes can't stand where others end.
use Rattle.std.proofs.Common.{◌≡◌, ℕ, Bool, true, false, ◌||◌, List, [], ◌∷◌, nat_eq, inl, inr, refl, sym, subst, ◌∙◌}
use Rattle.std.proofs.lemmas.Bool.{or_cases, or_from, eqb-true, true≢false, false_from_ne_true}
use Rattle.bz_base.specs.Byte.{space, tab, is_blank, begins_with}
use Rattle.bz_breakpad_lines.specs.Byte.{is_hex, is_decimal, is_past_space}

-- a fact of the two blanks holds of each blank
at_blanks : (P : ℕ → Type 0) → P space → P tab → (b : ℕ) → is_blank b ≡ true → P b
at_blanks P at_space at_tab b is =
    elim (or_cases (nat_eq b space) (nat_eq b tab) is) [
      | inl e ↦ subst P (sym (eqb-true b space e)) at_space
      | inr e ↦ subst P (sym (eqb-true b tab e)) at_tab
    ]

pub blank_no_hex : (b : ℕ) → is_blank b ≡ true → is_hex b ≡ false
blank_no_hex = at_blanks (λ b. is_hex b ≡ false) refl refl

pub blank_no_decimal : (b : ℕ) → is_blank b ≡ true → is_decimal b ≡ false
blank_no_decimal = at_blanks (λ b. is_decimal b ≡ false) refl refl

pub blank_not_past : (b : ℕ) → is_blank b ≡ true → is_past_space b ≡ false
blank_not_past = at_blanks (λ b. is_past_space b ≡ false) refl refl

-- two kinds of bytes that have none in common
pub other_way : (f g : ℕ → Bool) → ((b : ℕ) → f b ≡ true → g b ≡ false) → (b : ℕ) → g b ≡ true → f b ≡ false
other_way f g apart b is = false_from_ne_true (f b) (λ yes. true≢false (sym is ∙ apart b yes))

-- what fails one test fails a narrower one
pub begins_narrower : (f g : ℕ → Bool) → ((b : ℕ) → f b ≡ false → g b ≡ false) → (text : List ℕ) → begins_with f text ≡ false → begins_with g text ≡ false
begins_narrower f g narrower [] is = refl
begins_narrower f g narrower (b ∷ text) is = narrower b is

pub begins_either : (f g : ℕ → Bool) (text : List ℕ) → begins_with f text ≡ false → begins_with g text ≡ false → begins_with (λ b. f b || g b) text ≡ false
begins_either f g [] no_f no_g = refl
begins_either f g (b ∷ text) no_f no_g = or_from (f b) (g b) no_f no_g
