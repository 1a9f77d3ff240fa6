-- Reads a form from the front of a text.
use Rattle.std.specs.Prelude.{◌≡◌, ◌↔◌, ℕ, zero, suc, Bool, not, ◌==◌, ◌&&◌, nat_eq, List, [], ◌∷◌, length, take, drop, Option, Some, None, option_map, if◌then◌else◌}
use Rattle.std.specs.List.{prefix_len, starts_with}
use Rattle.std.specs.Str.{is_utf8}
use Rattle.bz_base.specs.Bind.{◌>>=◌}
use Rattle.bz_base.specs.Byte.{is_blank, begins_with}
use Rattle.bz_base.specs.Number.{hex_at, decimal_at}
use Rattle.bz_breakpad_lines.specs.Byte.{is_space, is_word_byte}
use Rattle.bz_breakpad_lines.specs.Form.{Piece, Form, Tell, told, Value, some_bytes, anything, is_word, greatest, nothing, Spells}
use Rattle.bz_breakpad_lines.specs.Form.Piece.{Tag, Mark, Separator, ModuleSeparator, Gap, Word, Hex, Decimal}
use Rattle.bz_breakpad_lines.specs.Form.Form.{End, Name, SeparatorText, Many, ◌·◌}

-- the longest run of such bytes at the front, if it passes as a whole, and the text after it
unfoldable pub run_at : {A : Type 0} → (ℕ → Bool) → (List ℕ → Bool) → (List ℕ → A) → List ℕ → Option (A × List ℕ)
run_at byte whole tell text =
    let n = prefix_len byte text in
    if whole (take n text) then Some (tell (take n text), drop n text) else None

-- the text after the byte and a separator, and else the text
unfoldable pub mark_at : ℕ → List ℕ → List ℕ
mark_at b [] = []
mark_at b (c ∷ text) = if c == b && begins_with is_blank text then drop (prefix_len is_blank text) text else c ∷ text

-- the piece at the front of the text
unfoldable pub piece_at : (p : Piece) → List ℕ → Option (Tell p × List ℕ)
piece_at (Tag tag) text = if starts_with nat_eq text tag then Some (tt, drop (length tag) text) else None
piece_at (Mark b) text = Some (tt, mark_at b text)
piece_at Separator text = run_at is_blank some_bytes nothing text
piece_at ModuleSeparator text = run_at is_blank (begins_with is_space) nothing text
piece_at Gap text = run_at is_blank anything nothing text
piece_at Word text = run_at is_word_byte is_word nothing text
piece_at (Hex most) text = hex_at most text
piece_at Decimal text = decimal_at 10 greatest text

unfoldable pub name_at : List ℕ → Option (List ℕ × List ℕ)
name_at text = if not (begins_with is_blank text) && is_utf8 text then Some (text, []) else None

-- what was read, and what the rest gives, unless nothing is left
abbrev pub joined : {A : Type 0} → A → List ℕ → (List ℕ → Option (List A)) → Option (List A)
joined a [] next = Some (a ∷ [])
joined a (b ∷ text) next = option_map (λ rest. a ∷ rest) (next (b ∷ text))

-- the whole text, by one reading after another, and by at most so many
unfoldable pub turns_at : {A : Type 0} → ℕ → (List ℕ → Option (A × List ℕ)) → List ℕ → Option (List A)
turns_at zero read text = None
turns_at (suc n) read text = read text >>= (λ x. joined x.0 x.1 (turns_at n read))

-- the whole text, by one reading after another
unfoldable pub many_at : {A : Type 0} → (List ℕ → Option (A × List ℕ)) → List ℕ → Option (List A)
many_at read text = turns_at (length text) read text

abbrev pub reads : (f : Form) → List ℕ → Option (Value f × List ℕ)
reads End text = Some (tt, text)
reads Name text = name_at text
reads SeparatorText text = if begins_with is_blank text then Some (tt, []) else None
reads (Many f) text = option_map (λ vs. (vs, [])) (many_at (reads f) text)
reads (p · f) text = piece_at p text >>= (λ x. option_map (λ y. (told p x.0 y.0, y.1)) (reads f x.1))

-- where nothing is left
abbrev pub end_at : List ℕ → Option (Unit {0})
end_at [] = Some tt
end_at (b ∷ text) = None

-- what was read, where nothing is left
abbrev pub complete : {A : Type 0} → A × List ℕ → Option A
complete read = option_map (λ _. read.0) (end_at read.1)

-- what the whole text tells, if it has the form
abbrev pub form_at : (f : Form) → List ℕ → Option (Value f)
form_at f text = reads f text >>= complete

-- the form is read from the lines that have it, with what they tell, and from no other
abbrev pub IsReadExactly : Form → Type 0
IsReadExactly f = (line : List ℕ) (value : Value f) → (form_at f line ≡ Some value) ↔ Spells f line value
