-- A text before a zero byte is a name where it is UTF-8.
use Rattle.std.proofs.Common.{◌≡◌, ℕ, true, ◌≤◌, inl, inr, length, drop, List, [], Some, sym, ap, subst, arith}
use Rattle.std.specs.List.{list_any}
use Rattle.std.specs.Str.{IsUtf8, is_utf8}
use Rattle.std.proofs.lemmas.Bool.{and_from, and_parts, cases_lt}
use Rattle.std.proofs.Math.ListN.{drop_of_length-le}
use Rattle.std.proofs.lemmas.Str.{IsUtf8-from_is_utf8, is_utf8-from_IsUtf8}
use Rattle.bz_base.specs.ZeroEnded.{before_zero, zero_ended, is_zero}
use Rattle.bz_base.proofs.ZeroEndedLemmas.{is_zero_ended}
use Rattle.bz_elf.specs.Symbols.{is_name}

module _ (bytes text : List ℕ) (read : Some text ≡ zero_ended bytes) where
  ends : (list_any is_zero bytes ≡ true) × (text ≡ before_zero bytes)
  ends = is_zero_ended bytes text read

  -- it is a name where it is UTF-8
  pub name_there : IsUtf8 text → is_name bytes ≡ true
  name_there good = and_from (list_any is_zero bytes) (is_utf8 (before_zero bytes)) ends.0 (is_utf8-from_IsUtf8 (before_zero bytes) (subst IsUtf8 ends.1 good))

  -- and only there
  pub name_is_text : is_name bytes ≡ true → IsUtf8 text
  name_is_text is = subst IsUtf8 (sym ends.1) (IsUtf8-from_is_utf8 (before_zero bytes) (and_parts (list_any is_zero bytes) (is_utf8 (before_zero bytes)) is).1)

-- a name begins no further than the strings reach
pub name_within : (strings : List ℕ) (place : ℕ) → is_name (drop place strings) ≡ true → place ≤ length strings
name_within strings place is = elim (cases_lt (length strings) place) [
  | inl past ↦ let nothing : drop place strings ≡ [] = drop_of_length-le strings (omega arith) in absurd (cc (ap is_name nothing, is))
  | inr within ↦ within
]
