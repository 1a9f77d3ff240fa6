-- The string that is read at a place is the one that stands there.
use Rattle.std.proofs.Common.{◌≡◌, ℕ, Bool, true, false, List, drop, Option, Some, None, refl, sym, ap, subst, ◌∙◌}
use Rattle.std.specs.Option.{option_and_then}
use Rattle.std.specs.Str.{is_utf8}
use Rattle.std.proofs.lemmas.Option.{none-some, same_Some}
use Rattle.std.proofs.lemmas.Str.{IsUtf8-from_is_utf8, is_utf8-from_IsUtf8}
use Rattle.bz_base.specs.ZeroEnded.{IsString, zero_ended}
use Rattle.bz_base.proofs.ZeroEndedLemmas.{in_front, stands}
use Rattle.bz_gsym.specs.Strings.{checked, string_at}

module _ (table : List ℕ) (place : ℕ) (text : List ℕ) where
  pub string_spelled : IsString table place text → string_at table place ≡ Some text
  string_spelled is = ap (option_and_then checked) (in_front table place text is) ∙ rw (is_utf8-from_IsUtf8 text is.utf8) refl

  -- a text that passes is that text
  by_test : (t : List ℕ) → zero_ended (drop place table) ≡ Some t → (good : Bool) → is_utf8 t ≡ good → checked t ≡ Some text → IsString table place text
  by_test t read true is passes =
      let P : List ℕ → Type 0 = IsString table place in
      subst P (same_Some t text (sym (rw is refl) ∙ passes)) (stands table place t read (IsUtf8-from_is_utf8 t is))
  by_test t read false is passes = absurd (none-some text (sym (rw is refl) ∙ passes))

  by_text : (o : Option (List ℕ)) → zero_ended (drop place table) ≡ o → option_and_then checked o ≡ Some text → IsString table place text
  by_text None read none = absurd (none-some text none)
  by_text (Some t) read passes = by_test t read (is_utf8 t) refl passes

  pub string_found : string_at table place ≡ Some text → IsString table place text
  string_found read = by_text (zero_ended (drop place table)) refl read
