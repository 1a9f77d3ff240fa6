-- A name stands where the test says so, and it is the one that stands there.
use Rattle.std.proofs.Common.{◌≡◌, ℕ, true, List, drop, refl, sym}
use Rattle.std.specs.List.{list_any}
use Rattle.std.specs.Str.{is_utf8}
use Rattle.std.proofs.lemmas.Bool.{and_parts}
use Rattle.std.proofs.lemmas.Str.{IsUtf8-from_is_utf8}
use Rattle.bz_base.specs.ZeroEnded.{IsString, before_zero, is_zero}
use Rattle.bz_base.proofs.ZeroEndedLemmas as texts
use Rattle.bz_elf.specs.Symbols.{is_name}
use Rattle.bz_elf.proofs.TextLemmas.{name_there}

module _ (strings : List ℕ) (place : ℕ) where
  pub stands : is_name (drop place strings) ≡ true → IsString strings place (before_zero (drop place strings))
  stands is =
      let rest = drop place strings in
      let both = and_parts (list_any is_zero rest) (is_utf8 (before_zero rest)) is in
      texts.stands strings place (before_zero rest) (rw both.0 refl) (IsUtf8-from_is_utf8 (before_zero rest) both.1)

  pub found : (name : List ℕ) → IsString strings place name → (is_name (drop place strings) ≡ true) × (before_zero (drop place strings) ≡ name)
  found name is =
      let rest = drop place strings in
      let read = sym (texts.in_front strings place name is) in
      (name_there rest name read is.utf8, sym (texts.is_zero_ended rest name read).1)
