-- A line in ASCII, seen by the bits of loads.
use Rattle.std.proofs.Common.{◌≡◌, ℕ, zero, suc, ◌+◌, ◌<◌, ◌≤◌, Bool, true, false, cond, List, [], ◌∷◌, ◌++◌, length, take, drop, nat_eq, refl, sym, ap, ◌∙◌, arith}
use Rattle.std.specs.List.{prefix_len, slice_index}
use Rattle.std.specs.Str.{IsAscii, IsUtf8}
use Rattle.std.proofs.lemmas.Bool.{or_from, false_from_ne_true, eqb-true, false≢true}
use Rattle.std.proofs.lemmas.List.{take-append-drop}
use Rattle.std.proofs.lemmas.Str.{IsUtf8-from_ascii}
use Rattle.bz_base.specs.Byte.{line_feed, is_blank, HasNo, begins_with}
use Rattle.bz_breakpad_lines.specs.Byte.{is_ascii_in_line}
use Rattle.bz_breakpad_lines.specs.Form.{AllPass}
use Rattle.bz_breakpad_lines.specs.Quick.{IsAsciiLine}
use Rattle.bz_breakpad_lines.proofs.FieldLemmas.{byte_at}

module _ (p : ℕ → Bool) where
  -- each byte of a part of a run passes
  run_passes : (n : ℕ) (text : List ℕ) → n ≤ prefix_len p text → AllPass p (take n text)
  run_passes zero text within = tt
  run_passes (suc n) [] within = tt
  run_passes (suc n) (b ∷ text) within = step (p b) refl (run_passes n text) within where
    step : (test : Bool) → p b ≡ test → (n ≤ prefix_len p text → AllPass p (take n text)) → suc n ≤ cond test (1 + prefix_len p text) 0 →
        (p b ≡ true) × AllPass p (take n text)
    step true is rest within = (is, rest (omega arith))
    step false is rest within = absurd (omega arith)

  -- a byte that fails doesn't stand where all pass
  pub none_of : (byte : ℕ) → p byte ≡ false → (text : List ℕ) → AllPass p text → HasNo byte text
  none_of byte fails [] all = refl
  none_of byte fails (b ∷ text) all =
      or_from _ _ (false_from_ne_true (nat_eq b byte) (λ same. false≢true (sym fails ∙ ap p (sym (eqb-true b byte same)) ∙ all.0)))
      (none_of byte fails text all.1)

plain_ascii : (b : ℕ) → is_ascii_in_line b ≡ true → b < 128
plain_ascii b plain = grind arith

all_ascii : (name : List ℕ) → AllPass is_ascii_in_line name → IsAscii name
all_ascii [] all i = omega arith
all_ascii (b ∷ name) all zero = plain_ascii b all.0
all_ascii (b ∷ name) all (suc i) = all_ascii name all.1 i

-- a name in ASCII is a text
pub plain_utf8 : (name : List ℕ) → AllPass is_ascii_in_line name → IsUtf8 name
plain_utf8 name all = IsUtf8-from_ascii name (all_ascii name all)

-- a line in ASCII stands in front where a line feed ends it
pub line_in_front : (text : List ℕ) (n : ℕ) → n ≤ prefix_len is_ascii_in_line text → n < length text → slice_index text n ≡ line_feed → IsAsciiLine text (take n text) (drop (n + 1) text)
line_in_front text n plain within ends = record {
  cut = sym (take-append-drop n text) ∙ ap (λ rest. take n text ++ rest) (byte_at n line_feed text within ends);
  bytes = run_passes is_ascii_in_line n text plain;
}

-- what begins with no blank still doesn't with a line feed after it
pub before_feed : (name rest : List ℕ) → begins_with is_blank name ≡ false → begins_with is_blank (name ++ line_feed ∷ rest) ≡ false
before_feed [] rest solid = refl
before_feed (b ∷ name) rest solid = solid
