-- The walk over all lines: what is read of the rest is what is read of the bytes.
use Rattle.std.proofs.Common.{◌≡◌, ℕ, ◌+◌, ◌-◌, ◌<◌, ◌≤◌, false, List, [], ◌∷◌, ◌++◌, length, drop, Option, Some, None, option_map, refl, sym, ap, ◌∙◌, arith, length-append}
use Rattle.std.proofs.Math.Seq.{drop-drop, drop-append_seam}
use Rattle.bz_base.specs.Bind.{◌>>=◌}
use Rattle.bz_base.specs.Byte.{line_feed, HasNo}
use Rattle.bz_base.specs.Line.{ended, ended_lines}
use Rattle.bz_breakpad_lines.specs.Line.{line_front}
use Rattle.bz_breakpad_lines.specs.Reader.{Reading, lines_read, nothing_read, reading_in}
use Rattle.bz_breakpad_lines.specs.Told.{context_told}
use Rattle.bz_breakpad_lines.specs.Contexts.Context.{Outside}
use Rattle.bz_breakpad_table.specs.Walked.{HasRead, IsLineAt, IsMidway, IsStep, IsWalked, lines_on}
use Rattle.bz_breakpad_table.specs.declared.walk.Walk.{Walk}
use Rattle.bz_breakpad_lines.proofs.LineFrontLemmas.{line_front_of}

module _ (bytes rest line after : List ℕ) (whole : rest ≡ ended line ++ after) where
  ended_length : length (ended line) ≡ length line + 1
  ended_length = length-append line (line_feed ∷ [])

  pub rest_length : length rest ≡ length line + 1 + length after
  rest_length = omega (arith, ap length whole, length-append (ended line) after, ended_length)

  -- the line stands where the rest begins
  pub line_stands : HasNo line_feed line → length rest ≤ length bytes → drop (length bytes - length rest) bytes ≡ rest →
      IsLineAt bytes (length bytes - length rest) line
  line_stands none within stands = record {
    within = omega arith;
    line_is = ap line_front (stands ∙ whole) ∙ line_front_of line after none;
  }

  -- and what comes after it stands after it
  pub after_stands : length rest ≤ length bytes → drop (length bytes - length rest) bytes ≡ rest → drop (length bytes - length after) bytes ≡ after
  after_stands within stands =
      let start : length bytes - length after ≡ (length bytes - length rest) + length (ended line) = omega (arith, within, rest_length, ended_length) in
      ap (λ n. drop n bytes) start
      ∙ sym (drop-drop (length (ended line)) (length bytes - length rest) bytes)
      ∙ ap (drop (length (ended line))) (stands ∙ whole)
      ∙ drop-append_seam (ended line) after

lines_step : (bytes line : List ℕ) (old new : Walk) (reading : Reading) (step : IsStep bytes old new line reading) (lines : Option (List (List ℕ))) →
    lines_on new step.next lines ≡ lines_on old reading (option_map (λ more. line ∷ more) lines)
lines_step bytes line old new reading step None = refl
lines_step bytes line old new reading step (Some lines) = sym (step.same lines)

-- after one line more the walk is midway still
pub midway_on : (bytes rest line after : List ℕ) (old new : Walk) (m : IsMidway bytes rest old) → rest ≡ ended line ++ after →
    ended_lines rest ≡ option_map (λ lines. line ∷ lines) (ended_lines after) → IsStep bytes old new line m.reading → new.count ≤ old.count + 1 →
    IsMidway bytes after new
midway_on bytes rest line after old new m whole lines step few = record {
  reading = step.next;
  walked = step.walked;
  within = omega (arith, m.within, rest_length bytes rest line after whole);
  rest_is = after_stands bytes rest line after whole m.within m.rest_is;
  left = lines_step bytes line old new m.reading step (ended_lines after) ∙ ap (lines_on old m.reading) (sym lines) ∙ m.left;
  few = omega (arith, few, m.few, m.within, rest_length bytes rest line after whole);
}

reading_in-some : (bytes : List ℕ) → 0 < length bytes → (ended_lines bytes >>= lines_read Outside false nothing_read) ≡ reading_in bytes
unfolding reading_in
reading_in-some [] some = absurd (omega arith)
reading_in-some (b ∷ bytes) some = refl

-- of no bytes nothing is read
pub reading_in-none : (bytes : List ℕ) → bytes ≡ [] → reading_in bytes ≡ None
unfolding reading_in
reading_in-none bytes none = ap reading_in none

-- the walk at the front is midway
pub midway_front : (bytes : List ℕ) (walk : Walk) → 0 < length bytes → IsWalked bytes walk nothing_read → context_told walk.context ≡ Outside → walk.white_allowed ≡ false →
    IsMidway bytes bytes walk
midway_front bytes walk some walked context white_allowed =
    let none : length bytes - length bytes ≡ 0 = omega arith in
    record {
      reading = nothing_read;
      walked = walked;
      within = omega arith;
      rest_is = ap (λ n. drop n bytes) none;
      left =
          ap (λ c. ended_lines bytes >>= lines_read c walk.white_allowed nothing_read) context
          ∙ ap (λ f. ended_lines bytes >>= lines_read Outside f nothing_read) white_allowed
          ∙ reading_in-some bytes some;
      few = omega (arith, walked.count_is);
    }

-- the walk at the end has read the bytes
pub midway_end : (bytes rest : List ℕ) (walk : Walk) → IsMidway bytes rest walk → rest ≡ [] → HasRead bytes walk
midway_end bytes rest walk m ends = record {
  reading = m.reading;
  walked = m.walked;
  is = sym m.left ∙ ap (λ r. lines_on walk m.reading (ended_lines r)) ends;
}
