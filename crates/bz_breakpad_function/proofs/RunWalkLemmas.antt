-- The first line of a run at the front of a text, and the run after it.
use Rattle.std.proofs.Common.{◌≡◌, ℕ, suc, ◌+◌, ◌-◌, ◌<◌, ◌≤◌, not, nat_eq, List, [], ◌∷◌, ◌++◌, take, drop, Option, ap, ◌∙◌, arith}
use Rattle.std.specs.List.{filter_map, prefix_len}
use Rattle.std.specs.Prelude.{unwrap_or}
use Rattle.std.proofs.lemmas.List.{length-take-le, take-take}
use Rattle.std.proofs.lemmas.List.Elements.{filter_map-append}
use Rattle.bz_base.specs.Byte.{line_feed}
use Rattle.bz_base.specs.Line.{all_lines}
use Rattle.bz_breakpad_lines.specs.Line.{line_in}
use Rattle.bz_breakpad_lines.specs.LineStarts.{line_read, no_line}
use Rattle.bz_breakpad_lines.specs.Table.{SourceLine}
use Rattle.bz_breakpad_lines.proofs.LaneLemmas.{front_from}
use Rattle.bz_breakpad_table.specs.LineRun.{IsCut, IsRunFront, lines_in}
use Rattle.bz_breakpad_table.proofs.RunLemmas.{lines_cut, only_is}
use Rattle.bz_breakpad_function.proofs.RunFrontLemmas.{back_front, cut_first, few_lines, front_front_run}

-- bytes up to a line feed, and no further, are one line record
pub one_line : (text : List ℕ) (len : ℕ) → IsRunFront text len → 0 < len → len ≤ suc (prefix_len (λ b. not (nat_eq b line_feed)) text) →
    lines_in (take len text) ≡ line_read text 0 ∷ []
one_line text len front some short =
    only_is (take len text) (omega (arith, some, length-take-le len text front.within)) front.run.read (few_lines len text short)
    ∙ ap (λ (o : Option SourceLine). unwrap_or o no_line ∷ []) (front.same 0 some)

-- The first line, where others come after it.
module _ (text : List ℕ) (len : ℕ) (front : IsRunFront text len) (end : ℕ) (is : end ≡ prefix_len (λ b. not (nat_eq b line_feed)) text) (before : end + 1 < len) where
  cut_is : IsCut (take len text) (end + 1)
  cut_is = cut_first len text front.within end is before

  -- it is the first line record, and the others are those of the run after it
  pub line_then : lines_in (take len text) ≡ line_read text 0 ∷ lines_in (take (len - (end + 1)) (drop (end + 1) text))
  line_then =
      ap (filter_map line_in) (lines_cut (take len text) (end + 1) cut_is)
      ∙ filter_map-append line_in (all_lines (take (end + 1) (take len text))) (all_lines (drop (end + 1) (take len text)))
      ∙ ap (λ first. lines_in first ++ lines_in (drop (end + 1) (take len text))) (take-take (end + 1) len text (omega (arith, before)))
      ∙ ap (λ later. lines_in (take (end + 1) text) ++ lines_in later) (front_from (end + 1) len text)
      ∙ ap (λ (first : List SourceLine). first ++ lines_in (take (len - (end + 1)) (drop (end + 1) text)))
      (one_line text (end + 1) (front_front_run text len front (end + 1) cut_is) (omega arith) (omega (arith, is)))

  pub front_then : IsRunFront (drop (end + 1) text) (len - (end + 1))
  front_then = back_front text len front (end + 1) cut_is
