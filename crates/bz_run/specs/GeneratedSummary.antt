-- What is counted of answers, and the summary of a generated job.
use Rattle.std.specs.Prelude.{ℕ, ◌+◌, ◌≤◌, Bool, true, false, not, cond, List, ◌++◌, length, codes, decimal}
use Rattle.std.specs.List.{count_by, sum_by}
use Rattle.bz_base.specs.Answer.{Answer}
use Rattle.bz_base.specs.Answer.Answer.{Known, Unknown}
use Rattle.bz_run.specs.declared.generating.tally.Tally.{Tally}

abbrev pub is_known : Answer → Bool
is_known (Known symbol) = true
is_known (Unknown reason) = false

-- how many inlined calls an answer has
abbrev pub calls_in : Answer → ℕ
calls_in (Known symbol) = length symbol.calls
calls_in (Unknown reason) = 0

-- how far its address lies past the symbol's start, where it is known
abbrev pub offset_in : Answer → ℕ
offset_in (Known symbol) = symbol.offset
offset_in (Unknown reason) = 0

-- how many answers are known, and how many aren't
abbrev pub known : List Answer → ℕ
known answers = count_by is_known answers

abbrev pub unknown : List Answer → ℕ
unknown answers = count_by (λ answer. not (is_known answer)) answers

-- the inlined calls of all answers, and the sum of all offsets
abbrev pub inlined : List Answer → ℕ
inlined answers = sum_by calls_in answers

abbrev pub offsets : List Answer → ℕ
offsets answers = sum_by offset_in answers

abbrev pub tally_of : List Answer → Tally
tally_of answers = record { known = known answers; unknown = unknown answers; inlined = inlined answers; offsets = offsets answers }

-- the tally of one answer more
abbrev pub with_answer : Answer → Tally → Tally
with_answer answer tally = record {
  known = tally.known + cond (is_known answer) 1 0;
  unknown = tally.unknown + cond (not (is_known answer)) 1 0;
  inlined = tally.inlined + calls_in answer;
  offsets = tally.offsets + offset_in answer;
}

-- each number of the tally fits in 64 bits
pub record Fits (tally : Tally) : Type 0 where
  pub known : tally.known ≤ 18446744073709551615
  pub unknown : tally.unknown ≤ 18446744073709551615
  pub inlined : tally.inlined ≤ 18446744073709551615
  pub offsets : tally.offsets ≤ 18446744073709551615

-- NAME NUMBER
abbrev pub line : List ℕ → ℕ → List ℕ
line name number = name ++ (codes " " ++ (decimal number ++ codes "\n"))

-- what was asked for and what was counted, each on a line of its own
abbrev pub tally_text : ℕ → ℕ → Tally → List ℕ
tally_text functions addresses tally =
    line (codes "functions") functions ++ (line (codes "addresses") addresses ++ (line (codes "known") tally.known
    ++ (line (codes "unknown") tally.unknown ++ (line (codes "inlined") tally.inlined ++ line (codes "offsets") tally.offsets))))

-- the summary of the answers to so many addresses among so many functions
abbrev pub summary_text : ℕ → ℕ → List Answer → List ℕ
summary_text functions addresses answers = tally_text functions addresses (tally_of answers)
