-- How many stacks an input has at most.
use Rattle.std.proofs.Common.{◌≡◌, ◌≤◌, ◌<◌, ◌+◌, ℕ, suc, Bool, true, false, cond, nat_eq, List, [], ◌∷◌, length, Option, Some, None, Result, Ok, Err, refl, arith}
use Rattle.bz_base.specs.Byte.{line_feed}
use Rattle.bz_base.specs.Line.{all_lines, begins_line}
use Rattle.bz_requests.specs.Lines.{content_of, read_lines, said_in, with_said}
use Rattle.bz_stacks.specs.Spelling.{stack_in, stacks_in}
use Rattle.bz_stacks.specs.Stack.{CountedStack}
use Rattle.bz_requests.specs.InputText.{greatest_input}

-- there are no more lines than bytes
lines_few : (text : List ℕ) → length (all_lines text) ≤ length text
lines_few [] = omega arith
lines_few (b ∷ text) = by_end (nat_eq b line_feed) (all_lines text) (lines_few text)
  where
    by_end : (ends : Bool) (lines : List (List ℕ)) → length lines ≤ length text → length (cond ends ([] ∷ lines) (begins_line b lines)) ≤ suc (length text)
    by_end true lines few = omega (arith, few)
    by_end false [] few = omega arith
    by_end false (line ∷ lines) few = omega (arith, few)

-- and no more stacks than lines
stacks_few : (n : ℕ) (lines : List (List ℕ)) (stacks : List CountedStack) → read_lines stack_in n lines ≡ Ok stacks → length stacks ≤ length lines
stacks_few n [] stacks read = let none : stacks ≡ [] = cc in rw none (omega arith)
stacks_few n (line ∷ lines) stacks read = by_said (said_in stack_in (content_of line)) (read_lines stack_in (n + 1) lines) (stacks_few (n + 1) lines) read
  where
    by_said : (said : Option (Option CountedStack)) (others : Result (List CountedStack) ℕ) → ((rest : List CountedStack) → others ≡ Ok rest → length rest ≤ length lines) → with_said n said others ≡ Ok stacks →
        length stacks ≤ suc (length lines)
    by_said None others more is = cc
    by_said (Some said) (Err m) more is = cc
    by_said (Some None) (Ok rest) more is = let same : stacks ≡ rest = cc in let few = more rest refl in rw same (omega (arith, few))
    by_said (Some (Some stack)) (Ok rest) more is = let same : stacks ≡ stack ∷ rest = cc in let few = more rest refl in rw same (omega (arith, few))

-- so an input that isn't too long has fewer than 2^32 of them
pub few_stacks : (text : List ℕ) (stacks : List CountedStack) → length text ≤ greatest_input → stacks_in text ≡ Ok stacks → length stacks < 4294967296
few_stacks text stacks short read = omega (arith, short, lines_few text, stacks_few 1 (all_lines text) stacks read)
