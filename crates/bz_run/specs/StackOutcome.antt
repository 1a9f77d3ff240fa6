-- What a run over an input of stacks writes and ends with where nothing fails: a function of path,
-- settings, input and world.
use Rattle.std.specs.Prelude.{ℕ, List, Result, Ok, Err}
use Rattle.bz_base.specs.Answer.{Answer}
use Rattle.bz_base.specs.declared.error.Error.{Error}
use Rattle.bz_files.specs.World.{World, entry_at}
use Rattle.bz_requests.specs.declared.requests.Config.{Config}
use Rattle.bz_stacks.specs.Spelling.{stacks_in}
use Rattle.bz_stacks.specs.Stack.{CountedStack}
use Rattle.bz_stacks.specs.Text.{folded_text}
use Rattle.bz_symbolize.specs.Lookup.{breakpad_answer, fresh_answer}
use Rattle.bz_requests.specs.InputText.{by_length}
use Rattle.bz_symq.specs.Kept.{opts_in}
use Rattle.bz_symq.specs.Outcome.{Outcome, bad_line, done_with, refused, too_long}
use Rattle.bz_stacks.specs.Fold.{addrs_of, seen_by}

-- what the Breakpad file at the path answers to the addresses of the stacks, set side by side
abbrev pub answers_in : List ℕ → Config → World → List CountedStack → Result (List Answer) Error
answers_in path config world stacks = fresh_answer (breakpad_answer (opts_in config) (addrs_of stacks)) (entry_at world path)

-- the text of the stacks by these answers, or the refusal
abbrev pub folded_by : List CountedStack → Result (List Answer) Error → Result (List ℕ) Error
folded_by stacks (Ok answers) = Ok (folded_text (seen_by stacks answers))
folded_by stacks (Err e) = Err e

-- the text is written, or the refusal
abbrev pub by_text : Result (List ℕ) Error → Outcome
by_text (Ok text) = done_with text
by_text (Err e) = refused e

-- stacks are folded, and a bad line is named
abbrev pub by_stacks : List ℕ → Config → World → Result (List CountedStack) ℕ → Outcome
by_stacks path config world (Ok stacks) = by_text (folded_by stacks (answers_in path config world stacks))
by_stacks path config world (Err n) = bad_line n

-- the whole input comes first, then the file
abbrev pub stacks_outcome : List ℕ → Config → List ℕ → World → Outcome
stacks_outcome path config text world = by_length text too_long (by_stacks path config world (stacks_in text))
