-- What a line is, which depends on the record before it.
-- This is after "Line records", "INLINE records" and "STACK CFI records" of docs/symbol_files.md among
-- Breakpad's sources.
use Rattle.std.specs.Prelude.{◌≡◌, ℕ, Bool, true, false, List, [], ◌++◌, drop, Option, Some, None, option_map}
use Rattle.std.specs.List.{prefix_len}
use Rattle.bz_base.specs.Bind.{◌>>=◌}
use Rattle.bz_base.specs.Byte.{begins_with}
use Rattle.bz_breakpad_lines.specs.Byte.{is_white}
use Rattle.bz_breakpad_lines.specs.Form.{AllPass, Spells}
use Rattle.bz_breakpad_lines.specs.Reads.{form_at}
use Rattle.bz_breakpad_lines.specs.Choice.{One, SpellsOne, one_at, IsBody, body_at}
use Rattle.bz_breakpad_lines.specs.Kinds.{TopRecord, top_of}
use Rattle.bz_breakpad_lines.specs.Kinds.TopRecord.{Func, StackCfiInit}
use Rattle.bz_breakpad_lines.specs.Records.{TOP, INNER, STACK_CFI}

-- the record under which a line stands
pub data Context : Type 0 where
  Outside : Context
  InFunc : Context
  InCfi : Context

-- the record that a line is
pub data Record : Type 0 where
  Top : One TOP → Record  -- a record that stands by itself
  OfFunc : One INNER → Record  -- an inner record, which belongs to a FUNC record
  OfCfi : Record  -- a STACK CFI record, which belongs to a STACK CFI INIT record

-- the context of the lines under a record that stands by itself
abbrev pub context_under : TopRecord → Context
context_under (Func f) = InFunc
context_under StackCfiInit = InCfi
context_under _ = Outside

abbrev pub context_of : One TOP → Context
context_of one = context_under (top_of one)

-- the context of the line after the record
abbrev pub context_after : Record → Context
context_after (Top one) = context_of one
context_after (OfFunc one) = InFunc
context_after OfCfi = InCfi

-- white space may stand after a record that stands by itself
abbrev pub white_allowed_after : Record → Bool
white_allowed_after (Top one) = true
white_allowed_after _ = false

-- the body is that of a record that stands under another
abbrev pub IsUnder : Context → List ℕ → Record → Type 0
IsUnder InFunc body (OfFunc one) = SpellsOne INNER body one
IsUnder InCfi body OfCfi = Spells STACK_CFI body tt
IsUnder _ body _ = ⊥

-- the record of a body: one under its context, where it has such a form,
-- and else one that stands by itself
abbrev pub IsBodyOf : Context → List ℕ → Record → Type 0
IsBodyOf c body (Top one) = ((r : Record) → IsUnder c body r → ⊥) × SpellsOne TOP body one
IsBodyOf c body r = IsUnder c body r

abbrev pub IsRecord : Context → List ℕ → Record → Type 0
IsRecord c line r = (body : List ℕ) × IsBody line body × IsBodyOf c body r

-- the record's text in its line: what is left after white space, where that may stand
pub record IsText (white_allowed : Bool) (line text : List ℕ) : Type 0 where
  pub front : List ℕ
  pub whole : line ≡ front ++ text
  pub white : AllPass is_white front
  pub bound : white_allowed ≡ false → front ≡ []
  pub longest : white_allowed ≡ true → begins_with is_white text ≡ false

abbrev pub or_record : Option Record → Option Record → Option Record
or_record (Some r) other = Some r
or_record None other = other

-- the record that the body is under the one that the context names, if it has such a form
abbrev pub under_at : Context → List ℕ → Option Record
under_at Outside body = None
under_at InFunc body = option_map OfFunc (one_at INNER body)
under_at InCfi body = option_map (λ _. OfCfi) (form_at STACK_CFI body)

-- the record of a body in the context
abbrev pub body_record : Context → List ℕ → Option Record
body_record c body = or_record (under_at c body) (option_map Top (one_at TOP body))

-- the record of a line in the context
unfoldable pub record_at : Context → List ℕ → Option Record
record_at c line = body_at line >>= (λ body. body_record c body)

unfoldable pub after_white : Bool → List ℕ → List ℕ
after_white true line = drop (prefix_len is_white line) line
after_white false line = line
