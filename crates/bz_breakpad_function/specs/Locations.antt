-- Where an address lies in a function: the line record that answers for it, the calls around it,
-- and the site that they tell.
-- The records are those of Breakpad's docs/symbol_files.md.
-- Which line record answers is told by `Nearest` of bz_search.
use Rattle.std.specs.Prelude.{ℕ, List, [], Option, Some, None, option_map, Result, Ok, Err}
use Rattle.bz_base.specs.Answer.{Site, Call}
use Rattle.bz_base.specs.Bind.{◌>>=◌}
use Rattle.bz_base.specs.Chain.{around, chain, inner}
use Rattle.bz_base.specs.Nearest.{nearest_covering}
use Rattle.bz_base.specs.Path.{split}
use Rattle.bz_base.specs.SeenFrom as base
use Rattle.bz_base.specs.declared.error.Error.{Error}
use Rattle.bz_base.specs.declared.error.Error.TheVariants as errors
use Rattle.bz_base.specs.declared.types.FindSymOpts.{FindSymOpts}
use Rattle.bz_base.specs.declared.types.FindSymOpts.TheVariants as asked
use Rattle.bz_breakpad_lines.specs.Names.{name_for}
use Rattle.bz_breakpad_lines.specs.Table.{SourceLine, Inlinee, Function, Table}

-- where an address lies in the source code: the site in the function,
-- and the calls that were inlined there
pub record Location : Type 0 where
  pub site : Option Site
  pub calls : List Call

-- where no site is known
abbrev pub nowhere : Location
nowhere = record { site = None; calls = [] }

-- the line record that answers for the address
abbrev pub line_at : ℕ → List SourceLine → Option SourceLine
line_at addr lines = nearest_covering (λ l. l.start) (λ l. l.size) addr lines

-- the calls that were inlined around the address, the outermost first
abbrev pub calls_around : ℕ → List Inlinee → List Inlinee
calls_around addr inlinees = chain (λ i. i.depth) (λ i. i.start) (λ i. i.size) inlinees addr

-- those of them that are asked for
abbrev pub calls_asked : FindSymOpts → ℕ → List Inlinee → List Inlinee
calls_asked asked.CodeInfoAndInlined addr inlinees = calls_around addr inlinees
calls_asked _ addr inlinees = []

-- the one of a depth, if it has the address inside
abbrev pub inlinee_at : ℕ → ℕ → List Inlinee → Option Inlinee
inlinee_at depth addr inlinees =
    around (λ i. i.depth) (λ i. i.start) (λ i. i.size) addr (inner (λ i. i.depth) (λ i. i.start) depth addr inlinees)

-- a line of the file of an id, whose name is cut into directory and file.
-- None where the name isn't known or has no component
abbrev pub site_in : Table → ℕ → ℕ → Option Site
site_in table file line = option_map (λ cut. record { dir = cut.0; file = cut.1; line = Some line; column = None }) (name_for file table.files >>= split)

-- where a call stands
abbrev pub call_site : Table → Inlinee → Option Site
call_site table call = site_in table call.call_file call.call_line

-- the name of what is called
abbrev pub call_name : Table → Inlinee → Option (List ℕ)
call_name table call = name_for call.origin table.origins

-- code that lies at a site, inside calls, seen from outside a further call
abbrev pub seen_outside : Table → Inlinee → Site × List Call → Option (Site × List Call)
seen_outside table = base.seen_outside (call_site table) (call_name table)

-- where the code of a line record lies, seen from outside the calls around it;
-- none if something isn't known
abbrev pub seen_from : Table → List Inlinee → SourceLine → Option (Site × List Call)
seen_from table calls line = base.seen_from (call_site table) (call_name table) (site_in table line.file line.line) calls

-- the same in whole lists
abbrev pub IsSeen : Table → List Inlinee → SourceLine → Site × List Call → Type 0
IsSeen table calls line = base.IsSeen (call_site table) (call_name table) (site_in table line.file line.line) calls

-- what isn't known refuses the address
abbrev pub by_seen : Option (Site × List Call) → Result Location Error
by_seen None = Err errors.InvalidInput
by_seen (Some seen) = Ok (record { site = Some seen.0; calls = seen.1 })

-- where no line record answers, no site is known, and no call
abbrev pub by_line : Table → FindSymOpts → Function → ℕ → Option SourceLine → Result Location Error
by_line table opts f addr None = Ok nowhere
by_line table opts f addr (Some line) = by_seen (seen_from table (calls_asked opts addr f.inlinees) line)

-- where the address lies, as far as it is asked for, or its refusal
abbrev pub location_at : Table → FindSymOpts → Function → ℕ → Result Location Error
location_at table asked.Basic f addr = Ok nowhere
location_at table opts f addr = by_line table opts f addr (line_at addr f.lines)

-- an answer is refused by these alone
abbrev pub IsAnswerRefusal : Error → Type 0
IsAnswerRefusal errors.InvalidInput = Unit {0}
IsAnswerRefusal errors.OutOfMemory = Unit {0}
IsAnswerRefusal _ = ⊥
