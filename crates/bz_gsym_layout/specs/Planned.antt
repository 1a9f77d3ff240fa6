-- What a plan answers at an address.
use Rattle.std.specs.Prelude.{ℕ, List, [], ◌∷◌, Option, Some, None, Result, Ok, Err, if◌then◌else◌}
use Rattle.bz_base.specs.Answer.{Call, Resolved, Site}
use Rattle.bz_base.specs.Nearest.{candidate}
use Rattle.bz_base.specs.Span.{inside}
use Rattle.bz_base.specs.declared.error.Error.{Error}
use Rattle.bz_base.specs.declared.types.Reason.{Reason}
use Rattle.bz_base.specs.declared.types.Reason.TheVariants as reasons
use Rattle.bz_base.specs.declared.types.SrcLang.TheVariants as languages
use Rattle.bz_gsym_layout.specs.Nesting.{calls_in}
use Rattle.bz_gsym_layout.specs.Plan.{Called, Code, Line}
use Rattle.bz_gsym_layout.specs.Rows.{row_at}

abbrev pub site_of : Line → Site
site_of at = record { dir = Some at.source.dir; file = at.source.file; line = Some at.line; column = None }

-- a line inside calls, seen from outside them: the site, and the calls that lie there
abbrev pub seen : Line → List Called → Site × List Call
seen line [] = (site_of line, [])
seen line (c ∷ calls) =
    let inner : Site × List Call = seen line calls in
    (site_of c.at, record { name = c.name; site = Some inner.0 } ∷ inner.1)

-- where an address lies, by the row that answers there and the calls around it
abbrev pub location : Option (ℕ × Line) → List Called → Option (Site × List Call)
location None calls = None
location (Some row) calls = Some (seen row.1 calls)

abbrev pub symbol_by : Code → Option (Site × List Call) → Resolved
symbol_by c None = record { name = c.name; «module» = None; addr = c.start; size = Some c.size; lang = languages.Unknown; site = None; calls = [] }
symbol_by c (Some found) = record { name = c.name; «module» = None; addr = c.start; size = Some c.size; lang = languages.Unknown; site = Some found.0; calls = found.1 }

abbrev pub symbol_at : ℕ → Code → Resolved
symbol_at addr c = symbol_by c (location (row_at addr None c.rows) (calls_in (λ call. call.start) (λ call. call.size) addr c.calls))

abbrev pub by_code : ℕ → Option Code → Result (Result Resolved Reason) Error
by_code addr None = Ok (Err reasons.UnknownAddr)
by_code addr (Some c) = if inside c.start c.size addr then Ok (Ok (symbol_at addr c)) else Ok (Err reasons.UnknownAddr)

-- the function with the nearest start answers, if it has the address inside
abbrev pub planned : List Code → ℕ → Result (Result Resolved Reason) Error
planned codes addr = by_code addr (candidate (λ c. c.start) (λ c. 0) addr codes)
