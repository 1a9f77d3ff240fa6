-- The plain answer of a GSYM file at an address: the symbol there, and where the address lies in the
-- source code.
use Rattle.std.specs.Prelude.{ℕ, ◌+◌, ◌-◌, ◌==◌, ◌||◌, nat_lt, Bool, if◌then◌else◌, List, Option, Some, None, option_map, Result, Ok, Err}
use Rattle.std.specs.List.{zip}
use Rattle.bz_base.specs.Answer.{Resolved}
use Rattle.bz_base.specs.Bind.{◌>>=◌}
use Rattle.bz_base.specs.Nearest.{candidate}
use Rattle.bz_base.specs.Span.{inside}
use Rattle.bz_base.specs.declared.error.Error.{Error}
use Rattle.bz_base.specs.declared.error.Error.TheVariants as errors
use Rattle.bz_base.specs.declared.types.FindSymOpts.{FindSymOpts}
use Rattle.bz_base.specs.declared.types.Reason.{Reason}
use Rattle.bz_base.specs.declared.types.Reason.TheVariants as reasons
use Rattle.bz_base.specs.declared.types.SrcLang.TheVariants as languages
use Rattle.bz_gsym.specs.Entries.{Info, entries_in, info_at}
use Rattle.bz_gsym.specs.Header.{header_of}
use Rattle.bz_gsym.specs.Joining.{Location, location_by, facts_of}
use Rattle.bz_gsym.specs.Strings.{string_at}
use Rattle.bz_gsym.specs.Tables.{starts, data_places, strings}

-- each start with its data place
abbrev pub symbols : List ℕ → List (ℕ × ℕ)
symbols bytes = zip (starts bytes) (data_places bytes)

-- the symbol that is to be tried at a distance from the base, as if all were of one size. It is the
-- first of those that start there, else the last of those with the nearest start below
abbrev pub nearest_start : List ℕ → ℕ → Option (ℕ × ℕ)
nearest_start bytes distance = candidate (λ (symbol : ℕ × ℕ). symbol.0) (λ symbol. 0) distance (symbols bytes)

-- its address and its data place
abbrev pub based : ℕ → ℕ × ℕ → ℕ × ℕ
based base symbol = (base + symbol.0, symbol.1)

-- address and data place of the symbol that is to be tried at an address; none below the base address
abbrev pub nearest_symbol : List ℕ → ℕ → Option (ℕ × ℕ)
nearest_symbol bytes addr =
    let base : ℕ = (header_of bytes).base_address in
    if nat_lt addr base then None else option_map (based base) (nearest_start bytes (addr - base))

-- a symbol reaches addresses from its start on. One of size 0 reaches all up to the next start; another
-- one those before its end, if that fits 64 bits
abbrev pub reaches : ℕ → ℕ → ℕ → Bool
reaches start size addr = size == 0 || inside start size addr

-- a symbol with its location; without one it is refused
abbrev pub symbol_at : ℕ → ℕ → Option Location → Result (Result Resolved Reason) Error
symbol_at start size None = Err errors.InvalidData
symbol_at start size (Some location) = Ok (Ok (record {
  name = location.name;
  «module» = None;
  addr = start;
  size = Some size;
  lang = languages.Unknown;
  site = location.site;
  calls = location.calls;
}))

-- the name of a symbol's data, and what its entries say; each refuses the address if it isn't in the
-- format
abbrev pub location_of : List ℕ → FindSymOpts → ℕ → ℕ → Info → Option Location
location_of bytes opts addr start info = do
  name ← string_at (strings bytes) info.name
  facts ← facts_of opts start addr (entries_in info.rest)
  location_by bytes name facts.row facts.frames

-- what a symbol with this start and data says of an address from the start on; without data it is
-- refused
abbrev pub answer_of : List ℕ → FindSymOpts → ℕ → ℕ → Option Info → Result (Result Resolved Reason) Error
answer_of bytes opts addr start None = Err errors.InvalidData
answer_of bytes opts addr start (Some info) =
    if reaches start info.size addr then symbol_at start info.size (location_of bytes opts addr start info) else Ok (Err reasons.UnknownAddr)

-- what the symbol that is to be tried says, if there is one
abbrev pub tried : List ℕ → FindSymOpts → ℕ → Option (ℕ × ℕ) → Result (Result Resolved Reason) Error
tried bytes opts addr None = Ok (Err reasons.UnknownAddr)
tried bytes opts addr (Some symbol) = answer_of bytes opts addr symbol.0 (info_at bytes symbol.1)

-- the symbol at an address as far as the options ask, or why there is none. It is refused where what is
-- asked of it isn't in the format
abbrev pub plain : List ℕ → FindSymOpts → ℕ → Result (Result Resolved Reason) Error
plain bytes opts addr = tried bytes opts addr (nearest_symbol bytes addr)
