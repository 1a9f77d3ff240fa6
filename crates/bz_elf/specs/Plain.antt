-- The plain answer of an ELF file at an address: name, start and size of the symbol there.
use Rattle.std.specs.Prelude.{ℕ, ◌==◌, if◌then◌else◌, List, [], ◌∷◌, Option, Some, None, Result, Ok, Err}
use Rattle.bz_base.specs.Answer.{Resolved}
use Rattle.bz_base.specs.Nearest.{nearest_covering}
use Rattle.bz_base.specs.declared.types.Reason.{Reason}
use Rattle.bz_base.specs.declared.types.Reason.TheVariants as reasons
use Rattle.bz_base.specs.declared.types.SrcLang.TheVariants as languages
use Rattle.bz_elf.specs.Symbols.{Symbol, symbols}

-- a size that is told; 0 says that it isn't known
abbrev pub told_size : ℕ → Option ℕ
told_size size = if size == 0 then None else Some size

-- the symbol as an answer, of a module
abbrev pub resolved : Option (List ℕ) → Symbol → Resolved
resolved «module» symbol = record {
  name = symbol.name;
  «module» = «module»;
  addr = symbol.start;
  size = told_size symbol.size;
  lang = languages.Unknown;
  site = None;
  calls = [];
}

-- what was found, or that the address isn't known
abbrev pub found : Option (List ℕ) → Option Symbol → Result Resolved Reason
found «module» None = Err reasons.UnknownAddr
found «module» (Some symbol) = Ok (resolved «module» symbol)

-- of symbols in the order of their file, what the nearest says, if it covers the address; without
-- symbols, that they are missing
abbrev pub answer_in : Option (List ℕ) → List Symbol → ℕ → Result Resolved Reason
answer_in «module» [] addr = Err reasons.MissingSyms
answer_in «module» (symbol ∷ later) addr = found «module» (nearest_covering (λ s. s.start) (λ s. s.size) addr (symbol ∷ later))

-- the symbol at an address, or why there is none
abbrev pub plain : Option (List ℕ) → List ℕ → ℕ → Result Resolved Reason
plain «module» bytes addr = answer_in «module» (symbols bytes) addr
