-- Which bytes are a perf map, and its plain answer at an address: name, start and size of the function
-- there.
use Rattle.std.specs.Prelude.{◌≡◌, ℕ, List, [], Option, Some, None, Result, Ok, Err}
use Rattle.std.proofs.Common.{subst}
use Rattle.bz_base.specs.Answer.{Resolved}
use Rattle.bz_base.specs.Nearest.{nearest_covering}
use Rattle.bz_base.specs.Refusals.{IsFormatRefusal}
use Rattle.bz_base.specs.declared.error.Error.{Error}
use Rattle.bz_base.specs.declared.error.Error.TheVariants as errors
use Rattle.bz_base.specs.declared.types.Reason.{Reason}
use Rattle.bz_base.specs.declared.types.Reason.TheVariants as reasons
use Rattle.bz_base.specs.declared.types.SrcLang.TheVariants as languages
use Rattle.bz_proc.specs.PerfLine.{PerfFunction}
use Rattle.bz_proc.specs.PerfLines.{ArePerfLines, perf_functions_in, perf_lines}

-- the bytes are a perf map that tells these functions, in its order
abbrev pub IsPerfMap : List ℕ → List PerfFunction → Type 0
IsPerfMap bytes functions = ArePerfLines (perf_lines bytes) functions

-- the refusal of bytes that tell no functions
abbrev pub unless_told : Option (List PerfFunction) → Option Error
unless_told None = Some errors.InvalidData
unless_told (Some functions) = None

-- which refusal the bytes give; none where they are a perf map
abbrev pub format_test : List ℕ → Option Error
format_test bytes = unless_told (perf_functions_in bytes)

told_refusals : (told : Option (List PerfFunction)) (e : Error) → unless_told told ≡ Some e → IsFormatRefusal e
told_refusals None e is = let same : errors.InvalidData ≡ e = cc is in subst IsFormatRefusal same tt
told_refusals (Some functions) e is = absurd (cc is)

pub format_refusals : (bytes : List ℕ) (e : Error) → format_test bytes ≡ Some e → IsFormatRefusal e
format_refusals bytes e is = told_refusals (perf_functions_in bytes) e is

-- the functions that were told, if any were
abbrev pub functions_told : Option (List PerfFunction) → List PerfFunction
functions_told None = []
functions_told (Some functions) = functions

-- the functions of a perf map, in its order
abbrev pub functions : List ℕ → List PerfFunction
functions bytes = functions_told (perf_functions_in bytes)

-- a function as an answer: its size is told, also where it is 0
abbrev pub resolved : PerfFunction → Resolved
resolved f = record {
  name = f.name;
  «module» = None;
  addr = f.start;
  size = Some f.size;
  lang = languages.Unknown;
  site = None;
  calls = [];
}

-- what was found, or that the address isn't known
abbrev pub found : Option PerfFunction → Result Resolved Reason
found None = Err reasons.UnknownAddr
found (Some f) = Ok (resolved f)

-- the function at an address is the nearest one that covers it
abbrev pub plain : List ℕ → ℕ → Result Resolved Reason
plain bytes addr = found (nearest_covering (λ f. f.start) (λ f. f.size) addr (functions bytes))
