-- GSYM files as versions of files: which refusal their bytes give.
use Rattle.std.specs.Prelude.{◌≡◌, ℕ, if◌then◌else◌, List, Option, Some, None}
use Rattle.bz_base.specs.Refusals.{IsFormatRefusal}
use Rattle.bz_base.specs.declared.error.Error.{Error}
use Rattle.bz_base.specs.declared.error.Error.TheVariants as errors
use Rattle.bz_cache.specs.Format.{refused_by}
use Rattle.bz_gsym.specs.Tables.{is_gsym}

-- which refusal the bytes give; none where they are a GSYM file
abbrev pub format_test : List ℕ → Option Error
format_test bytes = if is_gsym bytes then None else Some errors.InvalidData

-- that refusal is one of a format's
pub format_refusals : (bytes : List ℕ) (e : Error) → format_test bytes ≡ Some e → IsFormatRefusal e
format_refusals bytes e is = refused_by (is_gsym bytes) errors.InvalidData e tt is
